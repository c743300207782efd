use Rattle.std.proofs.Common.{◌+◌, option_map}
use Rattle.serde_json.specs.Data.{Data, string}
use Rattle.gk_document.specs.declared.tree.ExampleTable.{ExampleTable}
use Rattle.gk_document.specs.ExampleRows.{table_rows_of}
use Rattle.cm_messages.specs.Layout.{list_data, id_data}
use Rattle.cm_messages.specs.DocumentLayout.{location_data, row_data, tag_data}
use Rattle.cm_messages.proofs.Layouts.{counted, present-option_map, examples_sent}
use Rattle.std.proofs.lemmas.Result.{on_ok_weaker}
use Rattle.cm_messages.proofs.document_message.ExamplesSendJsonMessageLayout.send.Goals as goal

pub returns : goal.returns
returns g c =
    let e = c.args.self.now in
    let header_data : ExampleTable → Data = λ t. row_data t.header in
    let header = option_map header_data e.table in
    on_ok_weaker c.end_map.result (λ ended. examples_sent header (string e.description) (id_data e.node) (string e.keyword) (location_data e.location) (string e.name) (list_data row_data (table_rows_of e.table)) (list_data tag_data e.tags) (7 + c.one_if-count.result) (g.S.Serializer.written c.args.out.now) (g.S.Serializer.written c.begin_map.new.self) (g.S.Serializer.written c.send_text.new.out) (g.S.Serializer.written c.send_member.new.out) (g.S.Serializer.written c.send_text-2.new.out) (g.S.Serializer.written c.send_member-2.new.out) (g.S.Serializer.written c.send_text-3.new.out) (g.S.Serializer.written c.send_body.new.out) (g.S.Serializer.written c.send_optional.new.out) (g.S.Serializer.written c.send_list_member.new.out) (g.S.Serializer.written c.end_map.new.self) (counted 7 _ _ header c.one_if-count.ensures.is (present-option_map header_data e.table)) c.in_ok-begin_map.ensures c.in_ok-send_text.ensures c.in_ok-send_member.ensures c.in_ok-send_text-2.ensures c.in_ok-send_member-2.ensures c.in_ok-send_text-3.ensures c.in_ok-send_body.ensures c.in_ok-send_optional.ensures c.in_ok-send_list_member.ensures ended) c.end_map.ensures
