use Rattle.std.proofs.Common.{◌∙◌, ◌+◌, ap, sym}
use Rattle.serde_json.specs.Data.{string}
use Rattle.cm_messages.specs.Layout.{id_data}
use Rattle.cm_messages.specs.DocumentLayout.{location_data, keyword_word, argument_table, argument_doc_string}
use Rattle.cm_messages.proofs.Layouts.{present-argument, step_sent}
use Rattle.std.proofs.lemmas.Result.{on_ok_weaker}
use Rattle.cm_messages.proofs.document_message.StepSendJsonMessageLayout.send.Goals as goal

pub returns : goal.returns
returns g c =
    let s = c.args.self.now in
    on_ok_weaker c.end_map.result (λ ended. step_sent (argument_table s.location s.argument) (argument_doc_string s.argument) (id_data s.node) (string s.keyword) (string (keyword_word s.kind)) (location_data s.location) (string s.text) (5 + c.one_if-count.result) (g.S.Serializer.written c.args.out.now) (g.S.Serializer.written c.begin_map.new.self) (g.S.Serializer.written c.send_data_table.new.out) (g.S.Serializer.written c.send_doc_string.new.out) (g.S.Serializer.written c.send_member.new.out) (g.S.Serializer.written c.send_text.new.out) (g.S.Serializer.written c.send_keyword_type.new.out) (g.S.Serializer.written c.send_member-2.new.out) (g.S.Serializer.written c.send_text-2.new.out) (g.S.Serializer.written c.end_map.new.self) (ap (λ n. 5 + n) (c.one_if-count.ensures.is ∙ sym (present-argument s.location s.argument))) c.in_ok-begin_map.ensures c.in_ok-send_data_table.ensures c.in_ok-send_doc_string.ensures c.in_ok-send_member.ensures c.in_ok-send_text.ensures c.in_ok-send_keyword_type.ensures c.in_ok-send_member-2.ensures c.in_ok-send_text-2.ensures ended) c.end_map.ensures
