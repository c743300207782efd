use Rattle.std.proofs.Common.{◌+◌, ◌∙◌, sym, option_map}
use Rattle.serde_json.specs.Data.{string}
use Rattle.cm_messages.specs.Layout.{list_data}
use Rattle.cm_messages.proofs.Layouts.{present-option_map}
use Rattle.cm_differs.specs.PickleData.{argument_data, kind_data}
use Rattle.cm_differs.proofs.Sent.{two_counted, pickle_step_sent}
use Rattle.std.proofs.lemmas.Result.{on_ok_weaker}
use Rattle.cm_differs.proofs.difference.PickleStepSendJsonDifferenceLayout.send.Goals as goal

pub returns : goal.returns
returns g c =
    let s = c.args.self.now in
    let argument = option_map argument_data s.argument in
    let kind = option_map kind_data s.kind in
    on_ok_weaker c.end_map.result (λ ended. pickle_step_sent argument kind (list_data string s.ast_node_ids) (string s.text) (2 + c.one_if-arguments.result + c.one_if-kinds.result) (g.S.Serializer.written c.args.out.now) (g.S.Serializer.written c.begin_map.new.self) (g.S.Serializer.written c.send_optional.new.out) (g.S.Serializer.written c.send_list_member.new.out) (g.S.Serializer.written c.send_text.new.out) (g.S.Serializer.written c.send_optional-2.new.out) (g.S.Serializer.written c.end_map.new.self) (two_counted _ _ argument kind (c.one_if-arguments.ensures.is ∙ sym (present-option_map argument_data s.argument)) (c.one_if-kinds.ensures.is ∙ sym (present-option_map kind_data s.kind))) c.in_ok-begin_map.ensures c.in_ok-send_optional.ensures c.in_ok-send_list_member.ensures c.in_ok-send_text.ensures c.in_ok-send_optional-2.ensures ended) c.end_map.ensures
