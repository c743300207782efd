use Rattle.std.proofs.Common.{◌+◌, option_map}
use Rattle.serde_json.specs.Data.{string}
use Rattle.cm_messages.specs.Layout.{list_data, id_data}
use Rattle.cm_messages.specs.PickleLayout.{argument_data, type_word}
use Rattle.cm_messages.proofs.Layouts.{counted, present-option_map, pickle_step_sent}
use Rattle.std.proofs.lemmas.Result.{on_ok_weaker}
use Rattle.cm_messages.proofs.pickle_message.send_pickle_step.Goals as goal

pub returns : goal.returns
returns g c =
    let s = c.args.step.now in
    let argument = option_map argument_data s.argument in
    on_ok_weaker c.end_map.result (λ ended. pickle_step_sent argument (list_data id_data s.nodes) (id_data c.args.id) (string s.text) (string (type_word s.kind)) (4 + c.one_if-count.result) (g.S.Serializer.written c.args.out.now) (g.S.Serializer.written c.begin_map.new.self) (g.S.Serializer.written c.send_optional.new.out) (g.S.Serializer.written c.send_list_member.new.out) (g.S.Serializer.written c.send_member.new.out) (g.S.Serializer.written c.send_text.new.out) (g.S.Serializer.written c.send_step_type.new.out) (g.S.Serializer.written c.end_map.new.self) (counted 4 _ _ argument c.one_if-count.ensures.is (present-option_map argument_data s.argument)) c.in_ok-begin_map.ensures c.in_ok-send_optional.ensures c.in_ok-send_list_member.ensures c.in_ok-send_member.ensures c.in_ok-send_text.ensures c.in_ok-send_step_type.ensures ended) c.end_map.ensures
