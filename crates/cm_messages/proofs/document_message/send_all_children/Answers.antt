use Rattle.std.proofs.Common.{◌∙◌, ◌+◌, ◌++◌, length, map, ap, sym}
use Rattle.serde_json.specs.Events.{SendsValue}
use Rattle.cm_messages.specs.DocumentLayout.{children_data, rule_child}
use Rattle.cm_messages.proofs.Layouts.{length-feature_children}
use Rattle.std.proofs.lemmas.Result.{on_ok_weaker}
use Rattle.cm_messages.proofs.Sent.{array_sent, each_of_two}
use Rattle.cm_messages.proofs.document_message.send_all_children.Goals as goal

pub returns : goal.returns
returns g c =
    let background = c.args.background.now in
    let scenarios = c.args.scenarios.now in
    let children = children_data background scenarios in
    let rules_data = map rule_child c.args.rules.now in
    let first = g.S.Serializer.written c.begin_seq.new.self in
    let mid = g.S.Serializer.written c.send_children.new.out in
    let last = g.S.Serializer.written c.send_each_only.new.out in
    let len = ap (λ n. n + length scenarios + length c.args.rules.now) c.one_if-backgrounds.ensures.is
    ∙ sym (length-feature_children background scenarios c.args.rules.now) in
    let each = each_of_two SendsValue children rules_data first mid last c.in_ok-send_children.ensures c.in_ok-send_each_only.ensures in
    on_ok_weaker c.end_seq.result (λ ended. array_sent (children ++ rules_data) (c.one_if-backgrounds.result + length scenarios + length c.args.rules.now)
    (g.S.Serializer.written c.args.out.now) first last (g.S.Serializer.written c.end_seq.new.self) len c.in_ok-begin_seq.ensures each ended) c.end_seq.ensures
