use Rattle.std.proofs.Common.{◌∙◌, ◌+◌, length, ap, sym}
use Rattle.cm_messages.specs.DocumentLayout.{children_data}
use Rattle.cm_messages.proofs.Layouts.{length-children_data}
use Rattle.std.proofs.lemmas.Result.{on_ok_weaker}
use Rattle.cm_messages.proofs.Sent.{array_sent}
use Rattle.cm_messages.proofs.document_message.send_children_list.Goals as goal

pub returns : goal.returns
returns g c =
    let background = c.args.background.now in
    let scenarios = c.args.scenarios.now in
    let len = ap (λ n. n + length scenarios) c.one_if-backgrounds.ensures.is ∙ sym (length-children_data background scenarios) in
    on_ok_weaker c.end_seq.result (λ ended. array_sent (children_data background scenarios) (c.one_if-backgrounds.result + length c.args.scenarios.now) (g.S.Serializer.written c.args.out.now) (g.S.Serializer.written c.begin_seq.new.self)
    (g.S.Serializer.written c.send_children.new.out) (g.S.Serializer.written c.end_seq.new.self) len c.in_ok-begin_seq.ensures c.in_ok-send_children.ensures ended) c.end_seq.ensures
