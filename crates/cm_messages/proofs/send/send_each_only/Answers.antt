use Rattle.std.proofs.Common.{[], ◌∷◌, rules}
use Rattle.cm_messages.specs.Layout.{object_of}
use Rattle.cm_messages.proofs.Sent.{each_next}
use Rattle.cm_messages.proofs.send.send_each_only.Goals as goal

pub items-preserved : goal.items-preserved
items-preserved g c = λ end rest. c.items.invariant end
    (each_next (λ x. object_of ((c.args.name.now, g.T.SendJson.json x) ∷ [])) c.args.items.now c.items.item-index c.item-item.result (g.S.Serializer.written c.items.out) (g.S.Serializer.written c.send_only.new.out) end (search rules)
    c.item-item.is c.in_ok-send_only.ensures rest)
