use Rattle.std.proofs.Common.{map, drop, [], ◌∷◌}
use Rattle.serde.specs.Event.{Log, WritesEach}
use Rattle.serde_json.specs.Events.{SendsValue}
use Rattle.cm_messages.specs.Layout.{object_of}
use Rattle.cm_messages.proofs.send.send_each_only.Given as goal

-- what ends it well from here ends it well from the start
abbrev pub invariant-items : goal.invariant-items
invariant-items g l =
    (end : Log) → WritesEach SendsValue (map (λ x. object_of ((l.name, g.T.SendJson.json x) ∷ [])) (drop l.item-index l.items)) (g.S.Serializer.written l.out) end
    → WritesEach SendsValue (map (λ x. object_of ((l.name, g.T.SendJson.json x) ∷ [])) l.items) (g.S.Serializer.written l.initial.out) end
