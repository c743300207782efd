use Rattle.std.proofs.Common.{map, drop}
use Rattle.serde.specs.Event.{Log, WritesEach}
use Rattle.serde_json.specs.Events.{SendsValue}
use Rattle.cm_messages.proofs.send.send_each.Given as goal

-- what ends it well from here ends it well from the start
abbrev pub invariant-items : goal.invariant-items
invariant-items g l =
    (end : Log) → WritesEach SendsValue (map g.T.SendJson.json (drop l.item-index l.items)) (g.S.Serializer.written l.out) end
    → WritesEach SendsValue (map g.T.SendJson.json l.items) (g.S.Serializer.written l.initial.out) end
