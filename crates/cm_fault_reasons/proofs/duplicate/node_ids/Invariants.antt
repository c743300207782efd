use Rattle.std.proofs.Common.{◌≡◌, map, take}
use Rattle.cm_fault_reasons.proofs.duplicate.node_ids.Given as goal

abbrev pub invariant-loop-id : goal.invariant-loop-id
invariant-loop-id l = map (λ t. t.now) l.texts.items ≡ take l.id-index l.ids
