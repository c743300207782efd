use Rattle.std.proofs.Common.{◌≡◌, [], drop, map, take}
use Rattle.cm_fault_reasons.specs.Duplicate.{first_again}
use Rattle.cm_fault_reasons.proofs.duplicate.first_repeat.Given as goal

abbrev pub invariant-loop-id : goal.invariant-loop-id
invariant-loop-id l =
    (map (λ k. k.now) l.seen.keys ≡ take l.id-index (map (λ t. t.now) l.ids))
    × (first_again [] (map (λ t. t.now) l.ids) ≡ first_again (take l.id-index (map (λ t. t.now) l.ids)) (drop l.id-index (map (λ t. t.now) l.ids)))
