use Rattle.std.proofs.Common.{take}
use Rattle.cm_cases.specs.Firsts.{HasFirsts}
use Rattle.cm_cases.proofs.places.firsts_of.Given as goal

abbrev pub invariant-loop-item : goal.invariant-loop-item
invariant-loop-item g l = HasFirsts (λ x. x.now) (λ x. x) g.K.Key.text (take l.item-index l.items) l.map
