use Rattle.std.proofs.Common.{◌≡◌, false, map, take}
use Rattle.cm_attempt.specs.Table.{has_repeat}
use Rattle.cm_judge.proofs.judging.have_repeat.Given as goal

abbrev pub invariant-loop-text : goal.invariant-loop-text
invariant-loop-text l = (map (λ k. k.now) l.set.keys ≡ take l.text-index l.texts) × (has_repeat (take l.text-index l.texts) ≡ false)
