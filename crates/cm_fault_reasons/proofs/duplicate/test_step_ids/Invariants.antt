use Rattle.std.proofs.Common.{◌≡◌, map, take}
use Rattle.cm_fault_reasons.proofs.duplicate.test_step_ids.Given as goal

abbrev pub invariant-loop-step : goal.invariant-loop-step
invariant-loop-step l = map (λ t. t.now) l.texts.items ≡ map (λ s. s.id) (take l.step-index l.steps)
