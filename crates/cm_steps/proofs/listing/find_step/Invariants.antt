use Rattle.std.proofs.Common.{◌≡◌, length}
use Rattle.cm_steps.specs.Entries.{find_step}
use Rattle.cm_steps.proofs.listing.find_step.Given as goal

abbrev pub decreases-loop-step : goal.decreases-loop-step
decreases-loop-step l = length l.texts

abbrev pub invariant-loop-step : goal.invariant-loop-step
invariant-loop-step l = find_step l.id l.texts ≡ find_step l.id l.fn.steps
