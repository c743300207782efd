use Rattle.std.proofs.Common.{◌≡◌, take}
use Rattle.cm_release.specs.Kept.{unmatched_ids}
use Rattle.cm_release.proofs.tally.unmatched_entry.Given as goal

abbrev pub invariant-loop-step : goal.invariant-loop-step
invariant-loop-step l = l.ids ≡ unmatched_ids (take l.step-index l.steps)
