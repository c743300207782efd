use Rattle.std.proofs.Common.{◌≡◌, ◌++◌, take}
use Rattle.std.specs.List.{flat_map}
use Rattle.cm_steps.specs.Kept.{step_texts}
use Rattle.cm_steps.proofs.listing.add_pickle_steps.Given as goal

abbrev pub invariant-loop-step : goal.invariant-loop-step
invariant-loop-step l = l.row ≡ l.fn.row ++ flat_map step_texts (take l.step-index l.steps)
