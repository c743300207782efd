use Rattle.std.proofs.Common.{◌≡◌, ◌++◌, take}
use Rattle.std.specs.List.{flat_map}
use Rattle.cm_steps.specs.Kept.{plan_texts}
use Rattle.cm_steps.proofs.listing.add_plan_steps.Given as goal

abbrev pub invariant-loop-step : goal.invariant-loop-step
invariant-loop-step l = l.row ≡ l.fn.row ++ flat_map plan_texts (take l.step-index l.steps)
