use Rattle.std.proofs.Common.{◌≡◌, ◌++◌, map, take}
use Rattle.std.specs.List.{filter}
use Rattle.cm_reasons.specs.Reasons.{step_ids}
use Rattle.cm_release.specs.Counts.{has_step}
use Rattle.cm_release.proofs.undefined_steps.add_of_case.Given as goal

abbrev pub invariant-loop-step : goal.invariant-loop-step
invariant-loop-step l =
    map step_ids l.found.items ≡ map step_ids l.fn.found.items ++ map (λ step. record { test_case = l.case.id; step = step }) (filter (has_step l.steps.keys l.case.id) (take l.step-index l.step-items))
