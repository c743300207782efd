use Rattle.std.proofs.Common.{◌≡◌, map, take}
use Rattle.std.specs.List.{flat_map}
use Rattle.cm_reasons.specs.Reasons.{step_ids}
use Rattle.cm_release.specs.Counts.{has_step, steps_passing}
use Rattle.cm_release.proofs.undefined_steps.steps_of_cases.Given as goal

abbrev pub invariant-loop-case : goal.invariant-loop-case
invariant-loop-case l = map step_ids l.found.items ≡ flat_map (steps_passing (has_step l.steps.keys)) (take l.case-index l.cases)
