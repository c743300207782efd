use Rattle.std.proofs.Common.{◌≡◌, None, take}
use Rattle.std.specs.List.{flat_map}
use Rattle.cm_judge.specs.State.{summary_of}
use Rattle.cm_stream.specs.References.{test_step_names}
use Rattle.cm_fault_reasons.specs.UnknownKept.{unknown_among}
use Rattle.cm_fault_reasons.proofs.unknown.unknown_of_steps.Given as goal

abbrev pub invariant-loop-step : goal.invariant-loop-step
invariant-loop-step l =
    unknown_among (summary_of l.state) (flat_map (test_step_names l.pickle) (take l.step-index l.steps)) ≡ None
