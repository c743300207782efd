use Rattle.std.proofs.Common.{◌≡◌, ◌≤◌, length, drop}
use Rattle.std.specs.List.{filter_map}
use Rattle.cm_refs.specs.StepIds.{ids_in}
use Rattle.cm_stream.specs.Texts.{same_texts}
use Rattle.cm_stream.specs.References.{pickle_step_ids}
use Rattle.cm_judge.proofs.judging.has_steps.Given as goal

abbrev pub invariant-loop-step : goal.invariant-loop-step
invariant-loop-step l = record {
  within : l.next ≤ length (ids_in l.steps);
  same : same_texts (drop l.next (ids_in l.steps)) (filter_map (λ s. s.pickle_step_id) (drop l.step-index l.case.test_steps))
      ≡ same_texts (ids_in l.steps) (pickle_step_ids l.case);
}
