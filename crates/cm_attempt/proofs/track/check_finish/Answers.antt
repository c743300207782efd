use Rattle.std.proofs.Common.{◌∙◌, refl, sym}
use Rattle.cm_refs.specs.StepIds.{ids_in}
use Rattle.cm_attempt.proofs.StepLemmas.{chosen, finish_passes}
use Rattle.cm_attempt.proofs.track.check_finish.Goals as goal

pub returns-in-Some-finished_in_order-clause-answer : goal.returns-in-Some-finished_in_order-clause-answer
returns-in-Some-finished_in_order-clause-answer c =
    let steps = ids_in c.in-Some.case.now.steps in
    let passes = finish_passes c.args.step.now c.args.attempt.now.cursor steps (chosen _ _ _ (sym c.finished_in_order.ensures ∙ c.in-Some-finished_in_order.is)) in
    rw (← c.as_str.ensures, ← c.in-Some.ensures.row, passes) refl
