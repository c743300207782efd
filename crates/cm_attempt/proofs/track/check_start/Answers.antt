use Rattle.std.proofs.Common.{◌∙◌, refl, sym}
use Rattle.cm_refs.specs.StepIds.{ids_in}
use Rattle.cm_attempt.proofs.StepLemmas.{start_passes}
use Rattle.cm_attempt.proofs.track.check_start.Goals as goal

pub returns-then-may_start : goal.returns-then-may_start
returns-then-may_start c =
    let steps = ids_in c.in-Some.case.now.steps in
    let passes = start_passes c.args.step.now c.args.attempt.now.cursor steps (sym c.may_start.ensures ∙ c.if-may_start.true) in
    rw (← c.as_str.ensures, ← c.in-Some.ensures.row, passes) refl
