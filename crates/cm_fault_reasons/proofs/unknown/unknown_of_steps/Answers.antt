use Rattle.std.proofs.Common.{◌+◌, Some, None}
use Rattle.cm_judge.specs.State.{summary_of}
use Rattle.cm_fault_reasons.specs.UnknownKept.{told_view}
use Rattle.cm_fault_reasons.proofs.UnknownLemmas.{step_more, steps_told}
use Rattle.cm_fault_reasons.proofs.unknown.unknown_of_steps.Goals as goal

pub returns-in-Some : goal.returns-in-Some
returns-in-Some c =
    let s = summary_of c.args.state.now in
    let i = c.loop-step.step-index in
    steps_told s c.args.pickle.now c.args.steps.now (i + 1) (told_view c.in-Some.told)
    (step_more s c.args.pickle.now c.args.steps.now i c.step-item.result (Some (told_view c.in-Some.told)) c.loop-step-test.true c.step-item.is c.loop-step.invariant c.in-Some.ensures)

pub loop-step-preserved : goal.loop-step-preserved
loop-step-preserved c =
    let s = summary_of c.args.state.now in
    step_more s c.args.pickle.now c.args.steps.now c.loop-step.step-index c.step-item.result None c.loop-step-test.true c.step-item.is c.loop-step.invariant c.in_default.ensures
