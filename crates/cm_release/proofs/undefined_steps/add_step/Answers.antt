use Rattle.std.proofs.Common.{◌∙◌, ap, List}
use Rattle.cm_reasons.specs.declared.reasons.CaseStep.{CaseStep}
use Rattle.cm_release.specs.Counts.{has_step}
use Rattle.cm_release.proofs.CountLemmas.{step_added}
use Rattle.cm_release.proofs.undefined_steps.add_step.Goals as goal

pub returns : goal.returns
returns c test_case id =
    ap (λ (ks : List CaseStep). has_step ks test_case id) c.in_ok-insert.ensures.keys
    ∙ step_added c.args.steps.now.keys (record { case = c.args.case; step = c.args.step }) test_case id
