use Rattle.std.proofs.Common.{◌≡◌, ◌∙◌, Result, Ok, true, false, refl, subst, sym}
use Rattle.cm_envelope.specs.declared.feed.Trouble.{Trouble}
use Rattle.cm_audit_release.specs.PartAudit.{MarksJudged}
use Rattle.cm_audit_release.specs.declared.audited_release.JudgedAudit.{JudgedAudit}
use Rattle.cm_audit_release.proofs.audited_release.with_marks.Goals as goal

pub returns-then-not-is_released-clause-marked : goal.returns-then-not-is_released-clause-marked
returns-then-not-is_released-clause-marked c =
    let marks = c.args.marks.now in
    subst (λ (j : Result JudgedAudit Trouble). MarksJudged j marks marks (Ok c.in_ok-release.field-0.release)) (sym c.in_ok-release.was)
    (refl, (λ is es tally. let no : true ≡ false = sym is ∙ sym c.is_released.ensures ∙ c.if-not-is_released.true in cc), (λ held text place. refl))

pub returns-in-Ok-clause-marked : goal.returns-in-Ok-clause-marked
returns-in-Ok-clause-marked c =
    subst (λ (j : Result JudgedAudit Trouble). MarksJudged j c.args.marks.now c.mark-marked.new.self (Ok c.in_ok-release.field-0.release)) (sym c.in_ok-release.was)
    (refl, (λ is es tally. c.in-Ok.ensures.ok es (c.trail.ensures ∙ tally.1)), (λ held. let no : true ≡ false = sym c.if-not-is_released.false ∙ c.is_released.ensures ∙ held in cc))
