use Rattle.std.proofs.lemmas.Result.{IfOk-weaker}
use Rattle.cm_stream.specs.Release.{conditions_of}
use Rattle.cm_audit_release.proofs.ReleaseAudit.{told_so}
use Rattle.cm_audit_release.proofs.audited_release.judgement_of.Goals as goal

pub returns-in_default : goal.returns-in_default
returns-in_default c =
    IfOk-weaker c.told_judgement-told.result _ _
    (told_so c.args.settings (conditions_of c.args.conditions.now) c.args.tally.now c.args.last c.args.state c.args.audited.success c.args.audited.verdict c.in_default.not-Good)
    c.told_judgement-told.ensures
