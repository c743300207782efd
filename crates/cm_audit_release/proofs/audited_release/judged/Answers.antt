use Rattle.cm_stream.specs.Release.{conditions_of}
use Rattle.cm_audit_release.proofs.ReleaseAudit.{judged_so}
use Rattle.cm_audit_release.proofs.audited_release.judged.Goals as goal

pub returns : goal.returns
returns c = judged_so c.args.settings (conditions_of c.args.conditions.now) c.args.watched c.judgement_of-judgement.result _ c.with_tally.ensures c.judgement_of-judgement.ensures
