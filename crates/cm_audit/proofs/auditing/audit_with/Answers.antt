use Rattle.std.proofs.Common.{subst}
use Rattle.cm_attempt.specs.declared.status.Settings.{Settings}
use Rattle.cm_audit.specs.Audit.{Audits}
use Rattle.cm_audit.proofs.auditing.audit_with.Goals as goal

pub returns : goal.returns
returns g c = (
  c.audit_run.result,
  c.verdict_of.ensures,
  subst (λ (s : Settings). Audits s c.audit_run.result (g.R.ByteSource.input c.args.source.now) (g.R.ByteSource.input c.audit_run.new.source)) c.from.ensures c.audit_run.ensures.all,
)
