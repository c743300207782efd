use Rattle.cm_audit_cases.proofs.CasesAudit.{at_end_with, cases_told}
use Rattle.cm_audit_cases.proofs.audited_cases.audit_cases.Goals as goal

pub returns-clause-same_bytes : goal.returns-clause-same_bytes
returns-clause-same_bytes g c = rw c.with_cases.ensures (cases_told c.args.settings c.audit_watched.result _ _ c.audit_watched.ensures.same_bytes)

pub returns-clause-at_end : goal.returns-clause-at_end
returns-clause-at_end g c = rw c.with_cases.ensures (at_end_with (g.R.ByteSource.input c.audit_watched.new.source) c.audit_watched.result c.audit_watched.ensures.at_end)
