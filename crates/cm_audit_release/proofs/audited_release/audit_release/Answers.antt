use Rattle.std.proofs.Common.{subst, sym}
use Rattle.std.specs.Prelude.{Result}
use Rattle.cm_envelope.specs.Device.{CountsFailure, OfReads}
use Rattle.cm_envelope.specs.Feeds.{is_failed_read}
use Rattle.cm_envelope.specs.declared.feed.Trouble.{Trouble}
use Rattle.cm_stream.specs.Release.{conditions_of}
use Rattle.cm_audit.specs.Audit.{GoodAtEnd}
use Rattle.cm_audit_release.specs.ReleaseAudit.{IsReleaseAuditOf, audited_in}
use Rattle.cm_audit_release.specs.declared.audited_release.AuditedRelease.{AuditedRelease}
use Rattle.cm_audit_release.proofs.ReleaseAudit.{release_at_end, release_failures, release_told}
use Rattle.cm_audit_release.proofs.audited_release.audit_release.Goals as goal

pub returns-clause-same_bytes : goal.returns-clause-same_bytes
returns-clause-same_bytes g c =
    let asked = conditions_of c.args.conditions.now in
    subst (λ (r : Result AuditedRelease Trouble). OfReads (g.R.ByteSource.input c.args.source.now) (g.R.ByteSource.input c.audit_watched-watched.new.source) (IsReleaseAuditOf c.args.settings asked r)) (sym c.release_in.ensures)
    (release_told c.args.settings asked c.audit_watched-watched.result c.with_judgement.result _ _ c.with_judgement.ensures c.audit_watched-watched.ensures.same_bytes)

pub returns-clause-at_end : goal.returns-clause-at_end
returns-clause-at_end g c =
    let after = g.R.ByteSource.input c.audit_watched-watched.new.source in
    subst (λ (r : Result AuditedRelease Trouble). GoodAtEnd after (audited_in r)) (sym c.release_in.ensures)
    (release_at_end c.args.settings (conditions_of c.args.conditions.now) c.audit_watched-watched.result c.with_judgement.result after c.with_judgement.ensures c.audit_watched-watched.ensures.at_end)

pub returns-clause-failures : goal.returns-clause-failures
returns-clause-failures g c =
    let before = (g.R.ByteSource.input c.args.source.now).failed_calls in
    let after = (g.R.ByteSource.input c.audit_watched-watched.new.source).failed_calls in
    subst (λ (r : Result AuditedRelease Trouble). CountsFailure (is_failed_read r) before after) (sym c.release_in.ensures)
    (release_failures c.args.settings (conditions_of c.args.conditions.now) c.audit_watched-watched.result c.with_judgement.result before after c.with_judgement.ensures c.audit_watched-watched.ensures.failures)
