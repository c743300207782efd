use Rattle.cm_envelope.proofs.Sources.{of_reads, reads_weaker}
use Rattle.cm_audit.specs.Audit.{IsAuditOf}
use Rattle.cm_audit.specs.Watched.{audit_in}
use Rattle.cm_audit.proofs.Following.{audit_alone, failed_alone}
use Rattle.cm_audit.proofs.Verdicts.{good_heard}
use Rattle.cm_audit.proofs.auditing.audit_run.Goals as goal

pub returns-clause-all : goal.returns-clause-all
returns-clause-all g c =
    let watched = c.audit_watched-watched in
    rw c.audit_in.ensures
    (record {
      heard = audit_alone c.args.settings _ watched.result _ _ watched.ensures.same_bytes;
      at_end = watched.ensures.at_end;
      failures = rw (failed_alone watched.result) watched.ensures.failures;
    })

pub returns-clause-good : goal.returns-clause-good
returns-clause-good g c =
    let watched = c.audit_watched-watched in
    rw c.audit_in.ensures (good_heard c.args.settings _ _ _ (audit_alone c.args.settings _ watched.result _ _ watched.ensures.same_bytes) watched.ensures.at_end)

pub returns-clause-bad : goal.returns-clause-bad
returns-clause-bad g c =
    let watched = c.audit_watched-watched in
    rw c.audit_in.ensures (of_reads {P = IsAuditOf c.args.settings (audit_in watched.result)} _ _ (audit_alone c.args.settings _ watched.result _ _ watched.ensures.same_bytes) (λ xs ys h. h.bad))

pub returns-clause-told : goal.returns-clause-told
returns-clause-told g c =
    let watched = c.audit_watched-watched in
    rw c.audit_in.ensures (of_reads {P = IsAuditOf c.args.settings (audit_in watched.result)} _ _ (audit_alone c.args.settings _ watched.result _ _ watched.ensures.same_bytes) (λ xs ys h. h.told))

pub returns-clause-decided : goal.returns-clause-decided
returns-clause-decided g c =
    let watched = c.audit_watched-watched in
    rw c.audit_in.ensures (of_reads {P = IsAuditOf c.args.settings (audit_in watched.result)} _ _ (audit_alone c.args.settings _ watched.result _ _ watched.ensures.same_bytes) (λ xs ys h. h.decided))

pub returns-clause-unsupported : goal.returns-clause-unsupported
returns-clause-unsupported g c =
    let watched = c.audit_watched-watched in
    rw c.audit_in.ensures (of_reads {P = IsAuditOf c.args.settings (audit_in watched.result)} _ _ (audit_alone c.args.settings _ watched.result _ _ watched.ensures.same_bytes) (λ xs ys h. h.unsupported))

pub returns-clause-failures : goal.returns-clause-failures
returns-clause-failures g c =
    let watched = c.audit_watched-watched in
    rw (c.audit_in.ensures, failed_alone watched.result) watched.ensures.failures

pub returns-clause-read_failed : goal.returns-clause-read_failed
returns-clause-read_failed g c =
    let watched = c.audit_watched-watched in
    rw c.audit_in.ensures (λ failed. reads_weaker {P = IsAuditOf c.args.settings (audit_in watched.result)} _ _ (audit_alone c.args.settings _ watched.result _ _ watched.ensures.same_bytes) (λ xs ys h. h.read_failed failed))

pub returns-clause-ahead : goal.returns-clause-ahead
returns-clause-ahead g c =
    let watched = c.audit_watched-watched in
    rw c.audit_in.ensures (reads_weaker {P = IsAuditOf c.args.settings (audit_in watched.result)} _ _ (audit_alone c.args.settings _ watched.result _ _ watched.ensures.same_bytes) (λ xs ys h. h.ahead))
