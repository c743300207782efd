-- The audit with what its cases say, from the audit that was watched.
use Rattle.std.proofs.Common.{◌≡◌, ℕ, List, Result, Ok, Err}
use Rattle.cm_attempt.specs.declared.status.Settings.{Settings}
use Rattle.cm_cases.specs.Listed.{listing_of}
use Rattle.cm_envelope.specs.Device.{Input, OfReads}
use Rattle.cm_envelope.specs.declared.envelope.Envelope.{Envelope}
use Rattle.cm_envelope.specs.declared.feed.Trouble.{Trouble}
use Rattle.cm_envelope.proofs.Sources.{reads_weaker}
use Rattle.cm_audit.specs.Audit.{GoodAtEnd}
use Rattle.cm_audit.specs.Watched.{IsWatchedAuditOf, audit_in}
use Rattle.cm_audit.specs.declared.auditing.WatchedAudit.{WatchedAudit}
use Rattle.cm_audit_cases.specs.CasesAudit.{IsCasesAuditOf, audited_in, with_cases}
use Rattle.cm_audit_cases.specs.declared.audited_cases.CaseWatch.{CaseWatch}

abbrev Lists : CaseWatch → List Envelope → Type 0
Lists watch es = watch.listing ≡ listing_of es

module _ (settings : Settings) where
  told : (answer : Result (WatchedAudit CaseWatch) Trouble) (xs ys : List ℕ) → IsWatchedAuditOf settings Lists answer xs ys → IsCasesAuditOf settings (with_cases answer) xs ys
  told (Ok w) xs ys h = record { audit = h.audit; cases = h.followed }
  told (Err t) xs ys h = record { audit = h.audit; cases = tt }

  pub cases_told : (answer : Result (WatchedAudit CaseWatch) Trouble) (a b : Input) → OfReads a b (IsWatchedAuditOf settings Lists answer) → OfReads a b (IsCasesAuditOf settings (with_cases answer))
  cases_told answer a b p = reads_weaker {P = IsWatchedAuditOf settings Lists answer} {Q = IsCasesAuditOf settings (with_cases answer)} a b p (told answer)

pub at_end_with : (after : Input) (answer : Result (WatchedAudit CaseWatch) Trouble) → GoodAtEnd after (audit_in answer) → GoodAtEnd after (audited_in (with_cases answer))
at_end_with after (Ok w) over = over
at_end_with after (Err t) over = tt
