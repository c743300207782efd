-- The audit of a stream, with what its cases say.
use Rattle.std.specs.Prelude.{◌≡◌, ⊤, ℕ, List, Result, Ok, Err}
use Rattle.cm_envelope.specs.declared.feed.Trouble.{Trouble}
use Rattle.cm_attempt.specs.declared.status.Settings.{Settings}
use Rattle.cm_cases.specs.Listed.{listing_of}
use Rattle.cm_stream.specs.declared.laws.Audited.{Audited}
use Rattle.cm_audit.specs.Audit.{IsAuditOf}
use Rattle.cm_judge.specs.State.{summary_of}
use Rattle.cm_audit.specs.Watched.{FollowsGood}
use Rattle.cm_audit.specs.declared.auditing.WatchedAudit.{WatchedAudit}
use Rattle.cm_audit_cases.specs.declared.audited_cases.CaseWatch.{CaseWatch}
use Rattle.cm_audit_cases.specs.declared.audited_cases.AuditedCases.{AuditedCases}

abbrev pub audited_in : Result AuditedCases Trouble → Result Audited Trouble
audited_in (Ok a) = Ok a.audited
audited_in (Err t) = Err t

-- where the answer is Good, the listing is that of the stream's envelopes, and the attempts are what they leave, with the results
-- of its cases
abbrev pub ListsCases : Settings → List ℕ → Result AuditedCases Trouble → Type 0
ListsCases settings bytes (Ok a) =
    FollowsGood settings (λ es. a.listing ≡ listing_of es) a.attempts bytes a.audited.verdict
ListsCases settings bytes (Err t) = ⊤

-- what the answer says of the bytes of its stream, and of those that were left to come
pub record IsCasesAuditOf (settings : Settings) (answer : Result AuditedCases Trouble)
    (bytes rest : List ℕ) : Type 0 where
  pub audit : IsAuditOf settings (audited_in answer) bytes rest
  pub cases : ListsCases settings bytes answer

-- an audit of a stream that was read, with what was watched
abbrev pub with_cases : Result (WatchedAudit CaseWatch) Trouble → Result AuditedCases Trouble
with_cases (Ok w) =
    Ok (record {
      audited = w.audited;
      listing = w.watch.listing;
      attempts = (summary_of w.state).table;
    })
with_cases (Err t) = Err t
