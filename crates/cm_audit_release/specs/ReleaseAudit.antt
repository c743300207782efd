-- The audit of a stream, with what is said of its run for a release.
use Rattle.std.specs.Prelude.{◌≡◌, ⊤, ℕ, Bool, List, Option, Result, Ok, Err, string_bytes}
use Rattle.std.specs.declared.alloc.AllocError.{AllocError}
use Rattle.cm_envelope.specs.declared.envelope.Envelope.{Envelope}
use Rattle.cm_envelope.specs.declared.feed.Trouble.{Trouble}
use Rattle.cm_envelope.specs.declared.feed.Trouble.TheVariants.{Memory}
use Rattle.cm_attempt.specs.Results.{case_results}
use Rattle.cm_attempt.specs.Table.{Table}
use Rattle.cm_attempt.specs.declared.status.Settings.{Settings}
use Rattle.cm_stream.specs.Good.{Good}
use Rattle.cm_stream.specs.Release.{Conditions}
use Rattle.cm_stream.specs.Results.{results_of}
use Rattle.cm_stream.specs.Stream.{IsReadAs}
use Rattle.cm_stream.specs.declared.laws.ReleaseCounts.{ReleaseCounts}
use Rattle.cm_stream.specs.declared.laws.Audited.{Audited}
use Rattle.cm_stream.specs.declared.laws.Counts.{Counts}
use Rattle.cm_stream.specs.declared.laws.Hold.{Hold}
use Rattle.cm_stream.specs.declared.laws.Verdict.{Verdict}
use Rattle.cm_stream.specs.declared.laws.Verdict.TheVariants as verdict
use Rattle.cm_audit.specs.Audit.{IsAuditOf}
use Rattle.cm_judge.specs.State.{summary_of}
use Rattle.cm_audit.specs.declared.auditing.WatchedAudit.{WatchedAudit}
use Rattle.cm_judge.specs.declared.state.State.{State}
use Rattle.cm_fault_reasons.specs.AtLine.{IsToldWith, TellsWith}
use Rattle.cm_release.specs.Judged.{IsJudged}
use Rattle.cm_release.specs.Tallied.{IsTallyOf}
use Rattle.cm_release.specs.declared.judgement.Judgement.{Judgement}
use Rattle.cm_release.specs.declared.tally.Tally.{Tally}
use Rattle.cm_audit_release.specs.declared.audited_release.AuditedRelease.{AuditedRelease}
use Rattle.cm_audit_release.specs.declared.audited_release.JudgedAudit.{JudgedAudit}
use Rattle.cm_audit_release.specs.declared.audited_release.ReleaseWatch.{ReleaseWatch}

abbrev pub audited_in : Result AuditedRelease Trouble → Result Audited Trouble
audited_in (Ok a) = Ok a.audited
audited_in (Err t) = Err t

-- The bytes are those of a good stream, and this is said of the run of its envelopes.
pub record IsCounted (settings : Settings) (asked : Conditions) (success : Bool) (counts : Counts)
    (found : ReleaseCounts) (held : Option Hold) (reasons bytes : List ℕ) : Type 0 where
  pub judged : List Envelope
  pub read : IsReadAs settings bytes judged
  pub good : Good settings judged
  pub is : IsJudged settings asked judged success counts found held reasons

-- that, where the verdict is Good; else the lines tell what is wrong with the line that decides
abbrev pub CountsGood : Settings → Conditions → (success : Bool) → ReleaseCounts → Option Hold
    → (reasons bytes : List ℕ) → Verdict → Type 0
CountsGood settings asked success found held reasons bytes (verdict.Good counts) =
    IsCounted settings asked success counts found held reasons bytes
CountsGood settings asked success found held reasons bytes v = IsToldWith settings bytes v reasons

-- that, where the answer is a verdict
abbrev pub CountsRelease : Settings → Conditions → List ℕ → Result AuditedRelease Trouble → Type 0
CountsRelease settings asked bytes (Ok a) =
    CountsGood settings asked a.audited.success a.found a.hold (string_bytes a.reasons) bytes
    a.audited.verdict
CountsRelease settings asked bytes (Err t) = ⊤

-- what the answer says of the bytes of its stream, and of those that were left to come
pub record IsReleaseAuditOf (settings : Settings) (asked : Conditions)
    (answer : Result AuditedRelease Trouble) (bytes rest : List ℕ) : Type 0 where
  pub audit : IsAuditOf settings (audited_in answer) bytes rest
  pub counted : CountsRelease settings asked bytes answer

-- ---- what is said after the audit

-- this is said of a good run by what went along
abbrev pub JudgesGood : Settings → Conditions → Tally → Table → (success : Bool) → Counts
    → ReleaseCounts → Option Hold → (reasons : List ℕ) → Type 0
JudgesGood settings asked tally table success counts found held reasons =
    (es : List Envelope) → IsTallyOf tally es → Good settings es
    → case_results table ≡ results_of es
    → IsJudged settings asked es success counts found held reasons

-- that, and of another stream what was kept of the lines before the one that decides
abbrev pub JudgesVerdict : Settings → Conditions → Tally → (last : Option Envelope) → State
    → (success : Bool) → ReleaseCounts → Option Hold → (reasons : List ℕ) → Verdict → Type 0
JudgesVerdict settings asked tally last s success found held reasons (verdict.Good counts) =
    JudgesGood settings asked tally (summary_of s).table success counts found held reasons
JudgesVerdict settings asked tally last s success found held reasons v =
    TellsWith settings (summary_of s) tally.trail last v reasons

-- an audit with what is said of it, or want of memory
abbrev pub with_tally : Audited → Result Judgement AllocError → Tally
    → Result JudgedAudit Trouble
with_tally audited (Ok judgement) tally = Ok (record {
  release = record {
    audited = audited;
    found = judgement.found;
    hold = judgement.hold;
    reasons = judgement.reasons;
  };
  tally = tally;
})
with_tally audited (Err refused) tally = Err Memory

-- Of an audit that was watched, the audit with what is said, and what went along.
pub record JudgesWatched (settings : Settings) (asked : Conditions)
    (w : WatchedAudit ReleaseWatch) (j : JudgedAudit) : Type 0 where
  pub audited : j.release.audited ≡ w.audited
  pub judges : JudgesVerdict settings asked w.watch.tally w.last w.state
      w.audited.success j.release.found j.release.hold (string_bytes j.release.reasons)
      w.audited.verdict
  pub tally : j.tally ≡ w.watch.tally

-- that, unless there was no memory for it
abbrev pub CountsWatched : Settings → Conditions → Result (WatchedAudit ReleaseWatch) Trouble
    → Result JudgedAudit Trouble → Type 0
CountsWatched settings asked (Ok w) (Ok j) = JudgesWatched settings asked w j
CountsWatched settings asked (Ok w) (Err t) = t ≡ Memory
CountsWatched settings asked (Err t) answer = answer ≡ Err t

abbrev pub release_in : Result JudgedAudit Trouble → Result AuditedRelease Trouble
release_in (Ok j) = Ok j.release
release_in (Err t) = Err t
