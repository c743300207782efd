-- The audit of a stream for a release, with what it marks of the scenarios of some texts.
use Rattle.std.specs.Prelude.{◌≡◌, ⊤, ℕ, Bool, true, false, List, Option, Some, None, Result, Ok, Err}
use Rattle.cm_envelope.specs.declared.envelope.Envelope.{Envelope}
use Rattle.cm_envelope.specs.declared.feed.Trouble.{Trouble}
use Rattle.cm_envelope.specs.declared.feed.Trouble.TheVariants.{Memory}
use Rattle.cm_attempt.specs.declared.status.Settings.{Settings}
use Rattle.cm_stream.specs.Good.{Good}
use Rattle.cm_stream.specs.Release.{Conditions}
use Rattle.cm_stream.specs.Stream.{IsReadAs}
use Rattle.cm_stream.specs.declared.laws.Hold.{Hold}
use Rattle.cm_stream.specs.declared.laws.Verdict.{Verdict}
use Rattle.cm_stream.specs.declared.laws.Verdict.TheVariants as verdict
use Rattle.cm_ran.specs.Marks.{HasSameFlags, MarksWhatRan}
use Rattle.cm_ran.specs.declared.marks.Marks.{Marks}
use Rattle.cm_audit_release.specs.ReleaseAudit.{IsReleaseAuditOf}
use Rattle.cm_audit_release.specs.declared.audited_release.AuditedRelease.{AuditedRelease}
use Rattle.cm_audit_release.specs.declared.audited_release.JudgedAudit.{JudgedAudit}
use Rattle.cm_release.specs.Tallied.{IsTallyOf}

-- the verdict is Good, and the run isn't held
abbrev pub is_unheld : Verdict → Option Hold → Bool
is_unheld (verdict.Good counts) None = true
is_unheld (verdict.Good counts) (Some hold) = false
is_unheld (verdict.Bad line fault) hold = false
is_unheld (verdict.Unsupported line reason) hold = false

abbrev pub is_released : AuditedRelease → Bool
is_released a = is_unheld a.audited.verdict a.hold

-- The bytes are those of a good stream, and the scenarios that ran in it are marked.
pub record IsMarkedBy (settings : Settings) (old new : Marks) (bytes : List ℕ) : Type 0 where
  pub judged : List Envelope
  pub read : IsReadAs settings bytes judged
  pub good : Good settings judged
  pub marked : MarksWhatRan judged old new

-- that, where the run is released; where it isn't, nothing is marked
abbrev pub MarksReleased : Settings → (old new : Marks) → List ℕ → Result AuditedRelease Trouble
    → Type 0
MarksReleased settings old new bytes (Ok a) =
    (is_released a ≡ true → IsMarkedBy settings old new bytes)
    × (is_released a ≡ false → HasSameFlags old new)
MarksReleased settings old new bytes (Err t) = ⊤

-- what the answer says of the bytes of its stream, and of those that were left to come, and what it marks
pub record IsPartAuditOf (settings : Settings) (asked : Conditions) (old new : Marks)
    (answer : Result AuditedRelease Trouble) (bytes rest : List ℕ) : Type 0 where
  pub release : IsReleaseAuditOf settings asked answer bytes rest
  pub marked : MarksReleased settings old new bytes answer

-- What is said stays as it is, and where the run is released, what ran is marked by what went along, and else nothing; or there
-- was no memory for that.
abbrev pub MarksJudged : Result JudgedAudit Trouble → (old new : Marks)
    → Result AuditedRelease Trouble → Type 0
MarksJudged (Ok j) old new (Ok a) =
    (a ≡ j.release)
    × (is_released j.release ≡ true → (es : List Envelope) → IsTallyOf j.tally es
    → MarksWhatRan es old new)
    × (is_released j.release ≡ false → HasSameFlags old new)
MarksJudged (Ok j) old new (Err t) = t ≡ Memory
MarksJudged (Err t) old new answer = answer ≡ Err t
