-- What a watch is after an audit: of a good stream, and up to the line that decides.
use Rattle.std.specs.Prelude.{◌≡◌, ⊤, ℕ, List, Option, Result, Ok, Err}
use Rattle.cm_envelope.specs.declared.envelope.Envelope.{Envelope}
use Rattle.cm_envelope.specs.declared.feed.Trouble.{Trouble}
use Rattle.cm_attempt.specs.Results.{case_results}
use Rattle.cm_attempt.specs.Table.{Table}
use Rattle.cm_attempt.specs.declared.status.Settings.{Settings}
use Rattle.cm_stream.specs.Good.{Good}
use Rattle.cm_stream.specs.Record.{table_of_envelopes}
use Rattle.cm_stream.specs.Results.{results_of}
use Rattle.cm_stream.specs.Stream.{IsReadAs}
use Rattle.cm_stream.specs.declared.laws.Audited.{Audited}
use Rattle.cm_stream.specs.declared.laws.Verdict.{Verdict}
use Rattle.cm_stream.specs.declared.laws.Verdict.TheVariants as verdict
use Rattle.cm_judge.specs.Deciding.{DecidesVerdict}
use Rattle.cm_judge.specs.State.{summary_of}
use Rattle.cm_judge.specs.declared.state.State.{State}
use Rattle.cm_audit.specs.Audit.{IsAuditOf}
use Rattle.cm_audit.specs.declared.auditing.WatchedAudit.{WatchedAudit}

-- ---- of a good stream

-- The bytes are those of a good stream. `follows` holds of its envelopes as they are judged; the table is what they leave, and has
-- the results of their cases.
pub record IsFollowed (settings : Settings) (follows : List Envelope → Type 0) (table : Table)
    (bytes : List ℕ) : Type 0 where
  pub judged : List Envelope
  pub read : IsReadAs settings bytes judged
  pub good : Good settings judged
  pub followed : follows judged
  pub kept : table ≡ table_of_envelopes settings.first_attempt judged
  pub results : case_results table ≡ results_of judged

-- that, where the verdict is Good
abbrev pub FollowsGood : Settings → (List Envelope → Type 0) → Table → List ℕ → Verdict → Type 0
FollowsGood settings follows table bytes (verdict.Good counts) =
    IsFollowed settings follows table bytes
FollowsGood settings follows table bytes _ = ⊤

-- that, of the watch and what is kept, where the answer is a verdict
abbrev pub FollowsWatched : {W : Type 0} → Settings → (follows : W → List Envelope → Type 0)
    → List ℕ → Result (WatchedAudit W) Trouble → Type 0
FollowsWatched settings follows bytes (Ok w) =
    FollowsGood settings (follows w.watch) (summary_of w.state).table bytes w.audited.verdict
FollowsWatched settings follows bytes (Err t) = ⊤

-- ---- up to the line that decides

-- `DecidesVerdict`, of the watch, the last envelope and what is kept, where the answer is a verdict
abbrev pub DecidesWatched : {W : Type 0} → Settings → (follows : W → List Envelope → Type 0)
    → List ℕ → Result (WatchedAudit W) Trouble → Type 0
DecidesWatched settings follows bytes (Ok w) =
    DecidesVerdict settings (follows w.watch) w.last (summary_of w.state) bytes w.audited.verdict
DecidesWatched settings follows bytes (Err t) = ⊤

-- ---- all of these, of the same bytes

-- an audit alone
abbrev pub audit_in : {W : Type 0} → Result (WatchedAudit W) Trouble → Result Audited Trouble
audit_in (Ok w) = Ok w.audited
audit_in (Err t) = Err t

-- What the answer says of all bytes of its stream, and of those that weren't read, where `follows` says what a watch is after
-- envelopes.
pub record IsWatchedAuditOf {W : Type 0} (settings : Settings)
    (follows : W → List Envelope → Type 0) (answer : Result (WatchedAudit W) Trouble)
    (bytes rest : List ℕ) : Type 0 where
  pub audit : IsAuditOf settings (audit_in answer) bytes rest
  pub followed : FollowsWatched settings follows bytes answer
  pub decided : DecidesWatched settings follows bytes answer

-- an audit of a stream that was read, with its watch, the last envelope and what is kept
abbrev pub with_watch : {W : Type 0} → W → Option Envelope → State → Result Audited Trouble
    → Result (WatchedAudit W) Trouble
with_watch watch last state (Ok a) =
    Ok (record { audited = a; watch = watch; last = last; state = state })
with_watch watch last state (Err t) = Err t
