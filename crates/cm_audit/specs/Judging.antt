-- The answer line by line.
use Rattle.std.specs.Prelude.{◌≡◌, ⊤, ℕ, Bool, true, false, List, ◌++◌, Option, Some, None, Result, Ok, Err, length}
use Rattle.cm_envelope.specs.Lines.{Line, max_line_bytes, max_stream_bytes}
use Rattle.cm_envelope.specs.Feeds.{ShowNothing}
use Rattle.cm_envelope.specs.Reading.{LineFault, envelope_of_line}
use Rattle.cm_envelope.specs.declared.envelope.Envelope.{Envelope}
use Rattle.cm_envelope.specs.declared.feed.Trouble.{Trouble}
use Rattle.cm_envelope.specs.declared.feed.Trouble.TheVariants.{ReadFailed}
use Rattle.cm_attempt.specs.Table.{Table}
use Rattle.cm_attempt.specs.declared.status.Settings.{Settings}
use Rattle.cm_stream.specs.Stream.{Answer, Failed, feed_of, verdict_in}
use Rattle.cm_stream.specs.declared.laws.Audited.{Audited}
use Rattle.cm_state.specs.Summary.{Summary, empty_summary}
use Rattle.cm_state.specs.ByOnePass.{answer_of_lines}
use Rattle.cm_audit.specs.Audit.{AnswersAs, Begins, ReadsUpTo, TakesLine, all_written, contents, judged_line}
use Rattle.cm_judge.specs.Deciding.{DecidesVerdict, envelope_in}
use Rattle.cm_audit.specs.Watched.{FollowsGood}
use Rattle.cm_audit.specs.declared.auditing.Judging.{Judging}
use Rattle.cm_judge.specs.declared.stop.Stop.{Stop}
use Rattle.cm_judge.specs.declared.stop.Stop.TheVariants as stop

-- the answer line by line, from the first line on, and then for the trouble or the end
abbrev pub answer_from_first : Settings → List (List ℕ) → Option Trouble → Answer
answer_from_first settings lines trouble =
    answer_of_lines settings (empty_summary settings.first_attempt) 1 lines trouble

abbrev pub answer_of_bytes : Settings → List ℕ → Answer
answer_of_bytes settings bytes =
    answer_from_first settings (feed_of bytes).lines (feed_of bytes).trouble

-- `ShowNoFault`, where the lines are judged one by one
pub record HoldNoFault (settings : Settings) (before after : List ℕ) : Type 0 where
  pub lines : List Line
  pub ahead : List ℕ
  pub begins : Begins before lines ahead after
  pub faultless : answer_from_first settings (contents lines) (Some ReadFailed) ≡ Failed ReadFailed
  pub nothing : ShowNothing max_line_bytes max_stream_bytes (length (all_written lines)) ahead

-- `IsAuditOf`, where the lines are judged one by one
pub record JudgesAs (settings : Settings) (answer : Result Audited Trouble)
    (bytes rest : List ℕ) : Type 0 where
  pub told : AnswersAs (answer_of_bytes settings bytes) answer
  pub read_failed : answer ≡ Err ReadFailed → HoldNoFault settings bytes rest
  pub ahead : ReadsUpTo (verdict_in answer) bytes rest

-- ---- with a watch

-- it holds, unless memory was refused
abbrev pub UnlessNoMemory : Result ⊤ Stop → Type 0 → Type 0
UnlessNoMemory (Err stop.Memory) P = ⊤
UnlessNoMemory result P = P

-- a line was read once more where that is wanted: its envelope, or that it has none
abbrev pub RereadsLine : (is_wanted : Bool) → (last : Option Envelope) → List ℕ → Type 0
RereadsLine true (Some e) line = envelope_of_line line ≡ Ok e
RereadsLine true None line = (fault : LineFault) × (envelope_of_line line ≡ Err fault)
RereadsLine false last line = last ≡ None

-- that, of a line that stops the audit
abbrev pub RereadsLast : (is_wanted : Bool) → (last : Option Envelope) → List ℕ → Result ⊤ Stop
    → Type 0
RereadsLast is_wanted last line (Ok done) = ⊤
RereadsLast is_wanted last line (Err stop.Memory) = ⊤
RereadsLast is_wanted last line (Err why) = RereadsLine is_wanted last line

-- What an audit with a watch makes of a line: it is judged, the watch is told of its envelope, and a line that stops it is read
-- once more.
pub record JudgesLine {W : Type 0} (follows : W → List Envelope → Type 0) (old : Judging W)
    (line : List ℕ) (result : Result ⊤ Stop) (new : Judging W) : Type 0 where
  pub settings : new.settings ≡ old.settings
  pub wants_last : new.wants_last ≡ old.wants_last
  pub taken : UnlessNoMemory result (TakesLine old.settings old.state new.state
      (judged_line old.settings old.state line) result)
  pub followed : UnlessNoMemory result ((es : List Envelope) → follows old.watch es
      → follows new.watch (es ++ envelope_in (judged_line old.settings old.state line)))
  pub again : RereadsLast old.wants_last new.last line result

-- `IsFollowed`, where the answer is Good
abbrev pub FollowsAnswer : Settings → (List Envelope → Type 0) → Table → List ℕ
    → Result Audited Trouble → Type 0
FollowsAnswer settings follows table bytes (Ok a) =
    FollowsGood settings follows table bytes a.verdict
FollowsAnswer settings follows table bytes (Err t) = ⊤

-- what is followed up to the line that decides, where the answer isn't Good
abbrev pub DecidesAnswer : Settings → (List Envelope → Type 0) → (last : Option Envelope)
    → (kept : Summary) → List ℕ → Result Audited Trouble → Type 0
DecidesAnswer settings follows last kept bytes (Ok a) =
    DecidesVerdict settings follows last kept bytes a.verdict
DecidesAnswer settings follows last kept bytes (Err t) = ⊤

-- `IsWatchedAuditOf`, where the lines are judged one by one
pub record JudgesWith (settings : Settings) (follows : List Envelope → Type 0)
    (last : Option Envelope) (kept : Summary) (answer : Result Audited Trouble)
    (bytes rest : List ℕ) : Type 0 where
  pub judges : JudgesAs settings answer bytes rest
  pub follows_it : FollowsAnswer settings follows kept.table bytes answer
  pub decided : DecidesAnswer settings follows last kept bytes answer
