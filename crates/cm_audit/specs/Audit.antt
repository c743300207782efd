-- What an audit answers of the bytes of a stream, and how far it reads.
use Rattle.std.specs.Prelude.{◌≡◌, ◌⊎◌, ◌≤◌, ◌<◌, ⊤, Bool, true, false, ℕ, List, ◌++◌, Option, Some, None, Result, Ok, Err, length, map}
use Rattle.std.specs.List.{flat_map}
use Rattle.cm_envelope.specs.Device.{CountsFailure, Input, OfReads, OfWhole}
use Rattle.cm_envelope.specs.Lines.{Line, max_line_bytes, max_piece_bytes, max_stream_bytes}
use Rattle.cm_envelope.specs.Reading.{LineFault}
use Rattle.cm_envelope.specs.Feeds.{ShowNothing, is_failed_read, bytes_with_end}
use Rattle.cm_envelope.specs.declared.envelope.Envelope.{Envelope}
use Rattle.cm_envelope.specs.declared.feed.Trouble.{Trouble}
use Rattle.cm_envelope.specs.declared.feed.Trouble.TheVariants.{ReadFailed, Memory}
use Rattle.cm_attempt.specs.declared.status.Settings.{Settings}
use Rattle.cm_stream.specs.Findings.{IsBad, NoEnvelope}
use Rattle.cm_stream.specs.Stream.{FirstFault, IsFirstFault, IsFirstFaultOf, IsGoodRun, GoodWith, Answer, GoodRunsOnly, NoneIsGood, Troubled, envelope_unless_blank, feed_of, answer_of_audit, answer_for, verdict_in}
use Rattle.cm_stream.specs.Unsupported.{ShowsReason}
use Rattle.cm_stream.specs.declared.laws.Counts.{Counts}
use Rattle.cm_stream.specs.declared.laws.Audited.{Audited}
use Rattle.cm_stream.specs.declared.laws.Verdict.{Verdict}
use Rattle.cm_stream.specs.declared.laws.Verdict.TheVariants as verdict
use Rattle.cm_state.specs.StateChecks.{line_judged_by}
use Rattle.cm_judge.specs.State.{Takes, Refuses, summary_of}
use Rattle.cm_judge.specs.declared.state.State.{State}
use Rattle.cm_judge.specs.declared.stop.Stop.{Stop}
use Rattle.cm_judge.specs.declared.stop.Stop.TheVariants as stop

-- ---- the answer

-- it is this answer, unless a read failed or memory was refused
abbrev pub AnswersAs : Answer → Result Audited Trouble → Type 0
AnswersAs a (Err ReadFailed) = ⊤
AnswersAs a (Err Memory) = ⊤
AnswersAs a answer = answer_of_audit answer ≡ a

-- the answer is that for the first fault of the bytes
pub record AnswersTold (settings : Settings) (bytes : List ℕ)
    (answer : Result Audited Trouble) : Type 0 where
  pub first : FirstFault
  pub is_first : IsFirstFault settings bytes first
  pub answers : AnswersAs (answer_for first) answer

-- ---- how far it reads

-- the lines without their line feeds, and with them
abbrev pub contents : List Line → List (List ℕ)
contents lines = map (λ l. l.bytes) lines

abbrev pub all_written : List Line → List ℕ
all_written lines = flat_map bytes_with_end lines

-- The first lines of the bytes were read, then `ahead`, and the rest was not.
pub record Begins (bytes : List ℕ) (lines : List Line) (ahead rest : List ℕ) : Type 0 where
  -- the bytes are those that were read, then the rest
  pub read : List ℕ
  pub cut : bytes ≡ read ++ rest
  -- those that were read are the lines with their line feeds, then `ahead`
  pub has_read : read ≡ all_written lines ++ ahead
  -- and the lines are the first ones
  pub more : List (List ℕ)
  pub first : (feed_of bytes).lines ≡ contents lines ++ more

-- none of these lines has a fault, where a read failed after them
abbrev pub HaveNoFault : Settings → List Line → Type 0
HaveNoFault settings lines =
    IsFirstFaultOf settings (contents lines) (Some ReadFailed) (Troubled ReadFailed)

-- Before a failed read, lines without a fault were read, and then `ahead`, which is no whole line and passes no limit.
pub record ShowNoFault (settings : Settings) (before after : List ℕ) : Type 0 where
  pub lines : List Line
  pub ahead : List ℕ
  pub begins : Begins before lines ahead after
  pub faultless : HaveNoFault settings lines
  pub nothing : ShowNothing max_line_bytes max_stream_bytes (length (all_written lines)) ahead

-- Of these bytes to come before and after, the first n lines with their line feeds were read, and at most one piece more.
pub record ReadsNoFurther (n : ℕ) (before after : List ℕ) : Type 0 where
  pub lines : List Line
  pub ahead : List ℕ
  pub begins : Begins before lines ahead after
  pub count : length lines ≡ n
  pub few : length ahead ≤ max_piece_bytes

-- no more than that is read before a finding at line n is reported, unless n is past the last line
abbrev pub ReadsUpTo : Result Verdict Trouble → (before after : List ℕ) → Type 0
ReadsUpTo (Ok (verdict.Bad n b)) before after =
    (length (feed_of before).lines < n) ⊎ ReadsNoFurther n before after
ReadsUpTo (Ok (verdict.Unsupported n r)) before after = ReadsNoFurther n before after
ReadsUpTo _ before after = ⊤

-- ---- what is answered of a good stream, and of one that isn't judged

-- a good stream is answered Good, with its counts and what it says of success, unless a read failed or memory was refused
abbrev pub DecidesGood : Settings → List ℕ → Result Audited Trouble → Type 0
DecidesGood settings bytes answer =
    (counts : Counts) (success : Bool) → IsGoodRun settings bytes counts success
    → AnswersAs (GoodWith counts success) answer

-- Unsupported only at a line that shows the reason
abbrev pub ShowsUnsupported : List ℕ → Result Verdict Trouble → Type 0
ShowsUnsupported bytes (Ok (verdict.Unsupported n r)) = ShowsReason bytes n r
ShowsUnsupported bytes _ = ⊤

-- ---- both, of the same bytes

-- What the answer of an audit says of all bytes of its stream, and of those that weren't read.
pub record IsAuditOf (settings : Settings) (answer : Result Audited Trouble)
    (bytes rest : List ℕ) : Type 0 where
  -- Good is for good streams, Bad where no good one begins so, and the first fault decides
  pub good : GoodRunsOnly settings bytes answer
  pub bad : NoneIsGood settings bytes (verdict_in answer)
  pub told : AnswersTold settings bytes answer
  -- each good stream is answered Good, and Unsupported is for a line that shows the reason
  pub decided : DecidesGood settings bytes answer
  pub unsupported : ShowsUnsupported bytes (verdict_in answer)
  -- how far it was read, also where a read failed
  pub read_failed : answer ≡ Err ReadFailed → ShowNoFault settings bytes rest
  pub ahead : ReadsUpTo (verdict_in answer) bytes rest

-- ---- all that an audit says

-- where the verdict is Good, the source was at its end, and the bytes heard are a good stream with these counts, whose run
-- says so of its success
abbrev pub GoodHeardIn : Settings → (before after : Input) → Verdict → (success : Bool) → Type 0
GoodHeardIn settings before after (verdict.Good counts) success =
    OfWhole before after (λ bytes. IsGoodRun settings bytes counts success)
GoodHeardIn settings before after _ success = ⊤

-- that, where the answer is a verdict
abbrev pub GoodHeard : Settings → (before after : Input) → Result Audited Trouble → Type 0
GoodHeard settings before after (Ok a) = GoodHeardIn settings before after a.verdict a.success
GoodHeard settings before after (Err t) = ⊤

-- where the verdict is Good, the source was at its end
abbrev pub GoodAtEndIn : Input → Verdict → Type 0
GoodAtEndIn after (verdict.Good counts) = after.is_over ≡ true
GoodAtEndIn after _ = ⊤

abbrev pub GoodAtEnd : Input → Result Audited Trouble → Type 0
GoodAtEnd after (Ok a) = GoodAtEndIn after a.verdict
GoodAtEnd after (Err t) = ⊤

-- What an audit by the settings answers, from one state of its source to a later one.
pub record Audits (settings : Settings) (answer : Result Audited Trouble) (before after : Input)
    : Type 0 where
  -- it is right of the bytes heard, whatever comes after them
  pub heard : OfReads before after (IsAuditOf settings answer)
  -- Good is answered only at the source's end
  pub at_end : GoodAtEnd after answer
  -- a read failed exactly where that is the answer
  pub failures : CountsFailure (is_failed_read answer) before.failed_calls after.failed_calls

-- the verdict is that of an audit by the settings
abbrev pub IsVerdictOf : Settings → Result Verdict Trouble → (before after : Input) → Type 0
IsVerdictOf settings v before after =
    (answer : Result Audited Trouble) × (v ≡ verdict_in answer)
    × Audits settings answer before after

-- ---- a line

-- what a line is judged as, by what is kept of the lines before it
abbrev pub judged_line : Settings → State → List ℕ → Option (Result Envelope LineFault)
judged_line settings s line =
    line_judged_by settings (summary_of s) (envelope_unless_blank line)

-- what a line that is read so leaves
abbrev pub TakesLine : Settings → (old new : State) → Option (Result Envelope LineFault)
    → Result ⊤ Stop → Type 0
TakesLine settings old new None (Ok done) = summary_of new ≡ summary_of old
TakesLine settings old new None (Err why) = ⊥
TakesLine settings old new (Some (Ok e)) answer = Takes settings old new e answer
TakesLine settings old new (Some (Err b)) (Ok done) = ⊥
TakesLine settings old new (Some (Err b)) (Err why) =
    Refuses (Some (IsBad (NoEnvelope b))) old new why

-- the verdict on a stream that isn't good
abbrev pub unsuccessful : Verdict → Audited
unsuccessful v = record { verdict = v; success = false }

-- the answer at a line
abbrev pub audited_at : ℕ → Stop → Result Audited Trouble
audited_at n (stop.Bad b) = Ok (unsuccessful (verdict.Bad n b))
audited_at n (stop.Unsupported r) = Ok (unsuccessful (verdict.Unsupported n r))
audited_at n stop.Memory = Err Memory
