-- Judging a stream line by line, by what is kept of the lines before, is judging it over all its lines.
use Rattle.std.specs.Prelude.{◌≡◌, ℕ, ◌+◌, List, [], ◌∷◌, ◌++◌, Option, Some, None, Result, Ok, Err}
use Rattle.cm_envelope.specs.Reading.{LineFault}
use Rattle.cm_envelope.specs.declared.envelope.Envelope.{Envelope}
use Rattle.cm_envelope.specs.declared.feed.Trouble.{Trouble}
use Rattle.cm_attempt.specs.declared.status.Settings.{Settings}
use Rattle.cm_stream.specs.Findings.{Finding, IsBad, NoEnvelope}
use Rattle.cm_stream.specs.Stream.{Answer, GoodWith, Found, Failed, envelope_unless_blank, answer_for, first_fault_of_by}
use Rattle.cm_stream.specs.Checks.{fault_by}
use Rattle.cm_stream.specs.FaultlessLines.{IsFaultlessBy}
use Rattle.cm_stream.specs.Readings.{Reading, ByTheGrammar}
use Rattle.cm_stream.specs.Texts.{Utf8}
use Rattle.cm_state.specs.Summary.{Summary, counts_in, summary_of_lines_by, empty_summary, summary_after_line_by}
use Rattle.cm_state.specs.StateChecks.{finding_by, finding_at_end, line_judged_by}

-- ---- one line

-- the finding of a line is its fault over all the lines before it
abbrev pub FindingsAreFaultsBy : (read : Utf8 → Reading) → Type 0
FindingsAreFaultsBy read =
    (settings : Settings) (es : List Envelope) (e : Envelope) → IsFaultlessBy read settings es
    → finding_by read settings (summary_of_lines_by read settings.first_attempt es) e
    ≡ fault_by read settings es e

abbrev pub FindingsAreFaults : Type 0
FindingsAreFaults = ByTheGrammar FindingsAreFaultsBy

-- what is kept changes by a line
abbrev pub SummariesStepBy : (read : Utf8 → Reading) → Type 0
SummariesStepBy read =
    (settings : Settings) (es : List Envelope) (e : Envelope)
    → IsFaultlessBy read settings (es ++ e ∷ [])
    → summary_of_lines_by read settings.first_attempt (es ++ e ∷ [])
    ≡ summary_after_line_by read (summary_of_lines_by read settings.first_attempt es) e

abbrev pub SummariesStep : Type 0
SummariesStep = ByTheGrammar SummariesStepBy

-- ---- a stream

abbrev pub answer_at_end : ℕ → Summary → Option Finding → Answer
answer_at_end n s None = GoodWith (counts_in s) s.success
answer_at_end n s (Some f) = Found n f

-- a finding at this line, or the answer after it
abbrev pub answer_at_line : ℕ → Option Finding → Answer → Answer
answer_at_line n None more = more
answer_at_line n (Some f) more = Found n f

abbrev pub answer_of_line_by : (read : Utf8 → Reading) → Settings → Summary → ℕ
    → Option (Result Envelope LineFault) → (Summary → Answer) → Answer
answer_of_line_by read settings s n None more = more s
answer_of_line_by read settings s n (Some (Err b)) more = Found n (IsBad (NoEnvelope b))
answer_of_line_by read settings s n (Some (Ok e)) more =
    answer_at_line n (finding_by read settings s e) (more (summary_after_line_by read s e))

-- the answer for these lines, the first of which has the number n, and then the trouble or the end
abbrev pub answer_of_lines_by : (read : Utf8 → Reading) → Settings → Summary → ℕ
    → List (List ℕ) → Option Trouble → Answer
answer_of_lines_by read settings s n [] (Some t) = Failed t
answer_of_lines_by read settings s n [] None = answer_at_end n s (finding_at_end s)
answer_of_lines_by read settings s n (l ∷ ls) t =
    answer_of_line_by read settings s n (line_judged_by settings s (envelope_unless_blank l))
    (λ (now : Summary). answer_of_lines_by read settings now (n + 1) ls t)

-- the answer is that for what is reported of the lines
abbrev pub JudgedIsToldBy : (read : Utf8 → Reading) → Type 0
JudgedIsToldBy read =
    (settings : Settings) (lines : List (List ℕ)) (t : Option Trouble)
    → answer_of_lines_by read settings (empty_summary settings.first_attempt) 1 lines t
    ≡ answer_for (first_fault_of_by read settings [] 1 lines t)

abbrev pub JudgedIsTold : Type 0
JudgedIsTold = ByTheGrammar JudgedIsToldBy
