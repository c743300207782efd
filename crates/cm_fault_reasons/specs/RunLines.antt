-- The lines of what a run leaves open, of sources that are refused, and of what failed, by the envelopes up to the one that
-- shows it.
use Rattle.std.specs.Prelude.{◌≡◌, ℕ, List, [], ◌++◌, codes}
use Rattle.cm_attempt.specs.declared.status.Policy.{Policy}
use Rattle.cm_causes.specs.Causes.{IsTruthTold}
use Rattle.cm_envelope.specs.declared.envelope.Envelope.{Envelope}
use Rattle.cm_envelope.specs.declared.envelope.Envelope.TheVariants as envelope
use Rattle.cm_reasons.specs.Lines.{text_of_lines, limited_text}
use Rattle.cm_reasons.specs.Reasons.{case_lines}
use Rattle.cm_reasons.specs.RunReasons.{AreRefusedLines, first_source, open_hook_lines, run_hook_lines}
use Rattle.cm_steps.specs.Attempts.{open_cases}
use Rattle.cm_stream.specs.References.{sources}

-- `case URI:LINE NAME` of each test case with an attempt that isn't finished, a hundred at most
abbrev pub open_case_lines : (upto : List Envelope) → List ℕ
open_case_lines upto = limited_text (case_lines (codes "case") upto (open_cases upto))

-- `hook ID` of each run hook that isn't finished, a hundred at most
abbrev pub hook_open_lines : (upto : List Envelope) → List ℕ
hook_open_lines upto = limited_text (open_hook_lines upto)

-- `hook ID` of the run hook whose end an envelope is
abbrev pub ended_hook_lines : (upto : List Envelope) → Envelope → List ℕ
ended_hook_lines upto (envelope.TestRunHookFinished f) =
    text_of_lines (run_hook_lines f.test_run_hook_started_id upto)
ended_hook_lines upto _ = []

-- `refused URI:L:C N Name` of the source of a document, where it is refused
abbrev pub IsRefusedAt : (upto : List Envelope) → Envelope → (text : List ℕ) → Type 0
IsRefusedAt upto (envelope.GherkinDocument d) text =
    (lines : List (List ℕ)) × AreRefusedLines (first_source d.uri upto) lines
    × (text ≡ text_of_lines lines)
IsRefusedAt upto _ text = text ≡ []

-- why the run whose end an envelope is isn't successful, or that nothing failed
abbrev pub IsTruthAt : Policy → (upto : List Envelope) → Envelope → (text : List ℕ) → Type 0
IsTruthAt policy upto (envelope.TestRunFinished f) text =
    IsTruthTold policy upto f.has_exception text
IsTruthAt policy upto _ text = text ≡ []

-- of a run that doesn't end: that of each source that is refused, and then each test case with an open attempt
abbrev pub IsToldAtEnd : List Envelope → (text : List ℕ) → Type 0
IsToldAtEnd es text =
    (lines : List (List ℕ)) × AreRefusedLines (sources es) lines
    × (text ≡ limited_text lines ++ open_case_lines es)
