-- The lines of the test case and of the attempt that an envelope is about, by the envelopes up to it.
use Rattle.std.specs.Prelude.{ℕ, ◌+◌, Bool, true, false, List, [], ◌∷◌, ◌++◌, Option, Some, None, codes, decimal, if◌then◌else◌, length}
use Rattle.std.specs.Option.{option_map_or}
use Rattle.cm_attempt.specs.Due.{DueStep}
use Rattle.cm_cases.specs.Places.{case_scenario, pickle_scenario}
use Rattle.cm_envelope.specs.Lines.{line_feed}
use Rattle.cm_envelope.specs.declared.envelope.Envelope.{Envelope}
use Rattle.cm_envelope.specs.declared.envelope.Envelope.TheVariants as envelope
use Rattle.cm_envelope.specs.declared.envelope.TestCaseStarted.{TestCaseStarted}
use Rattle.cm_reasons.specs.Lines.{text_of_lines}
use Rattle.cm_reasons.specs.RunReasons.{run_hook_lines}
use Rattle.cm_steps.specs.Attempts.{start_of}
use Rattle.cm_steps.specs.Steps.{case_step_text, named_case_step}
use Rattle.cm_stream.specs.References.{starts_of}
use Rattle.cm_stream.specs.Texts.{Utf8}

-- ---- a test case, and an attempt

-- `case URI:LINE NAME`, and `attempt N`
abbrev pub case_line : (scenario : List ℕ) → List ℕ
case_line scenario = codes "case" ++ scenario ++ line_feed ∷ []

abbrev pub attempt_line : ℕ → List ℕ
attempt_line n = codes "attempt " ++ decimal n ++ line_feed ∷ []

-- both, of the start of an attempt
abbrev pub start_lines : (upto : List Envelope) → TestCaseStarted → List ℕ
start_lines upto s = case_line (case_scenario upto s.test_case_id) ++ attempt_line s.attempt

-- the scenario of the pickle that a test case names
abbrev pub declared_lines : (upto : List Envelope) → Envelope → List ℕ
declared_lines upto (envelope.TestCase c) = case_line (pickle_scenario upto c.pickle_id)
declared_lines upto _ = []

-- the scenario of the test case at which an attempt starts, and the number of the attempt
abbrev pub started_lines : (upto : List Envelope) → Envelope → List ℕ
started_lines upto (envelope.TestCaseStarted s) = start_lines upto s
started_lines upto _ = []

-- ---- the number that is due

-- `due M`
abbrev pub number_line : ℕ → List ℕ
number_line n = codes "due " ++ decimal n ++ line_feed ∷ []

-- the number of the next attempt of a test case, where the first has this number
abbrev pub due_number : (first : ℕ) → (before : List Envelope) → (test_case : Utf8) → ℕ
due_number first before case = first + length (starts_of case before)

-- the start of an attempt, and the number that is due by the test case
abbrev pub number_lines : (due : Utf8 → ℕ) → (upto : List Envelope) → Envelope → List ℕ
number_lines due upto (envelope.TestCaseStarted s) =
    start_lines upto s ++ number_line (due s.test_case_id)
number_lines due upto _ = []

-- ---- the step that is due

-- by whether a step is running
abbrev pub move_word : (is_running : Bool) → List ℕ
move_word is_running = if is_running then codes " finish " else codes " start "

-- after a word `start STEP`, or `finish STEP` where the step is running
abbrev pub step_line : (word : List ℕ) → (upto : List Envelope) → (test_case : Utf8) → DueStep
    → List ℕ
step_line word upto case d =
    word ++ move_word d.is_running ++ case_step_text upto case d.step ++ line_feed ∷ []

-- that, where there is a step
abbrev pub step_lines : (word : List ℕ) → (upto : List Envelope) → (test_case : Utf8)
    → Option DueStep → List ℕ
step_lines word upto case d = option_map_or (step_line word upto case) d []

-- of the start of an attempt with the step that is due and the one that is found
abbrev pub order_of : (upto : List Envelope) → (due found : Option DueStep) → TestCaseStarted
    → List ℕ
order_of upto due found s =
    start_lines upto s ++ step_lines (codes "due") upto s.test_case_id due
    ++ step_lines (codes "found") upto s.test_case_id found

-- of the attempt with this id, by the step that is due of each
abbrev pub order_at : (due : Utf8 → Option DueStep) → (upto : List Envelope)
    → (found : Option DueStep) → (attempt : Utf8) → List ℕ
order_at due upto found attempt =
    option_map_or (order_of upto (due attempt) found) (start_of attempt upto) []

-- the test case, the attempt, what is due and what is found, at an envelope that names an attempt
abbrev pub order_lines : (due : Utf8 → Option DueStep) → (upto : List Envelope) → Envelope → List ℕ
order_lines due upto (envelope.TestStepStarted x) =
    order_at due upto (Some (record { step = x.test_step_id; is_running = false }))
    x.test_case_started_id
order_lines due upto (envelope.TestStepFinished x) =
    order_at due upto (Some (record { step = x.test_step_id; is_running = true }))
    x.test_case_started_id
order_lines due upto (envelope.TestCaseFinished f) =
    order_at due upto None f.test_case_started_id
order_lines due upto _ = []

-- ---- a status that isn't known

-- the test case, the attempt and the step of the start of an attempt
abbrev pub status_of_step : (upto : List Envelope) → (step : Utf8) → TestCaseStarted → List ℕ
status_of_step upto step s =
    start_lines upto s ++ named_case_step upto s.test_case_id step ++ line_feed ∷ []

-- of an envelope that has the status: the test case, the attempt and the step, or the hook that ran
abbrev pub status_lines : (upto : List Envelope) → Envelope → List ℕ
status_lines upto (envelope.TestStepFinished x) =
    option_map_or (status_of_step upto x.test_step_id) (start_of x.test_case_started_id upto) []
status_lines upto (envelope.TestRunHookFinished f) =
    text_of_lines (run_hook_lines f.test_run_hook_started_id upto)
status_lines upto _ = []
