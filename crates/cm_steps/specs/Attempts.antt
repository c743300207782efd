-- Which attempts of a stream are open, and which steps of an attempt have a status.
use Rattle.std.specs.Prelude.{ℕ, ◌==◌, Bool, true, false, not, List, Option, Some, None, find, map, option_map}
use Rattle.std.specs.List.{filter, filter_map, list_any}
use Rattle.std.specs.Str.{bytes_eq}
use Rattle.cm_attempt.specs.Calls.{last_of}
use Rattle.cm_attempt.specs.Worst.{rank}
use Rattle.cm_attempt.specs.declared.status.Status.{Status}
use Rattle.cm_attempt.specs.declared.status.Status.TheVariants.{Passed, Skipped}
use Rattle.cm_envelope.specs.declared.envelope.Envelope.{Envelope}
use Rattle.cm_envelope.specs.declared.envelope.Envelope.TheVariants as envelope
use Rattle.cm_envelope.specs.declared.envelope.TestCase.{TestCase}
use Rattle.cm_envelope.specs.declared.envelope.TestCaseFinished.{TestCaseFinished}
use Rattle.cm_envelope.specs.declared.envelope.TestCaseStarted.{TestCaseStarted}
use Rattle.cm_envelope.specs.declared.envelope.TestStepFinished.{TestStepFinished}
use Rattle.cm_stream.specs.References.{cases, is_ended, starts, starts_of}
use Rattle.cm_stream.specs.Statuses.{kept_status}
use Rattle.cm_stream.specs.Texts.{Utf8}
use Rattle.cm_steps.specs.declared.listing.Started.{Started}

-- ---- the envelopes of one kind, in order

abbrev pub as_finish : Envelope → Option TestCaseFinished
as_finish (envelope.TestCaseFinished f) = Some f
as_finish _ = None

abbrev pub as_step_finish : Envelope → Option TestStepFinished
as_step_finish (envelope.TestStepFinished f) = Some f
as_step_finish _ = None

abbrev pub finishes : List Envelope → List TestCaseFinished
finishes es = filter_map as_finish es

abbrev pub step_finishes : List Envelope → List TestStepFinished
step_finishes es = filter_map as_step_finish es

-- ---- attempts

-- the start of an attempt
abbrev pub start_of : (attempt : Utf8) → List Envelope → Option TestCaseStarted
start_of attempt es = find (λ s. bytes_eq attempt s.id) (starts es)

-- what is told of it: the test case, and the number; and the same as the code tells it
abbrev pub start_facts : TestCaseStarted → Utf8 × ℕ
start_facts s = (s.test_case_id, s.attempt)

abbrev pub started_facts : Started → Utf8 × ℕ
started_facts s = (s.case_id.now, s.number)

-- an attempt of the test case isn't finished
abbrev pub has_open_attempt : List Envelope → TestCase → Bool
has_open_attempt es c = list_any (λ s. not (is_ended s.id es)) (starts_of c.id es)

-- the ids of the test cases that have one, in order of declaration
abbrev pub open_cases : List Envelope → List Utf8
open_cases es = map (λ c. c.id) (filter (has_open_attempt es) (cases es))

-- the id of the attempt of a test case that started last
abbrev pub last_attempt : (test_case : Utf8) → List Envelope → Option Utf8
last_attempt case es = option_map (λ s. s.id) (last_of (starts_of case es))

-- ---- the steps of an attempt

-- the ends of its steps, in order
abbrev pub finishes_of : (attempt : Utf8) → List Envelope → List TestStepFinished
finishes_of attempt es = filter (λ f. bytes_eq attempt f.test_case_started_id) (step_finishes es)

-- the status that is kept of a step that finished
abbrev pub finish_status : TestStepFinished → Status
finish_status f = kept_status f.test_step_result.status

-- the two are one status
abbrev pub is_status : Status → Status → Bool
is_status a b = rank a == rank b

-- the test step of the first that finished with a status
abbrev pub step_with : (attempt : Utf8) → Status → List Envelope → Option Utf8
step_with attempt status es =
    option_map (λ f. f.test_step_id)
    (find (λ f. is_status status (finish_status f)) (finishes_of attempt es))

-- a status that holds nothing up, whatever the policy
abbrev pub is_quiet : Status → Bool
is_quiet Passed = true
is_quiet Skipped = true
is_quiet _ = false
