-- What is told of the line that decides, by what an audit keeps of the lines before it, and the envelopes up to it.
use Rattle.std.specs.Prelude.{◌≡◌, ⊤, ◌+◌, ◌-◌, ℕ, Bool, true, false, List, Option, None, length, option_map}
use Rattle.cm_attempt.specs.Due.{due_step}
use Rattle.cm_attempt.specs.Results.{case_results}
use Rattle.cm_attempt.specs.declared.status.Settings.{Settings}
use Rattle.cm_envelope.specs.declared.envelope.Envelope.{Envelope}
use Rattle.cm_envelope.specs.declared.envelope.Envelope.TheVariants as envelope
use Rattle.cm_state.specs.Summary.{Summary}
use Rattle.cm_stream.specs.Findings as bad
use Rattle.cm_stream.specs.Findings.{Finding, IsBad, IsUnsupported}
use Rattle.cm_stream.specs.References.{starts_of}
use Rattle.cm_stream.specs.Results.{results_of}
use Rattle.cm_stream.specs.Texts.{Utf8}
use Rattle.cm_stream.specs.declared.laws.StreamFault.{StreamFault}
use Rattle.cm_stream.specs.declared.laws.StreamFault.TheVariants as fault
use Rattle.cm_fault_reasons.specs.AttemptLines.{declared_lines, number_lines, order_lines, started_lines}
use Rattle.cm_fault_reasons.specs.DuplicateKept.{duplicate_by}
use Rattle.cm_fault_reasons.specs.RunLines.{ended_hook_lines, hook_open_lines, open_case_lines}
use Rattle.cm_fault_reasons.specs.ToldAt.{reason_lines, told_uri_of}
use Rattle.cm_fault_reasons.specs.Unknown.{ToldName, told_id, told_lines}
use Rattle.cm_fault_reasons.specs.UnknownKept.{first_unknown_by}

abbrev pub told_by : Summary → Envelope → Finding → Option ToldName
told_by s e (IsBad bad.DuplicateUri) = told_uri_of e
told_by s e (IsBad bad.ParseErrorOfGoodSource) = told_uri_of e
told_by s e (IsBad bad.UnknownReference) = first_unknown_by s e
told_by s e (IsBad bad.DuplicateId) = option_map told_id (duplicate_by s e)
told_by s e _ = None

-- the number of an attempt of a test case, which is the last of these attempts of the case
abbrev pub last_number : (first : ℕ) → (upto : List Envelope) → (test_case : Utf8) → ℕ
last_number first upto case = first + (length (starts_of case upto) - 1)

abbrev pub lines_by : Settings → Summary → (upto : List Envelope) → Envelope → Finding → List ℕ
lines_by settings s upto e (IsBad bad.CaseStepsDiffer) = declared_lines upto e
lines_by settings s upto e (IsBad bad.AttemptNumber) =
    number_lines (last_number settings.first_attempt upto) upto e
lines_by settings s upto e (IsBad bad.AttemptOverlap) = started_lines upto e
lines_by settings s upto e (IsBad bad.StepOrder) = order_lines (due_step s.table) upto e
lines_by settings s upto e (IsBad bad.FinishedEarly) = order_lines (due_step s.table) upto e
lines_by settings s upto e (IsBad bad.AttemptOpen) = open_case_lines upto
lines_by settings s upto e (IsBad bad.RunHookOpen) = hook_open_lines upto
lines_by settings s upto e (IsBad bad.RunHookTwice) = ended_hook_lines upto e
lines_by settings s upto e (IsUnsupported r) = reason_lines r upto e
lines_by settings s upto e f = told_lines (told_by s e f)

-- ---- by which of these it is told

-- a source isn't what it compiles to
abbrev pub is_of_source : StreamFault → Bool
is_of_source fault.TreeDiffers = true
is_of_source fault.PickleDiffers = true
is_of_source fault.SourceIncomplete = true
is_of_source _ = false

-- the end of the run says of its success what isn't so
abbrev pub is_of_success : StreamFault → Bool
is_of_success fault.SuccessDiffers = true
is_of_success _ = false

-- the source of a document is refused
abbrev pub is_of_refused : StreamFault → Bool
is_of_refused fault.DocumentOfRefusedSource = true
is_of_refused _ = false

-- at the end of a run what is kept has the results of the test cases
abbrev pub HasResults : Summary → (upto : List Envelope) → Envelope → Type 0
HasResults s upto (envelope.TestRunFinished f) = case_results s.table ≡ results_of upto
HasResults s upto _ = ⊤
