-- The checks of each line in order, over the lines before it: which fault comes first in a stream. A source's text is read by
-- the function that those ending in `_by` are given, which in a promise is right by the grammar.
use Rattle.std.specs.Prelude.{ℕ, ◌+◌, ◌==◌, nat_lt, Bool, true, false, not, ◌&&◌, ◌||◌, List, [], ◌∷◌, ◌++◌, Option, Some, None, if◌then◌else◌, map, length, slice_get}
use Rattle.std.specs.List.{list_any, list_all}
use Rattle.std.specs.Option.{option_map_or}
use Rattle.std.specs.Str.{bytes_eq}
use Rattle.cm_stream.specs.Texts.{Utf8, same_texts}
use Rattle.cm_attempt.specs.Table.{has_repeat}
use Rattle.cm_attempt.specs.CallFaults.{same_move}
use Rattle.cm_attempt.specs.declared.status.Policy.{Policy}
use Rattle.cm_attempt.specs.declared.status.Settings.{Settings}
use Rattle.gk_document.specs.declared.tree.Document.{Document}
use Rattle.gk_pickle.specs.Pickles.{pickles as compiled}
use Rattle.cm_stream.specs.Readings.{Reading, Accepted, OtherLanguage, TooLong}
use Rattle.cm_stream.specs.Skeleton.{same_skeleton}
use Rattle.cm_stream.specs.Sources.{DuePickle, plain, is_due}
use Rattle.cm_stream.specs.References.{declares, times_declared, refers, sources, run_hooks, documents_of, pickles_of, starts, starts_of, case_of, has_run_started, has_run_finished, is_judged, is_accepted, reading_of_by, find_pickle, pickle_step_ids, steps_of, moves, is_ended, is_retried, is_hook_finished, all_well_by}
use Rattle.cm_attempt.specs.Calls.{Move, StepStarted, StepFinished, Ended, all_moves}
use Rattle.cm_stream.specs.Good.{is_unknown, has_same_names}
use Rattle.cm_envelope.specs.declared.envelope.Envelope.{Envelope}
use Rattle.cm_envelope.specs.declared.envelope.Envelope.TheVariants as envelope
use Rattle.cm_envelope.specs.declared.envelope.Source.{Source}
use Rattle.cm_envelope.specs.declared.envelope.GherkinDocument.{GherkinDocument}
use Rattle.cm_envelope.specs.declared.pickle.Pickle.{Pickle}
use Rattle.cm_envelope.specs.declared.envelope.TestCase.{TestCase}
use Rattle.cm_stream.specs.Findings as bad
use Rattle.cm_stream.specs.Findings.{Fault, Finding, IsBad, IsUnsupported}
use Rattle.cm_stream.specs.declared.laws.Reason.{Reason}
use Rattle.cm_stream.specs.declared.laws.Reason.TheVariants as reason

abbrev pub same_flag : Bool → Bool → Bool
same_flag true b = b
same_flag false b = not b

-- a check of a line: what it reports, and whether the line fails it
pub record Check : Type 0 where
  pub finding : Finding
  pub fails : Bool

infix 80 ◌if◌
abbrev pub ◌if◌ : Fault → Bool → Check
b if fails = record { finding = IsBad b; fails = fails }

infix 80 ◌unsupported_if◌
abbrev pub ◌unsupported_if◌ : Reason → Bool → Check
r unsupported_if fails = record { finding = IsUnsupported r; fails = fails }

-- ---- what is tested, over the lines before

-- it refers to something that no line before declares
abbrev pub refers_to_unknown : List Envelope → Envelope → Bool
refers_to_unknown before e = list_any (λ name. times_declared name before == 0) (refers before e)

-- it declares something that a line before declares, or something twice
abbrev pub declares_again : List Envelope → Envelope → Bool
declares_again before e =
    has_same_names (declares e) || list_any (λ name. nat_lt 0 (times_declared name before))
    (declares e)

abbrev pub is_too_long : Reading → Bool
is_too_long TooLong = true
is_too_long _ = false

abbrev pub is_other_language : Reading → Bool
is_other_language OtherLanguage = true
is_other_language _ = false

-- the source of the uri is accepted; another source, or none, isn't
abbrev pub is_uri_accepted_by : (read : Utf8 → Reading) → Utf8 → List Envelope → Bool
is_uri_accepted_by read uri before = option_map_or is_accepted (reading_of_by read uri before) false

-- the document that the source of the uri is read as has this skeleton
abbrev pub has_skeleton_of : Document → Option Reading → Bool
has_skeleton_of d (Some (Accepted due)) = same_skeleton d due
has_skeleton_of d _ = false

-- the pickles that the source of the uri compiles to
abbrev pub due_pickles : Option Reading → List DuePickle
due_pickles (Some (Accepted d)) = compiled d
due_pickles _ = []

-- the source's next pickle
abbrev pub next_pickle_by : (read : Utf8 → Reading) → Utf8 → List Envelope → Option DuePickle
next_pickle_by read uri before =
    slice_get (due_pickles (reading_of_by read uri before)) (length (pickles_of uri before))

-- the ids of the document of the uri
abbrev pub first_ids : List GherkinDocument → List Utf8
first_ids [] = []
first_ids (d ∷ ds) = d.ids

abbrev pub document_ids : Utf8 → List Envelope → List Utf8
document_ids uri before = first_ids (documents_of uri before)

abbrev pub is_next_pickle_by : (read : Utf8 → Reading) → List Envelope → Pickle → Bool
is_next_pickle_by read before p =
    option_map_or (λ due. is_due (document_ids p.uri before) p due)
    (next_pickle_by read p.uri before) false

-- the case has the steps of its pickle
abbrev pub has_steps_of_pickle : List Envelope → TestCase → Bool
has_steps_of_pickle before c =
    option_map_or (λ p. same_texts (map (λ s. s.id) p.steps) (pickle_step_ids c))
    (find_pickle c.pickle_id before) false

-- the steps of the attempt's case
abbrev pub steps_of_attempt : Utf8 → List Envelope → List Utf8
steps_of_attempt a before = option_map_or (λ c. steps_of c before) (case_of a before) []

-- it is what the attempt has to go through next
abbrev pub is_next_move : Move → Utf8 → List Envelope → Bool
is_next_move m a before =
    option_map_or (same_move m) (slice_get (all_moves (steps_of_attempt a before))
    (length (moves a before))) false

-- a source that is accepted and has no document, or fewer pickles than it compiles to
abbrev pub lacks : List Envelope → Utf8 → Reading → Bool
lacks before uri (Accepted d) =
    (length (documents_of uri before) == 0) || nat_lt (length (pickles_of uri before))
    (length (compiled d))
lacks before uri _ = false

abbrev pub is_incomplete_by : (read : Utf8 → Reading) → List Envelope → Source → Bool
is_incomplete_by read before s = lacks before s.uri (read s.content)

-- ---- the checks, but for the last one of the run's end, where the attempts of a case are numbered from the first number

abbrev pub checks_of_by : (read : Utf8 → Reading) → (first : ℕ) → List Envelope → Envelope
    → List Check
checks_of_by read first before (envelope.Source s) =
    bad.DuplicateUri if declares_again before (envelope.Source s)
    ∷ reason.MediaType unsupported_if not (bytes_eq s.media_type plain)
    ∷ reason.SourceTooLong unsupported_if is_too_long (read s.content)
    ∷ reason.Language unsupported_if is_other_language (read s.content) ∷ []
checks_of_by read first before (envelope.GherkinDocument d) =
    bad.UnknownReference if refers_to_unknown before (envelope.GherkinDocument d)
    ∷ bad.DuplicateUri if declares_again before (envelope.GherkinDocument d)
    ∷ bad.DocumentOfRefusedSource if not (is_uri_accepted_by read d.uri before)
    ∷ bad.TreeDiffers if not (has_skeleton_of d.document (reading_of_by read d.uri before))
    ∷ bad.DuplicateId if has_repeat d.ids ∷ []
checks_of_by read first before (envelope.ParseError p) =
    bad.UnknownReference if refers_to_unknown before (envelope.ParseError p)
    ∷ bad.ParseErrorOfGoodSource if is_uri_accepted_by read p.source.uri before ∷ []
checks_of_by read first before (envelope.Pickle p) =
    bad.UnknownReference if refers_to_unknown before (envelope.Pickle p)
    ∷ bad.PickleDiffers if not (is_next_pickle_by read before p)
    ∷ bad.DuplicateId if declares_again before (envelope.Pickle p) ∷ []
checks_of_by read first before (envelope.StepDefinition d) =
    bad.DuplicateId if declares_again before (envelope.StepDefinition d) ∷ []
checks_of_by read first before (envelope.Hook h) =
    bad.DuplicateId if declares_again before (envelope.Hook h) ∷ []
checks_of_by read first before (envelope.TestCase c) =
    bad.UnknownReference if refers_to_unknown before (envelope.TestCase c)
    ∷ bad.CaseStepsDiffer if not (has_steps_of_pickle before c)
    ∷ bad.DuplicateId if declares_again before (envelope.TestCase c) ∷ []
checks_of_by read first before (envelope.TestRunStarted r) =
    bad.SecondRunStarted if has_run_started before ∷ []
checks_of_by read first before (envelope.TestCaseStarted s) =
    bad.OutsideRun if not (has_run_started before)
    ∷ bad.UnknownReference if refers_to_unknown before (envelope.TestCaseStarted s)
    ∷ bad.DuplicateId if declares_again before (envelope.TestCaseStarted s)
    ∷ bad.AttemptNumber if not (s.attempt == first + length (starts_of s.test_case_id before))
    ∷ bad.AttemptOverlap if not (list_all (λ x. is_retried x.id before)
    (starts_of s.test_case_id before)) ∷ []
checks_of_by read first before (envelope.TestStepStarted s) =
    bad.UnknownReference if refers_to_unknown before (envelope.TestStepStarted s)
    ∷ bad.StepOrder if not (is_next_move (StepStarted s.test_step_id) s.test_case_started_id before)
    ∷ []
checks_of_by read first before (envelope.TestStepFinished s) =
    bad.UnknownReference if refers_to_unknown before (envelope.TestStepFinished s)
    ∷ bad.StepOrder
    if not (is_next_move (StepFinished s.test_step_id) s.test_case_started_id before)
    ∷ reason.UnknownStatus unsupported_if is_unknown s.test_step_result.status ∷ []
checks_of_by read first before (envelope.TestCaseFinished f) =
    bad.UnknownReference if refers_to_unknown before (envelope.TestCaseFinished f)
    ∷ bad.StepOrder if is_ended f.test_case_started_id before
    ∷ bad.FinishedEarly if not (is_next_move Ended f.test_case_started_id before) ∷ []
checks_of_by read first before (envelope.TestRunFinished f) =
    bad.OutsideRun if not (has_run_started before)
    ∷ bad.UnknownReference if refers_to_unknown before (envelope.TestRunFinished f)
    ∷ bad.AttemptOpen if not (list_all (λ s. is_ended s.id before) (starts before))
    ∷ bad.RunHookOpen if not (list_all (λ s. is_hook_finished s.id before) (run_hooks before))
    ∷ bad.SourceIncomplete if list_any (is_incomplete_by read before) (sources before) ∷ []
checks_of_by read first before (envelope.Attachment a) =
    bad.UnknownReference if refers_to_unknown before (envelope.Attachment a) ∷ []
checks_of_by read first before (envelope.TestRunHookStarted s) =
    bad.OutsideRun if not (has_run_started before)
    ∷ bad.UnknownReference if refers_to_unknown before (envelope.TestRunHookStarted s)
    ∷ bad.DuplicateId if declares_again before (envelope.TestRunHookStarted s) ∷ []
checks_of_by read first before (envelope.TestRunHookFinished f) =
    bad.UnknownReference if refers_to_unknown before (envelope.TestRunHookFinished f)
    ∷ bad.RunHookTwice if is_hook_finished f.test_run_hook_started_id before
    ∷ reason.UnknownStatus unsupported_if is_unknown f.result.status ∷ []
checks_of_by read first before envelope.Other = []

-- the last check of the run's end: success is as the run says
abbrev pub success_check_by : (read : Utf8 → Reading) → Policy → List Envelope → Envelope
    → List Check
success_check_by read policy before (envelope.TestRunFinished f) =
    bad.SuccessDiffers
    if not (same_flag f.success (all_well_by read policy before && not f.has_exception)) ∷ []
success_check_by read policy before _ = []

-- those that are made whatever statuses are good; nothing is judged after the end of the run
abbrev pub plain_checks_by : (read : Utf8 → Reading) → (first : ℕ) → List Envelope → Envelope
    → List Check
plain_checks_by read first before e =
    (bad.AfterRunFinished if (is_judged e && has_run_finished before))
    ∷ checks_of_by read first before e

abbrev pub checks_by : (read : Utf8 → Reading) → Settings → List Envelope → Envelope → List Check
checks_by read settings before e =
    plain_checks_by read settings.first_attempt before e
    ++ success_check_by read settings.policy before e

-- the first check that the line fails
abbrev pub first_failed : List Check → Option Finding
first_failed [] = None
first_failed (c ∷ cs) = if c.fails then Some c.finding else first_failed cs

-- the fault of a line after these lines, none of which has a fault
abbrev pub fault_by : (read : Utf8 → Reading) → Settings → List Envelope → Envelope → Option Finding
fault_by read settings before e = first_failed (checks_by read settings before e)

-- the fault at the end
abbrev pub fault_at_end : List Envelope → Option Finding
fault_at_end es = if has_run_finished es then None else Some (IsBad bad.NoRunFinished)
