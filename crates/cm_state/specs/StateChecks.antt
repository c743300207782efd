-- What is reported of a line, by what an audit keeps of the lines before it.
use Rattle.std.specs.Prelude.{◌==◌, ◌&&◌, ◌||◌, Bool, true, false, not, List, [], ◌∷◌, Option, Some, None, Result, Ok, is_some, is_none, if◌then◌else◌, map, length, find, slice_get, unwrap_or}
use Rattle.std.specs.List.{list_any, list_all}
use Rattle.std.specs.Option.{option_map_or, option_and_then, option_or}
use Rattle.std.specs.Str.{bytes_eq}
use Rattle.cm_refs.specs.Declarations.{find_pickle, find_run_hook, pickle_fault, open_count as open_hook_count}
use Rattle.cm_attempt.specs.Table.{has_text, has_repeat, has_step, find_attempt, is_good_case, is_good_status, open_count}
use Rattle.cm_attempt.specs.declared.status.Status.TheVariants.{Passed}
use Rattle.cm_attempt.specs.declared.status.Policy.{Policy}
use Rattle.cm_attempt.specs.declared.status.Settings.{Settings}
use Rattle.gk_document.specs.declared.tree.Document.{Document}
use Rattle.cm_stream.specs.Texts.{Utf8, same_texts}
use Rattle.cm_stream.specs.Readings.{Reading}
use Rattle.cm_stream.specs.Skeleton.{same_skeleton}
use Rattle.cm_stream.specs.Sources.{plain, is_due}
use Rattle.cm_stream.specs.References.{is_judged, pickle_step_ids}
use Rattle.cm_stream.specs.Good.{is_unknown}
use Rattle.cm_stream.specs.Checks.{Check, ◌if◌, ◌unsupported_if◌, first_failed, is_too_long, is_other_language, same_flag}
use Rattle.cm_stream.specs.Redeclared.{passed_over}
use Rattle.cm_stream.specs.CallFaults.{call_fault_finding, call_fault_of_envelope}
use Rattle.cm_envelope.specs.Reading.{LineFault}
use Rattle.cm_envelope.specs.declared.envelope.Envelope.{Envelope}
use Rattle.cm_envelope.specs.declared.envelope.Envelope.TheVariants as envelope
use Rattle.cm_envelope.specs.declared.envelope.TestCase.{TestCase}
use Rattle.cm_envelope.specs.declared.envelope.TestStep.{TestStep}
use Rattle.cm_envelope.specs.declared.envelope.TestRunStarted.{TestRunStarted}
use Rattle.cm_envelope.specs.declared.envelope.TestRunHookStarted.{TestRunHookStarted}
use Rattle.cm_envelope.specs.declared.envelope.GherkinDocument.{GherkinDocument}
use Rattle.cm_envelope.specs.declared.pickle.Pickle.{Pickle}
use Rattle.cm_stream.specs.Findings as bad
use Rattle.cm_stream.specs.Findings.{Finding, IsBad}
use Rattle.cm_stream.specs.declared.laws.Reason.TheVariants as reason
use Rattle.cm_state.specs.Summary.{SourceRow, Summary}

-- ---- what is judged

-- a hook, or a step definition, whose id is kept already
abbrev pub is_redeclared_by : Summary → Envelope → Bool
is_redeclared_by s (envelope.Hook h) = has_text h.id s.declared.hooks
is_redeclared_by s (envelope.StepDefinition d) = has_text d.id s.declared.definitions
is_redeclared_by s _ = false

-- what an envelope is judged as: one that is declared again is passed over where the settings allow it
abbrev pub judged_by : Settings → Summary → Envelope → Envelope
judged_by settings s e =
    if is_redeclared_by s e && settings.allows_redeclared then passed_over else e

-- what a line is judged as, where it is read so
abbrev pub line_judged_by : Settings → Summary → Option (Result Envelope LineFault)
    → Option (Result Envelope LineFault)
line_judged_by settings s (Some (Ok e)) = Some (Ok (judged_by settings s e))
line_judged_by settings s line = line

-- ---- what is tested

abbrev pub find_source : Summary → Utf8 → Option SourceRow
find_source s uri = find (λ r. bytes_eq uri r.uri) s.sources

abbrev pub is_accepted_by : Summary → Utf8 → Bool
is_accepted_by s uri = option_map_or (λ r. r.is_accepted) (find_source s uri) false

-- the document has the skeleton of the one that is awaited; where none is, an earlier check refuses it
abbrev pub is_awaited_of : Document → SourceRow → Bool
is_awaited_of d r = option_map_or (same_skeleton d) r.awaited false

abbrev pub is_awaited_by : Summary → GherkinDocument → Bool
is_awaited_by s d = option_map_or (is_awaited_of d.document) (find_source s d.uri) false

-- the pickle is the next one of the source
abbrev pub is_next_of : Pickle → SourceRow → Bool
is_next_of p r = option_map_or (λ due. is_due r.ids p due) (slice_get r.due 0) false

abbrev pub is_next_by : Summary → Pickle → Bool
is_next_by s p = option_map_or (is_next_of p) (find_source s p.uri) false

-- the run has this id
abbrev pub is_run : Utf8 → TestRunStarted → Bool
is_run id run = option_map_or (bytes_eq id) run.id false

-- no run is named, or the one that started
abbrev pub knows_run : Summary → Option Utf8 → Bool
knows_run s None = true
knows_run s (Some id) = option_map_or (is_run id) s.run false

-- nothing is named, or one of these
abbrev pub is_among : List Utf8 → Option Utf8 → Bool
is_among texts id = option_map_or (λ t. has_text t texts) id true

-- the ids of the pickle's steps
abbrev pub steps_by : Summary → Utf8 → List Utf8
steps_by s pickle = option_map_or (λ p. p.steps) (find_pickle s.declared pickle) []

abbrev pub knows_step : Summary → Utf8 → TestStep → Bool
knows_step s pickle t =
    is_among s.declared.hooks t.hook_id && is_among (steps_by s pickle) t.pickle_step_id
    && list_all (λ id. has_text id s.declared.definitions) t.step_definition_ids

abbrev pub knows_case : Summary → TestCase → Bool
knows_case s c =
    knows_run s c.test_run_started_id && is_some (find_pickle s.declared c.pickle_id)
    && list_all (knows_step s c.pickle_id) c.test_steps

-- the case has the steps of its pickle
abbrev pub has_steps_by : Summary → TestCase → Bool
has_steps_by s c =
    option_map_or (λ p. same_texts p.steps (pickle_step_ids c))
    (find_pickle s.declared c.pickle_id) false

-- without an attempt its step isn't judged
abbrev pub knows_place : Summary → Option Utf8 → Option Utf8 → Bool
knows_place s None step = true
knows_place s (Some attempt) None = is_some (find_attempt s.table attempt)
knows_place s (Some attempt) (Some step) = has_step s.table attempt step

-- its document is awaited, or one of its pickles
abbrev pub lacks_by : SourceRow → Bool
lacks_by r = is_some r.awaited || not (length r.due == 0)

-- the hook is declared, and the run, where one is named, is the one that started
abbrev pub knows_run_hook : Summary → TestRunHookStarted → Bool
knows_run_hook s x = knows_run s x.test_run_started_id && has_text x.hook_id s.declared.hooks

-- the run hook is finished
abbrev pub is_hook_finished_by : Summary → Utf8 → Bool
is_hook_finished_by s hook =
    option_map_or (λ r. r.is_finished) (find_run_hook s.declared hook) false

abbrev pub is_well : Policy → Summary → Bool
is_well policy s =
    list_all (is_good_case policy) s.table.cases
    && is_good_status policy (unwrap_or s.hooks_worst Passed)
    && list_all (λ r. r.is_accepted) s.sources

-- ---- the checks of a line, where texts are read so, before the one that the record of attempts makes, and after it

abbrev pub checks_before_by : (read : Utf8 → Reading) → Summary → Envelope → List Check
checks_before_by read s (envelope.Source x) =
    bad.DuplicateUri if has_text x.uri s.declared.sources
    ∷ reason.MediaType unsupported_if not (bytes_eq x.media_type plain)
    ∷ reason.SourceTooLong unsupported_if is_too_long (read x.content)
    ∷ reason.Language unsupported_if is_other_language (read x.content) ∷ []
checks_before_by read s (envelope.GherkinDocument d) =
    bad.UnknownReference if not (has_text d.uri s.declared.sources)
    ∷ bad.DuplicateUri if has_text d.uri s.declared.documents
    ∷ bad.DocumentOfRefusedSource if not (is_accepted_by s d.uri)
    ∷ bad.TreeDiffers if not (is_awaited_by s d)
    ∷ bad.DuplicateId if has_repeat d.ids ∷ []
checks_before_by read s (envelope.ParseError p) =
    bad.UnknownReference if not (has_text p.source.uri s.declared.sources)
    ∷ bad.ParseErrorOfGoodSource if is_accepted_by s p.source.uri ∷ []
checks_before_by read s (envelope.Pickle p) =
    bad.UnknownReference if not (has_text p.uri s.declared.sources
    && has_text p.uri s.declared.documents)
    ∷ bad.PickleDiffers if not (is_next_by s p)
    ∷ bad.DuplicateId if is_some (pickle_fault s.declared p.id (map (λ x. x.id) p.steps)) ∷ []
checks_before_by read s (envelope.StepDefinition d) =
    bad.DuplicateId if has_text d.id s.declared.definitions ∷ []
checks_before_by read s (envelope.Hook h) = bad.DuplicateId if has_text h.id s.declared.hooks ∷ []
checks_before_by read s (envelope.TestCase c) =
    bad.UnknownReference if not (knows_case s c)
    ∷ bad.CaseStepsDiffer if not (has_steps_by s c) ∷ []
checks_before_by read s (envelope.TestRunStarted r) = bad.SecondRunStarted if is_some s.run ∷ []
checks_before_by read s (envelope.TestCaseStarted x) = bad.OutsideRun if is_none s.run ∷ []
checks_before_by read s (envelope.TestRunFinished f) =
    bad.OutsideRun if is_none s.run
    ∷ bad.UnknownReference if not (knows_run s f.test_run_started_id)
    ∷ bad.AttemptOpen if not (open_count s.table == 0)
    ∷ bad.RunHookOpen if not (open_hook_count s.declared == 0)
    ∷ bad.SourceIncomplete if list_any lacks_by s.sources ∷ []
checks_before_by read s (envelope.Attachment a) =
    bad.UnknownReference if not (knows_place s a.test_case_started_id a.test_step_id) ∷ []
checks_before_by read s (envelope.TestRunHookStarted x) =
    bad.OutsideRun if is_none s.run
    ∷ bad.UnknownReference if not (knows_run_hook s x)
    ∷ bad.DuplicateId if is_some (find_run_hook s.declared x.id) ∷ []
checks_before_by read s (envelope.TestRunHookFinished f) =
    bad.UnknownReference if not (is_some (find_run_hook s.declared f.test_run_hook_started_id))
    ∷ bad.RunHookTwice if is_hook_finished_by s f.test_run_hook_started_id
    ∷ reason.UnknownStatus unsupported_if is_unknown f.result.status ∷ []
checks_before_by read s _ = []

abbrev pub checks_after : Envelope → List Check
checks_after (envelope.TestStepFinished x) =
    reason.UnknownStatus unsupported_if is_unknown x.test_step_result.status ∷ []
checks_after _ = []

-- the last check of the run's end: success is as the run says
abbrev pub success_by : Policy → Summary → Envelope → List Check
success_by policy s (envelope.TestRunFinished f) =
    bad.SuccessDiffers if not (same_flag f.success (is_well policy s && not f.has_exception)) ∷ []
success_by policy s _ = []

-- the finding of a line by the checks that are made whatever statuses are good
abbrev pub plain_finding_by : (read : Utf8 → Reading) → Summary → Envelope → Option Finding
plain_finding_by read s e =
    option_or (first_failed (checks_before_by read s e))
    (option_or (option_and_then call_fault_finding (call_fault_of_envelope s.table e))
    (first_failed (checks_after e)))

-- the finding of a line of which no check comes after the end of the run
abbrev pub finding_inside_by : (read : Utf8 → Reading) → Policy → Summary → Envelope
    → Option Finding
finding_inside_by read policy s e =
    option_or (plain_finding_by read s e) (first_failed (success_by policy s e))

-- the finding of a line: nothing is judged after the end of the run
abbrev pub finding_by : (read : Utf8 → Reading) → Settings → Summary → Envelope → Option Finding
finding_by read settings s e =
    if is_judged e && s.is_finished then Some (IsBad bad.AfterRunFinished)
    else finding_inside_by read settings.policy s e

-- the finding at the end
abbrev pub finding_at_end : Summary → Option Finding
finding_at_end s = if s.is_finished then None else Some (IsBad bad.NoRunFinished)
