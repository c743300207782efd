-- The members of each envelope, in the order in which they are read. They are in the JSON schemas of the Cucumber Messages,
-- one of each name (Source, TestCase, TestStepFinished ..).
use Rattle.std.specs.Prelude.{ℕ, List, false, if◌then◌else◌, Option, Some, None, is_some, option_and_then, Result, Ok, codes, bytes_eq}
use Rattle.serde_json.specs.Data.{Data}
use Rattle.serde_json.specs.Find.{as_str, as_bool}
use Rattle.cm_envelope.specs.declared.envelope.Source.{Source}
use Rattle.cm_envelope.specs.declared.envelope.ParseError.{ParseError}
use Rattle.cm_envelope.specs.declared.envelope.SourceReference.{SourceReference}
use Rattle.cm_envelope.specs.declared.envelope.StepDefinition.{StepDefinition}
use Rattle.cm_envelope.specs.declared.envelope.Hook.{Hook}
use Rattle.cm_envelope.specs.declared.envelope.TestRunStarted.{TestRunStarted}
use Rattle.cm_envelope.specs.declared.envelope.TestRunFinished.{TestRunFinished}
use Rattle.cm_envelope.specs.declared.envelope.Attachment.{Attachment}
use Rattle.cm_envelope.specs.declared.envelope.TestCase.{TestCase}
use Rattle.cm_envelope.specs.declared.envelope.TestStep.{TestStep}
use Rattle.cm_envelope.specs.declared.envelope.TestCaseStarted.{TestCaseStarted}
use Rattle.cm_envelope.specs.declared.envelope.TestStepStarted.{TestStepStarted}
use Rattle.cm_envelope.specs.declared.envelope.TestStepResult.{TestStepResult}
use Rattle.cm_envelope.specs.declared.envelope.TestStepFinished.{TestStepFinished}
use Rattle.cm_envelope.specs.declared.envelope.TestCaseFinished.{TestCaseFinished}
use Rattle.cm_envelope.specs.declared.envelope.TestRunHookStarted.{TestRunHookStarted}
use Rattle.cm_envelope.specs.declared.envelope.TestRunHookFinished.{TestRunHookFinished}
use Rattle.cm_envelope.specs.declared.envelope.Status.{Status}
use Rattle.cm_envelope.specs.declared.envelope.Status.TheVariants.{Unknown, Passed, Skipped, Pending, Undefined, Ambiguous, Failed}
use Rattle.cm_envelope.specs.Member.{◌>>=◌, present_member, required_member, optional_member, optional_or, nested_member, list_of, list_of_values, rule, each_item, has_one_of, as_whole_number}

abbrev pub status_of : List ℕ → Option Status
status_of word = if bytes_eq word (codes "UNKNOWN") then Some Unknown
    else if bytes_eq word (codes "PASSED") then Some Passed
    else if bytes_eq word (codes "SKIPPED") then Some Skipped
    else if bytes_eq word (codes "PENDING") then Some Pending
    else if bytes_eq word (codes "UNDEFINED") then Some Undefined
    else if bytes_eq word (codes "AMBIGUOUS") then Some Ambiguous
    else if bytes_eq word (codes "FAILED") then Some Failed
    else None

abbrev pub as_status : Data → Option Status
as_status d = option_and_then status_of (as_str d)

abbrev pub source : Data → Result Source (List ℕ)
source d = do
  uri ← required_member as_str (codes "uri") d
  content ← required_member as_str (codes "data") d
  media ← required_member as_str (codes "mediaType") d
  Ok (record { uri = uri; content = content; media_type = media })

abbrev pub source_reference : Data → Result SourceReference (List ℕ)
source_reference d = do
  uri ← required_member as_str (codes "uri") d
  Ok (record { uri = uri })

abbrev pub parse_error : Data → Result ParseError (List ℕ)
parse_error d = do
  place ← nested_member source_reference (codes "source") d
  Ok (record { source = place })

abbrev pub step_definition : Data → Result StepDefinition (List ℕ)
step_definition d = do
  id ← required_member as_str (codes "id") d
  Ok (record { id = id })

abbrev pub hook : Data → Result Hook (List ℕ)
hook d = do
  id ← required_member as_str (codes "id") d
  Ok (record { id = id })

abbrev pub test_run_started : Data → Result TestRunStarted (List ℕ)
test_run_started d = do
  id ← optional_member as_str (codes "id") d
  Ok (record { id = id })

-- any value of `exception` is one
abbrev pub test_run_finished : Data → Result TestRunFinished (List ℕ)
test_run_finished d = do
  run ← optional_member as_str (codes "testRunStartedId") d
  success ← required_member as_bool (codes "success") d
  Ok (record {
    test_run_started_id = run;
    success = success;
    has_exception = is_some (present_member (codes "exception") d);
  })

abbrev pub attachment : Data → Result Attachment (List ℕ)
attachment d = do
  attempt ← optional_member as_str (codes "testCaseStartedId") d
  step ← optional_member as_str (codes "testStepId") d
  Ok (record { test_case_started_id = attempt; test_step_id = step })

abbrev pub test_step : Data → Result TestStep (List ℕ)
test_step d = do
  id ← required_member as_str (codes "id") d
  hook ← optional_member as_str (codes "hookId") d
  pickle_step ← optional_member as_str (codes "pickleStepId") d
  definitions ← list_of_values as_str (codes "stepDefinitionIds") d
  Ok (record {
    id = id;
    hook_id = hook;
    pickle_step_id = pickle_step;
    step_definition_ids = definitions;
  })

abbrev pub test_case : Data → Result TestCase (List ℕ)
test_case d = do
  id ← required_member as_str (codes "id") d
  pickle ← required_member as_str (codes "pickleId") d
  run ← optional_member as_str (codes "testRunStartedId") d
  checked ← rule (codes "testSteps") (each_item (has_one_of (codes "hookId") (codes "pickleStepId"))
      (codes "testSteps") d)
  steps ← list_of test_step (codes "testSteps") d
  Ok (record { id = id; pickle_id = pickle; test_run_started_id = run; test_steps = steps })

abbrev pub test_case_started : Data → Result TestCaseStarted (List ℕ)
test_case_started d = do
  id ← required_member as_str (codes "id") d
  test_case ← required_member as_str (codes "testCaseId") d
  attempt ← optional_or 0 as_whole_number (codes "attempt") d
  Ok (record { id = id; test_case_id = test_case; attempt = attempt })

abbrev pub test_step_started : Data → Result TestStepStarted (List ℕ)
test_step_started d = do
  attempt ← required_member as_str (codes "testCaseStartedId") d
  step ← required_member as_str (codes "testStepId") d
  Ok (record { test_case_started_id = attempt; test_step_id = step })

abbrev pub test_step_result : Data → Result TestStepResult (List ℕ)
test_step_result d = do
  status ← required_member as_status (codes "status") d
  Ok (record { status = status })

abbrev pub test_step_finished : Data → Result TestStepFinished (List ℕ)
test_step_finished d = do
  attempt ← required_member as_str (codes "testCaseStartedId") d
  step ← required_member as_str (codes "testStepId") d
  result ← nested_member test_step_result (codes "testStepResult") d
  Ok (record { test_case_started_id = attempt; test_step_id = step; test_step_result = result })

abbrev pub test_case_finished : Data → Result TestCaseFinished (List ℕ)
test_case_finished d = do
  attempt ← required_member as_str (codes "testCaseStartedId") d
  retried ← optional_or false as_bool (codes "willBeRetried") d
  Ok (record { test_case_started_id = attempt; will_be_retried = retried })

abbrev pub test_run_hook_started : Data → Result TestRunHookStarted (List ℕ)
test_run_hook_started d = do
  id ← required_member as_str (codes "id") d
  run ← optional_member as_str (codes "testRunStartedId") d
  hook ← required_member as_str (codes "hookId") d
  Ok (record { id = id; test_run_started_id = run; hook_id = hook })

abbrev pub test_run_hook_finished : Data → Result TestRunHookFinished (List ℕ)
test_run_hook_finished d = do
  start ← required_member as_str (codes "testRunHookStartedId") d
  result ← nested_member test_step_result (codes "result") d
  Ok (record { test_run_hook_started_id = start; result = result })
