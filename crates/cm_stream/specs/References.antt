-- What a list of envelopes says: who declares and refers to what, which attempts there are, and what they went through.
-- The envelopes and their members are those of the Cucumber Messages schemas (`Envelope` and what it names).
use Rattle.std.specs.Prelude.{ℕ, ◌&&◌, Bool, true, false, not, List, [], ◌∷◌, ◌++◌, Option, Some, None, map, find, count_by}
use Rattle.std.specs.List.{list_any, list_all, filter, filter_map, flat_map}
use Rattle.std.specs.Option.{option_and_then, option_map, option_map_or}
use Rattle.std.specs.Str.{bytes_eq}
use Rattle.cm_stream.specs.Texts.{Utf8}
use Rattle.cm_stream.specs.Readings.{Reading, Accepted}
use Rattle.cm_envelope.specs.declared.envelope.Envelope.{Envelope}
use Rattle.cm_envelope.specs.declared.envelope.Envelope.TheVariants as envelope
use Rattle.cm_envelope.specs.declared.envelope.Source.{Source}
use Rattle.cm_envelope.specs.declared.envelope.GherkinDocument.{GherkinDocument}
use Rattle.cm_envelope.specs.declared.pickle.Pickle.{Pickle}
use Rattle.cm_envelope.specs.declared.envelope.TestCase.{TestCase}
use Rattle.cm_envelope.specs.declared.envelope.TestStep.{TestStep}
use Rattle.cm_envelope.specs.declared.envelope.TestCaseStarted.{TestCaseStarted}
use Rattle.cm_envelope.specs.declared.envelope.TestRunFinished.{TestRunFinished}
use Rattle.cm_envelope.specs.declared.envelope.TestRunHookStarted.{TestRunHookStarted}
use Rattle.cm_envelope.specs.declared.envelope.TestRunHookFinished.{TestRunHookFinished}
use Rattle.cm_attempt.specs.declared.status.Status.{Status}
use Rattle.cm_stream.specs.Statuses.{kept_status}
use Rattle.cm_attempt.specs.Worst.{worst_of}
use Rattle.cm_attempt.specs.Calls as call
use Rattle.cm_attempt.specs.Calls.{Move, is_end, last_of}
use Rattle.cm_stream.specs.Calls.{call_of}
use Rattle.cm_attempt.specs.Table.{is_good_status}
use Rattle.cm_attempt.specs.declared.status.Policy.{Policy}

-- ---- the envelopes of one kind, in order

abbrev pub as_source : Envelope → Option Source
as_source (envelope.Source s) = Some s
as_source _ = None

abbrev pub as_document : Envelope → Option GherkinDocument
as_document (envelope.GherkinDocument d) = Some d
as_document _ = None

abbrev pub as_pickle : Envelope → Option Pickle
as_pickle (envelope.Pickle p) = Some p
as_pickle _ = None

abbrev pub as_case : Envelope → Option TestCase
as_case (envelope.TestCase c) = Some c
as_case _ = None

abbrev pub as_start : Envelope → Option TestCaseStarted
as_start (envelope.TestCaseStarted s) = Some s
as_start _ = None

abbrev pub as_run_hook : Envelope → Option TestRunHookStarted
as_run_hook (envelope.TestRunHookStarted s) = Some s
as_run_hook _ = None

abbrev pub as_run_hook_end : Envelope → Option TestRunHookFinished
as_run_hook_end (envelope.TestRunHookFinished f) = Some f
as_run_hook_end _ = None

abbrev pub as_run_end : Envelope → Option TestRunFinished
as_run_end (envelope.TestRunFinished f) = Some f
as_run_end _ = None

abbrev pub sources : List Envelope → List Source
sources es = filter_map as_source es

abbrev pub pickles : List Envelope → List Pickle
pickles es = filter_map as_pickle es

abbrev pub cases : List Envelope → List TestCase
cases es = filter_map as_case es

abbrev pub starts : List Envelope → List TestCaseStarted
starts es = filter_map as_start es

-- the starts of run hooks
abbrev pub run_hooks : List Envelope → List TestRunHookStarted
run_hooks es = filter_map as_run_hook es

-- the ends of run hooks
abbrev pub run_hook_ends : List Envelope → List TestRunHookFinished
run_hook_ends es = filter_map as_run_hook_end es

-- the ends of the run: one in a good list
abbrev pub run_ends : List Envelope → List TestRunFinished
run_ends es = filter_map as_run_end es

abbrev pub sources_of : Utf8 → List Envelope → List Source
sources_of uri es = filter (λ s. bytes_eq uri s.uri) (sources es)

abbrev pub documents_of : Utf8 → List Envelope → List GherkinDocument
documents_of uri es = filter (λ d. bytes_eq uri d.uri) (filter_map as_document es)

abbrev pub pickles_of : Utf8 → List Envelope → List Pickle
pickles_of uri es = filter (λ p. bytes_eq uri p.uri) (pickles es)

-- the attempts of a case, in order of start
abbrev pub starts_of : Utf8 → List Envelope → List TestCaseStarted
starts_of case es = filter (λ s. bytes_eq case s.test_case_id) (starts es)

abbrev pub is_run_started : Envelope → Bool
is_run_started (envelope.TestRunStarted r) = true
is_run_started _ = false

abbrev pub is_run_finished : Envelope → Bool
is_run_finished (envelope.TestRunFinished f) = true
is_run_finished _ = false

abbrev pub is_judged : Envelope → Bool
is_judged envelope.Other = false
is_judged _ = true

abbrev pub has_run_started : List Envelope → Bool
has_run_started es = list_any is_run_started es

abbrev pub has_run_finished : List Envelope → Bool
has_run_finished es = list_any is_run_finished es

-- the end of the run says success
abbrev pub says_success : Envelope → Bool
says_success (envelope.TestRunFinished f) = f.success
says_success _ = false

abbrev pub run_succeeded : List Envelope → Bool
run_succeeded es = list_any says_success es

-- ---- names

-- What can be referred to: its kind, its scope and its id. The Messages refer by the members whose names end in `Id` or
-- `Ids`, and by uris.
pub data Name : Type 0 where
  SourceOf : Utf8 → Name
  DocumentOf : Utf8 → Name
  PickleNamed : Utf8 → Name
  PickleStep : (pickle : Utf8) → Utf8 → Name
  Definition : Utf8 → Name
  HookNamed : Utf8 → Name
  Case : Utf8 → Name
  Step : (test_case : Utf8) → Utf8 → Name
  Run : Utf8 → Name
  Attempt : Utf8 → Name
  RunHook : Utf8 → Name

abbrev pub same_name : Name → Name → Bool
same_name (SourceOf a) (SourceOf b) = bytes_eq a b
same_name (DocumentOf a) (DocumentOf b) = bytes_eq a b
same_name (PickleNamed a) (PickleNamed b) = bytes_eq a b
same_name (PickleStep p a) (PickleStep q b) = bytes_eq p q && bytes_eq a b
same_name (Definition a) (Definition b) = bytes_eq a b
same_name (HookNamed a) (HookNamed b) = bytes_eq a b
same_name (Case a) (Case b) = bytes_eq a b
same_name (Step c a) (Step d b) = bytes_eq c d && bytes_eq a b
same_name (Run a) (Run b) = bytes_eq a b
same_name (Attempt a) (Attempt b) = bytes_eq a b
same_name (RunHook a) (RunHook b) = bytes_eq a b
same_name _ _ = false

-- nothing, or one
abbrev pub if_any : {A : Type 0} → Option A → List A
if_any None = []
if_any (Some x) = x ∷ []

-- what an envelope declares
abbrev pub declares : Envelope → List Name
declares (envelope.Source s) = SourceOf s.uri ∷ []
declares (envelope.GherkinDocument d) = DocumentOf d.uri ∷ []
declares (envelope.Pickle p) = PickleNamed p.id ∷ map (λ s. PickleStep p.id s.id) p.steps
declares (envelope.StepDefinition d) = Definition d.id ∷ []
declares (envelope.Hook h) = HookNamed h.id ∷ []
declares (envelope.TestCase c) = Case c.id ∷ map (λ s. Step c.id s.id) c.test_steps
declares (envelope.TestRunStarted r) = map Run (if_any r.id)
declares (envelope.TestCaseStarted s) = Attempt s.id ∷ []
declares (envelope.TestRunHookStarted s) = RunHook s.id ∷ []
declares _ = []

abbrev pub declares_it : Name → Envelope → Bool
declares_it name e = list_any (same_name name) (declares e)

-- how many of the envelopes declare it
abbrev pub times_declared : Name → List Envelope → ℕ
times_declared name es = count_by (declares_it name) es

-- the case of an attempt
abbrev pub case_of : Utf8 → List Envelope → Option Utf8
case_of attempt es =
    option_map (λ s. s.test_case_id) (find (λ s. bytes_eq attempt s.id) (starts es))

-- a step of an attempt is a step of its case
abbrev pub step_names : List Envelope → Utf8 → Utf8 → List Name
step_names before attempt step = map (λ c. Step c step) (if_any (case_of attempt before))

abbrev pub test_step_names : Utf8 → TestStep → List Name
test_step_names pickle s =
    map HookNamed (if_any s.hook_id) ++ map (PickleStep pickle) (if_any s.pickle_step_id)
    ++ map Definition s.step_definition_ids

-- without an attempt its step isn't judged
abbrev pub attachment_names : List Envelope → Option Utf8 → Option Utf8 → List Name
attachment_names before None step = []
attachment_names before (Some attempt) step =
    Attempt attempt ∷ flat_map (step_names before attempt) (if_any step)

-- what an envelope refers to, after these envelopes
abbrev pub refers : List Envelope → Envelope → List Name
refers before (envelope.GherkinDocument d) = SourceOf d.uri ∷ []
refers before (envelope.ParseError p) = SourceOf p.source.uri ∷ []
refers before (envelope.Pickle p) = SourceOf p.uri ∷ DocumentOf p.uri ∷ []
refers before (envelope.TestCase c) =
    map Run (if_any c.test_run_started_id) ++ PickleNamed c.pickle_id
    ∷ flat_map (test_step_names c.pickle_id) c.test_steps
refers before (envelope.TestCaseStarted s) = Case s.test_case_id ∷ []
refers before (envelope.TestStepStarted s) =
    Attempt s.test_case_started_id ∷ step_names before s.test_case_started_id s.test_step_id
refers before (envelope.TestStepFinished s) =
    Attempt s.test_case_started_id ∷ step_names before s.test_case_started_id s.test_step_id
refers before (envelope.TestCaseFinished f) = Attempt f.test_case_started_id ∷ []
refers before (envelope.TestRunFinished f) = map Run (if_any f.test_run_started_id)
refers before (envelope.TestRunHookStarted s) =
    map Run (if_any s.test_run_started_id) ++ HookNamed s.hook_id ∷ []
refers before (envelope.TestRunHookFinished f) = RunHook f.test_run_hook_started_id ∷ []
refers before (envelope.Attachment a) =
    attachment_names before a.test_case_started_id a.test_step_id
refers before _ = []

-- ---- sources, whose texts are read by the given function

-- what the source of a uri is read as
abbrev pub reading_of_by : (read : Utf8 → Reading) → Utf8 → List Envelope → Option Reading
reading_of_by read uri es =
    option_map (λ s. read s.content) (find (λ s. bytes_eq uri s.uri) (sources es))

abbrev pub is_accepted : Reading → Bool
is_accepted (Accepted d) = true
is_accepted _ = false

-- ---- cases

abbrev pub pickle_step_ids : TestCase → List Utf8
pickle_step_ids c = filter_map (λ s. s.pickle_step_id) c.test_steps

abbrev pub find_pickle : Utf8 → List Envelope → Option Pickle
find_pickle id es = find (λ p. bytes_eq id p.id) (pickles es)

abbrev pub find_case : Utf8 → List Envelope → Option TestCase
find_case id es = find (λ c. bytes_eq id c.id) (cases es)

-- the ids of the test steps of a case
abbrev pub steps_of : Utf8 → List Envelope → List Utf8
steps_of case es = option_map_or (λ c. map (λ s. s.id) c.test_steps) (find_case case es) []

-- ---- attempts

-- what an envelope says of an attempt
abbrev pub move_of : Utf8 → Envelope → Option Move
move_of a e = option_and_then (call.move_of a) (call_of e)

-- the envelopes that name an attempt, attachments aside
abbrev pub moves : Utf8 → List Envelope → List Move
moves a es = filter_map (move_of a) es

-- how an attempt ended: whether it will be retried
abbrev pub retry_in : Utf8 → Envelope → Option Bool
retry_in a e = option_and_then (call.retry_in a) (call_of e)

-- of each end of the attempt, whether it will be retried
abbrev pub ends_of : Utf8 → List Envelope → List Bool
ends_of a es = filter_map (retry_in a) es

-- it is finished
abbrev pub is_ended : Utf8 → List Envelope → Bool
is_ended a es = list_any is_end (moves a es)

-- it is finished and will be retried
abbrev pub is_retried : Utf8 → List Envelope → Bool
is_retried a es = list_any (λ r. r) (ends_of a es)

-- it is finished and won't be retried
abbrev pub is_final : Utf8 → List Envelope → Bool
is_final a es = list_any not (ends_of a es)

-- the status of a step that finished
abbrev pub status_in : Utf8 → Envelope → Option Status
status_in a e = option_and_then (call.status_in a) (call_of e)

abbrev pub statuses : Utf8 → List Envelope → List Status
statuses a es = filter_map (status_in a) es

-- ---- run hooks

-- the ends of the run hook
abbrev pub hook_ends_of : Utf8 → List Envelope → List TestRunHookFinished
hook_ends_of hook es =
    filter (λ f. bytes_eq hook f.test_run_hook_started_id) (run_hook_ends es)

-- how many of the envelopes finish the run hook
abbrev pub times_finished : Utf8 → List Envelope → ℕ
times_finished hook es = count_by (λ f. bytes_eq hook f.test_run_hook_started_id) (run_hook_ends es)

-- it is finished
abbrev pub is_hook_finished : Utf8 → List Envelope → Bool
is_hook_finished hook es =
    list_any (λ f. bytes_eq hook f.test_run_hook_started_id) (run_hook_ends es)

-- the statuses of the results of run hooks
abbrev pub hook_statuses : List Envelope → List Status
hook_statuses es = map (λ f. kept_status f.result.status) (run_hook_ends es)

-- ---- success (Messages: TestRunFinished, TestStepResultStatus)

-- the attempt is finished, won't be retried, and is at worst of a good status
abbrev pub ends_well : Policy → List Envelope → Utf8 → Bool
ends_well policy es a = is_final a es && is_good_status policy (worst_of (statuses a es))

-- the case has a final attempt that is at worst of a good status
abbrev pub is_good_case : Policy → List Envelope → TestCase → Bool
is_good_case policy es c =
    option_map_or (λ s. ends_well policy es s.id) (last_of (starts_of c.id es)) false

-- each case has a final attempt that is at worst of a good status, each run hook's result is good, and no source is refused
abbrev pub all_well_by : (read : Utf8 → Reading) → Policy → List Envelope → Bool
all_well_by read policy es =
    list_all (is_good_case policy es) (cases es)
    && list_all (is_good_status policy) (hook_statuses es)
    && list_all (λ s. is_accepted (read s.content)) (sources es)
