-- What a released run says of its scenarios and of the run.
use Rattle.std.specs.Prelude.{◌≡◌, ◌≢◌, ◌⊎◌, ◌||◌, ⊤, ℕ, Bool, true, false, List, [], ◌∷◌, Some, map, is_some}
use Rattle.std.specs.List.{list_any, AllByRecursion}
use Rattle.std.specs.Str.{bytes_eq}
use Rattle.cm_attempt.specs.Calls.{all_moves, last_of}
use Rattle.cm_attempt.specs.Table.{is_good_status}
use Rattle.cm_attempt.specs.Worst.{worst_of}
use Rattle.cm_attempt.specs.declared.status.Policy.{Policy}
use Rattle.cm_attempt.specs.declared.status.Policy.TheVariants.{Strict}
use Rattle.cm_attempt.specs.declared.status.Status.TheVariants.{Passed}
use Rattle.cm_attempt.specs.declared.status.Settings.{Settings}
use Rattle.gk_document.specs.declared.tree.Document.{Document}
use Rattle.gk_document.specs.Skeleton.{skeleton}
use Rattle.gk_pickle.specs.Pickles.{pickles as compiled}
use Rattle.cm_envelope.specs.declared.envelope.Envelope.{Envelope}
use Rattle.cm_envelope.specs.declared.envelope.Envelope.TheVariants as envelope
use Rattle.cm_envelope.specs.declared.envelope.GherkinDocument.{GherkinDocument}
use Rattle.cm_envelope.specs.declared.envelope.Source.{Source}
use Rattle.cm_envelope.specs.declared.envelope.TestCase.{TestCase}
use Rattle.cm_envelope.specs.declared.envelope.TestCaseStarted.{TestCaseStarted}
use Rattle.cm_envelope.specs.declared.envelope.TestRunFinished.{TestRunFinished}
use Rattle.cm_envelope.specs.declared.envelope.TestRunHookStarted.{TestRunHookStarted}
use Rattle.cm_envelope.specs.declared.envelope.TestRunHookFinished.{TestRunHookFinished}
use Rattle.cm_envelope.specs.declared.envelope.TestStep.{TestStep}
use Rattle.cm_envelope.specs.declared.pickle.Pickle.{Pickle}
use Rattle.cm_stream.specs.Good.{Everywhere}
use Rattle.cm_stream.specs.Readings.{Accepted, IsReading}
use Rattle.cm_stream.specs.References.{Definition, sources, pickles, cases, run_hooks, hook_ends_of, run_ends, documents_of, pickles_of, starts_of, find_case, find_pickle, pickle_step_ids, moves, is_final, statuses, declares_it}
use Rattle.cm_stream.specs.Release.{Conditions, IsReleasedStream, attempts_of, is_named, is_passing, is_skipped, may_stay_unrun, strict_conditions, test_step_of}
use Rattle.cm_stream.specs.Sources.{DuePickle, is_due}
use Rattle.cm_stream.specs.Statuses.{kept_status}
use Rattle.cm_stream.specs.Texts.{Utf8, same_list}
use Rattle.cm_stream.specs.declared.laws.ReleaseCounts.{ReleaseCounts}
use Rattle.cm_stream.specs.declared.laws.Counts.{Counts}

-- ---- what ran

-- The source's text is of the grammar, its uri has one document, of the text's skeleton, and the uri's pickles are those
-- that the text compiles to, in order.
pub record IsCompiled (es : List Envelope) (s : Source) : Type 0 where
  pub document : Document
  pub accepted : IsReading s.content (Accepted document)
  pub found : GherkinDocument
  pub one_document : documents_of s.uri es ≡ found ∷ []
  pub same_skeleton : skeleton found.document ≡ skeleton document
  pub same_pickles : same_list (is_due found.ids) (pickles_of s.uri es) (compiled document) ≡ true

-- The test case of the pickle ran: it is the one of its id, names the pickle, and has its steps, hooks aside. Its last attempt
-- started, started and finished each step of the case once, in order, and finished; it won't be retried, and is at worst of a
-- good status.
pub record CaseRan (policy : Policy) (es : List Envelope) (c : TestCase)
    (p : Pickle) : Type 0 where
  pub is_there : find_case c.id es ≡ Some c
  pub of_pickle : find_pickle c.pickle_id es ≡ Some p
  pub same_steps : pickle_step_ids c ≡ map (λ s. s.id) p.steps
  pub attempt : TestCaseStarted
  pub is_last : last_of (starts_of c.id es) ≡ Some attempt
  pub each_step : moves attempt.id es ≡ all_moves (map (λ s. s.id) c.test_steps)
  pub not_retried : is_final attempt.id es ≡ true
  pub good_status : is_good_status policy (worst_of (statuses attempt.id es)) ≡ true

-- the pickle ran: a test case of it did
abbrev pub PickleRan : Policy → List Envelope → Pickle → Type 0
PickleRan policy es p = (c : TestCase) × CaseRan policy es c p

-- The run hook finished once, with a good status.
pub record HookRan (policy : Policy) (es : List Envelope) (h : TestRunHookStarted) : Type 0 where
  pub end : TestRunHookFinished
  pub one_end : hook_ends_of h.id es ≡ end ∷ []
  pub good_status : is_good_status policy (kept_status end.result.status) ≡ true

-- The run finished once, says success and has no exception.
pub record RunEnded (es : List Envelope) : Type 0 where
  pub end : TestRunFinished
  pub one_end : run_ends es ≡ end ∷ []
  pub success : end.success ≡ true
  pub no_exception : end.has_exception ≡ false

abbrev pub EachSourceIsCompiled : List Envelope → Type 0
EachSourceIsCompiled es = AllByRecursion (IsCompiled es) (sources es)

abbrev pub EachPickleRan : Policy → List Envelope → Type 0
EachPickleRan policy es = AllByRecursion (PickleRan policy es) (pickles es)

abbrev pub EachCaseRan : Policy → List Envelope → Type 0
EachCaseRan policy es = AllByRecursion (λ c. (p : Pickle) × CaseRan policy es c p) (cases es)

abbrev pub EachHookRan : Policy → List Envelope → Type 0
EachHookRan policy es = AllByRecursion (HookRan policy es) (run_hooks es)

-- All that a released run says, be some pickles unrun or not: each source is compiled, each test case and each run hook ran,
-- and the run ended well.
pub record AllRan (policy : Policy) (es : List Envelope) : Type 0 where
  pub each_source : EachSourceIsCompiled es
  pub each_case : EachCaseRan policy es
  pub each_hook : EachHookRan policy es
  pub run_end : RunEnded es

-- ---- the laws

-- the pickle ran, or may be without a test case
abbrev pub RanOrMayNot : Conditions → Policy → List Envelope → Pickle → Type 0
RanOrMayNot asked policy es p = PickleRan policy es p ⊎ (may_stay_unrun asked p ≡ true)

-- In a released stream each source is compiled, each test case and each run hook ran, and the run ended well; and unless the
-- run is a part, each pickle ran or may be without a test case.
abbrev pub ReleasedRan : Type 0
ReleasedRan =
    (settings : Settings) (asked : Conditions) (bytes : List ℕ) (counts : Counts)
    (found : ReleaseCounts) (r : IsReleasedStream settings asked bytes counts found)
    → AllRan settings.policy r.judged
    × (asked.is_part ≡ false
    → AllByRecursion (RanOrMayNot asked settings.policy r.judged) (pickles r.judged))

-- be the run a part or not, each pickle that a test case names ran
abbrev pub NamedRan : Type 0
NamedRan =
    (settings : Settings) (asked : Conditions) (bytes : List ℕ) (counts : Counts)
    (found : ReleaseCounts) (r : IsReleasedStream settings asked bytes counts found)
    → AllByRecursion (λ p. is_named r.judged p ≡ true → PickleRan settings.policy r.judged p)
    (pickles r.judged)

-- where no pickle may be without a test case, each ran
abbrev pub EachRan : Type 0
EachRan =
    (settings : Settings) (asked : Conditions) (bytes : List ℕ) (counts : Counts)
    (found : ReleaseCounts) (r : IsReleasedStream settings asked bytes counts found)
    → asked.is_part ≡ false → asked.allows_unrun ≡ false → asked.allowed_tags ≡ []
    → EachPickleRan settings.policy r.judged

-- ---- by the conditions

-- the scenario of a text may be left out, by its tags in the text
abbrev pub may_be_left_out : Conditions → DuePickle → Bool
may_be_left_out asked due =
    asked.allows_unrun
    || list_any (λ tag. list_any (λ t. bytes_eq tag t.name) due.tags) asked.allowed_tags

-- The scenario of a text has its pickle, which ran, or it may be left out.
pub record ScenarioRan (asked : Conditions) (policy : Policy) (es : List Envelope) (ids : List Utf8)
    (due : DuePickle) : Type 0 where
  pub pickle : Pickle
  pub is_its : is_due ids pickle due ≡ true
  pub ran : PickleRan policy es pickle ⊎ (may_be_left_out asked due ≡ true)

-- so has each scenario that a source's text compiles to
abbrev pub EachScenarioRan : Conditions → Policy → List Envelope → Source → Type 0
EachScenarioRan asked policy es s =
    (c : IsCompiled es s)
    × AllByRecursion (ScenarioRan asked policy es c.found.ids) (compiled c.document)

abbrev pub ReleasedScenariosRan : Type 0
ReleasedScenariosRan =
    (settings : Settings) (asked : Conditions) (bytes : List ℕ) (counts : Counts)
    (found : ReleaseCounts) (r : IsReleasedStream settings asked bytes counts found)
    → asked.is_part ≡ false
    → AllByRecursion (EachScenarioRan asked settings.policy r.judged)
    (sources r.judged)

-- What is asked of a test case that ran, by its last attempt: that this is the only attempt of its pickle, that none of its
-- steps was skipped, and that its pickle has steps.
pub record CaseMeets (asked : Conditions) (es : List Envelope) (p : Pickle)
    (last : TestCaseStarted) : Type 0 where
  pub only_attempt : asked.no_retries ≡ true → attempts_of es p ≡ last ∷ []
  pub none_skipped : asked.no_skips ≡ true → list_any is_skipped (statuses last.id es) ≡ false
  pub has_steps : asked.no_stepless ≡ true → p.steps ≢ []

abbrev pub EachCaseMeets : Conditions → Policy → List Envelope → Type 0
EachCaseMeets asked policy es =
    AllByRecursion (λ c. (p : Pickle) × (ran : CaseRan policy es c p)
    × CaseMeets asked es p ran.attempt) (cases es)

abbrev pub ReleasedCasesMeet : Type 0
ReleasedCasesMeet =
    (settings : Settings) (asked : Conditions) (bytes : List ℕ) (counts : Counts)
    (found : ReleaseCounts) (r : IsReleasedStream settings asked bytes counts found)
    → EachCaseMeets asked settings.policy r.judged

-- the test step names a step definition, and the stream declares each that it names
abbrev pub IsMatched : List Envelope → TestStep → Type 0
IsMatched es t =
    (t.step_definition_ids ≢ [])
    × AllByRecursion (λ id. list_any (declares_it (Definition id)) es ≡ true) t.step_definition_ids

-- a step of a pickle that passed, in whatever attempt, was matched
abbrev pub StepMatched : Policy → List Envelope → Envelope → Type 0
StepMatched policy es (envelope.TestStepFinished f) =
    is_passing policy (kept_status f.test_step_result.status) ≡ true
    → (t : TestStep) → test_step_of f.test_case_started_id f.test_step_id es ≡ Some t
    → is_some t.pickle_step_id ≡ true → IsMatched es t
StepMatched policy es _ = ⊤

abbrev pub ReleasedStepsMatched : Type 0
ReleasedStepsMatched =
    (settings : Settings) (asked : Conditions) (bytes : List ℕ) (counts : Counts)
    (found : ReleaseCounts) (r : IsReleasedStream settings asked bytes counts found)
    → asked.no_undefined ≡ true
    → Everywhere (λ before e after. StepMatched settings.policy r.judged e)
    r.judged

-- ---- where all is asked, nothing is allowed, and PENDING is no good status

-- The pickle has steps and exactly one attempt. This started and finished each step of its test case once, in order, finished,
-- won't be retried, and each step passed.
pub record PicklePassed (es : List Envelope) (p : Pickle) : Type 0 where
  pub has_steps : p.steps ≢ []
  pub test_case : TestCase
  pub ran : CaseRan Strict es test_case p
  pub only_attempt : attempts_of es p ≡ ran.attempt ∷ []
  pub each_passed : AllByRecursion (λ s. s ≡ Passed) (statuses ran.attempt.id es)

-- The scenario of a text has its pickle, which passed so.
pub record ScenarioPassed (es : List Envelope) (ids : List Utf8) (due : DuePickle) : Type 0 where
  pub pickle : Pickle
  pub is_its : is_due ids pickle due ≡ true
  pub passed : PicklePassed es pickle

abbrev pub EachScenarioPassed : List Envelope → Source → Type 0
EachScenarioPassed es s =
    (c : IsCompiled es s) × AllByRecursion (ScenarioPassed es c.found.ids) (compiled c.document)

-- so is each scenario of each source, and each step of a pickle that passed was matched
abbrev pub StrictlyReleased : Type 0
StrictlyReleased =
    (settings : Settings) (bytes : List ℕ) (counts : Counts) (found : ReleaseCounts)
    (r : IsReleasedStream settings strict_conditions bytes counts found)
    → settings.policy ≡ Strict
    → AllByRecursion (EachScenarioPassed r.judged) (sources r.judged)
    × Everywhere (λ before e after. StepMatched Strict r.judged e) r.judged

-- be the run a part or not, each pickle that ran passed so
abbrev pub StrictlyRan : Type 0
StrictlyRan =
    (settings : Settings) (asked : Conditions) (bytes : List ℕ) (counts : Counts)
    (found : ReleaseCounts) (r : IsReleasedStream settings asked bytes counts found)
    → settings.policy ≡ Strict → asked.no_retries ≡ true → asked.no_skips ≡ true
    → asked.no_stepless ≡ true
    → (p : Pickle) → PickleRan settings.policy r.judged p → PicklePassed r.judged p
