-- What a release may ask of a run, and which good runs are released.
use Rattle.std.specs.Prelude.{◌≡◌, ◌≢◌, ◌↔◌, ◌==◌, ◌&&◌, ◌||◌, ℕ, Bool, true, false, not, nat_lt, List, [], Option, Some, None, map, length, find, count_by, is_some, if◌then◌else◌}
use Rattle.std.specs.List.{list_any, filter, AllByRecursion}
use Rattle.std.specs.Option.{option_and_then, option_map_or}
use Rattle.std.specs.Str.{bytes_eq}
use Rattle.cm_attempt.specs.Table.{passes_pending}
use Rattle.cm_attempt.specs.declared.status.Policy.{Policy}
use Rattle.cm_attempt.specs.declared.status.Status.{Status}
use Rattle.cm_attempt.specs.declared.status.Status.TheVariants.{Passed, Skipped, Pending}
use Rattle.cm_attempt.specs.declared.status.Settings.{Settings}
use Rattle.cm_stream.specs.Texts.{Utf8}
use Rattle.cm_stream.specs.Statuses.{kept_status}
use Rattle.cm_stream.specs.References.{pickles, cases, starts, starts_of, case_of, find_case, find_pickle, statuses, run_succeeded}
use Rattle.cm_attempt.specs.Calls.{last_of}
use Rattle.cm_stream.specs.Good.{Good}
use Rattle.cm_stream.specs.Stream.{FirstFault, NoFault, IsFirstFault, IsReadAs, IsGoodRun, counts_of}
use Rattle.cm_envelope.specs.declared.envelope.Envelope.{Envelope}
use Rattle.cm_envelope.specs.declared.envelope.Envelope.TheVariants as envelope
use Rattle.cm_envelope.specs.declared.envelope.TestCase.{TestCase}
use Rattle.cm_envelope.specs.declared.envelope.TestCaseStarted.{TestCaseStarted}
use Rattle.cm_envelope.specs.declared.envelope.TestStep.{TestStep}
use Rattle.cm_envelope.specs.declared.pickle.Pickle.{Pickle}
use Rattle.cm_stream.specs.declared.laws.Conditions as held
use Rattle.cm_stream.specs.declared.laws.ReleaseCounts.{ReleaseCounts}
use Rattle.cm_stream.specs.declared.laws.Counts.{Counts}
use Rattle.cm_stream.specs.declared.laws.Hold.{Hold}
use Rattle.cm_stream.specs.declared.laws.Hold.TheVariants as hold
use Rattle.cm_stream.specs.declared.laws.Hold.TheVariants.{NotSuccessful, Empty, Unrun, Retried, Stepless}

-- ---- what is asked of a run

-- What a release asks of a run beyond a good stream that says success: whether the run is a part of what is asked, of which
-- alone no pickle and no test case is asked; which pickles may be without a test case, all or those with one of some tags; and
-- what no scenario may have.
pub record Conditions : Type 0 where
  pub is_part : Bool
  pub allows_unrun : Bool
  pub allowed_tags : List Utf8
  pub no_retries : Bool
  pub no_skips : Bool
  pub no_stepless : Bool
  pub no_undefined : Bool

-- Each pickle has to run, and nothing more is asked; and all that may be asked is.
abbrev pub each_runs : Conditions
each_runs = record {
  is_part = false;
  allows_unrun = false;
  allowed_tags = [];
  no_retries = false;
  no_skips = false;
  no_stepless = false;
  no_undefined = false;
}

abbrev pub strict_conditions : Conditions
strict_conditions = record each_runs {
  no_retries = true;
  no_skips = true;
  no_stepless = true;
  no_undefined = true;
}

-- the conditions that the code holds
abbrev pub conditions_of : held.Conditions → Conditions
conditions_of c = record {
  is_part = c.is_part;
  allows_unrun = c.allows_unrun;
  allowed_tags = map (λ t. t.now) c.allowed_tags.items;
  no_retries = c.no_retries;
  no_skips = c.no_skips;
  no_stepless = c.no_stepless;
  no_undefined = c.no_undefined;
}

-- ---- what is looked at

-- a test case names the pickle
abbrev pub is_named : List Envelope → Pickle → Bool
is_named es p = list_any (λ c. bytes_eq p.id c.pickle_id) (cases es)

-- the pickle has the tag, by its whole name
abbrev pub has_tag : Pickle → Utf8 → Bool
has_tag p tag = list_any (λ t. bytes_eq tag t.name) p.tags

-- the pickle may be without a test case
abbrev pub may_stay_unrun : Conditions → Pickle → Bool
may_stay_unrun asked p = asked.allows_unrun || list_any (has_tag p) asked.allowed_tags

-- it is without one, and may not be; of a part no pickle is asked
abbrev pub is_missed : Conditions → List Envelope → Pickle → Bool
is_missed asked es p =
    not asked.is_part && not (is_named es p) && not (may_stay_unrun asked p)

-- the attempts of a pickle, over all test cases that name it
abbrev pub is_attempt_of : List Envelope → Pickle → TestCaseStarted → Bool
is_attempt_of es p s =
    option_map_or (λ c. bytes_eq p.id c.pickle_id) (find_case s.test_case_id es) false

abbrev pub attempts_of : List Envelope → Pickle → List TestCaseStarted
attempts_of es p = filter (is_attempt_of es p) (starts es)

-- the pickle has more than one attempt
abbrev pub is_retried_pickle : List Envelope → Pickle → Bool
is_retried_pickle es p = nat_lt 1 (length (attempts_of es p))

abbrev pub is_skipped : Status → Bool
is_skipped Skipped = true
is_skipped _ = false

-- a step of the test case's last attempt, a hook's too, was skipped
abbrev pub has_skip : List Envelope → TestCase → Bool
has_skip es c =
    option_map_or (λ s. list_any is_skipped (statuses s.id es)) (last_of (starts_of c.id es)) false

-- the pickle of the test case has no steps
abbrev pub is_stepless : List Envelope → TestCase → Bool
is_stepless es c = option_map_or (λ p. length p.steps == 0) (find_pickle c.pickle_id es) false

-- the test step is of a pickle's step, and names no step definition
abbrev pub is_unmatched : TestStep → Bool
is_unmatched t = is_some t.pickle_step_id && length t.step_definition_ids == 0

-- a step of the case of an attempt
abbrev pub test_step_of : (attempt step : Utf8) → List Envelope → Option TestStep
test_step_of attempt step es =
    option_and_then (λ c. find (λ t. bytes_eq step t.id) c.test_steps)
    (option_and_then (λ id. find_case id es) (case_of attempt es))

-- with this status a step passed, by the policy
abbrev pub is_passing : Policy → Status → Bool
is_passing policy Passed = true
is_passing policy Pending = passes_pending policy
is_passing policy _ = false

-- the envelope reports that a step of a pickle passed which no step definition matches
abbrev pub passes_unmatched : Policy → List Envelope → Envelope → Bool
passes_unmatched policy es (envelope.TestStepFinished f) =
    is_passing policy (kept_status f.test_step_result.status)
    && option_map_or is_unmatched (test_step_of f.test_case_started_id f.test_step_id es) false
passes_unmatched policy es _ = false

-- what is counted of a list of envelopes for its release
abbrev pub release_counts_of : Conditions → Policy → List Envelope → ReleaseCounts
release_counts_of asked policy es = record {
  missed = count_by (is_missed asked es) (pickles es);
  retried = count_by (is_retried_pickle es) (pickles es);
  skipped = count_by (has_skip es) (cases es);
  stepless = count_by (is_stepless es) (cases es);
  undefined = count_by (passes_unmatched policy es) es;
}

-- ---- which runs are released

-- the second, where the first is asked for and something was counted
abbrev pub hold_if : (is_asked : Bool) → ℕ → Hold → Option Hold → Option Hold
hold_if is_asked n hold others = if is_asked && not (n == 0) then Some hold else others

-- why a good run isn't to be released, the first that holds; a part may be empty
abbrev pub hold_of : Conditions → (success : Bool) → Counts → ReleaseCounts → Option Hold
hold_of asked success counts found =
    if not success then Some NotSuccessful
    else (if not asked.is_part && counts.cases == 0 then Some Empty
    else hold_if true found.missed Unrun
    (hold_if asked.no_retries found.retried Retried
    (hold_if asked.no_skips found.skipped hold.Skipped
    (hold_if asked.no_stepless found.stepless Stepless
    (hold_if asked.no_undefined found.undefined hold.Undefined None)))))

-- the test fails for each of the list
abbrev pub NoneIs : {A : Type 0} → (A → Bool) → List A → Type 0
NoneIs test = AllByRecursion (λ x. test x ≡ false)

-- A good stream with these counts, whose run says success. Unless it is a part, it has a test case, and each of its pickles is
-- named by one or may be without; and where it is asked for, none has more than one attempt, no last attempt has a skipped
-- step, no test case is of a pickle without steps, and no step passed that no step definition matches.
pub record IsReleasedStream (settings : Settings) (asked : Conditions) (bytes : List ℕ)
    (counts : Counts) (found : ReleaseCounts) : Type 0 where
  pub judged : List Envelope
  pub read : IsReadAs settings bytes judged
  pub good : Good settings judged
  pub exact : counts ≡ counts_of judged
  pub found_exact : found ≡ release_counts_of asked settings.policy judged
  pub succeeded : run_succeeded judged ≡ true
  pub some_case : asked.is_part ≡ false → cases judged ≢ []
  pub none_missed : NoneIs (is_missed asked judged) (pickles judged)
  pub none_retried : asked.no_retries ≡ true
      → NoneIs (is_retried_pickle judged) (pickles judged)
  pub none_skipped : asked.no_skips ≡ true
      → NoneIs (has_skip judged) (cases judged)
  pub none_stepless : asked.no_stepless ≡ true
      → NoneIs (is_stepless judged) (cases judged)
  pub none_undefined : asked.no_undefined ≡ true
      → NoneIs (passes_unmatched settings.policy judged) judged

-- ---- the laws

-- What a good run's stream is released by: its run isn't held.
abbrev pub ReleasedIsNotHeld : Type 0
ReleasedIsNotHeld =
    (settings : Settings) (asked : Conditions) (bytes : List ℕ) (counts : Counts)
    (found : ReleaseCounts) (success : Bool) (run : IsGoodRun settings bytes counts success)
    → found ≡ release_counts_of asked settings.policy run.judged
    → (hold_of asked success counts found ≡ None)
    ↔ IsReleasedStream settings asked bytes counts found

-- a stream is released exactly where it is good and its run isn't held
abbrev pub ReleasedExactly : Type 0
ReleasedExactly =
    (settings : Settings) (asked : Conditions) (bytes : List ℕ) (counts : Counts)
    (found : ReleaseCounts)
    → IsReleasedStream settings asked bytes counts found
    ↔ ((success : Bool) × (run : IsGoodRun settings bytes counts success)
    × (found ≡ release_counts_of asked settings.policy run.judged)
    × (hold_of asked success counts found ≡ None))

-- no line has a fault, and the run of these envelopes isn't held
abbrev pub Releases : Conditions → Policy → Counts → ReleaseCounts → FirstFault → Type 0
Releases asked policy counts found f =
    (es : List Envelope) × (f ≡ NoFault es) × (counts ≡ counts_of es)
    × (found ≡ release_counts_of asked policy es)
    × (hold_of asked (run_succeeded es) counts found ≡ None)

-- a stream is released exactly where that is so of its first fault
abbrev pub FirstFaultReleases : Type 0
FirstFaultReleases =
    (settings : Settings) (asked : Conditions) (bytes : List ℕ) (counts : Counts)
    (found : ReleaseCounts) (f : FirstFault) → IsFirstFault settings bytes f
    → Releases asked settings.policy counts found f
    ↔ IsReleasedStream settings asked bytes counts found
