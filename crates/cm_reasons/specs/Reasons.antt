-- The lines that say why a run is held.
use Rattle.std.specs.Prelude.{ℕ, ◌&&◌, Bool, false, List, ◌++◌, codes, map}
use Rattle.std.specs.List.{filter, flat_map, list_any}
use Rattle.std.specs.Option.{option_map_or}
use Rattle.std.specs.Str.{bytes_eq}
use Rattle.cm_attempt.specs.declared.status.Policy.{Policy}
use Rattle.cm_cases.specs.Places.{case_scenario, pickle_scenario}
use Rattle.cm_envelope.specs.declared.envelope.Envelope.{Envelope}
use Rattle.cm_envelope.specs.declared.envelope.Envelope.TheVariants as envelope
use Rattle.cm_envelope.specs.declared.envelope.TestCase.{TestCase}
use Rattle.cm_envelope.specs.declared.envelope.TestStep.{TestStep}
use Rattle.cm_stream.specs.References.{case_of, cases, pickles}
use Rattle.cm_stream.specs.Release.{Conditions, has_skip, is_missed, is_retried_pickle, is_stepless, is_unmatched, passes_unmatched}
use Rattle.cm_stream.specs.Texts.{Utf8}
use Rattle.cm_steps.specs.Steps.{named_case_step}
use Rattle.cm_reasons.specs.declared.reasons.CaseStep.{CaseStep}

-- ---- pickles and test cases

-- ` URI:LINE NAME` of each of some pickles, after a word; and of each of some test cases
abbrev pub pickle_lines : (word : List ℕ) → List Envelope → (ids : List Utf8) → List (List ℕ)
pickle_lines word es ids = map (λ id. word ++ pickle_scenario es id) ids

abbrev pub case_lines : (word : List ℕ) → List Envelope → (ids : List Utf8) → List (List ℕ)
case_lines word es ids = map (λ id. word ++ case_scenario es id) ids

-- the ids of the pickles that may not be without a test case and are
abbrev pub missed_pickles : Conditions → List Envelope → List Utf8
missed_pickles asked es = map (λ p. p.id) (filter (is_missed asked es) (pickles es))

-- of those that have more than one attempt
abbrev pub retried_pickles : List Envelope → List Utf8
retried_pickles es = map (λ p. p.id) (filter (is_retried_pickle es) (pickles es))

-- of the test cases whose last attempt has a skipped step
abbrev pub skipped_cases : List Envelope → List Utf8
skipped_cases es = map (λ c. c.id) (filter (has_skip es) (cases es))

-- of those whose pickle has no steps
abbrev pub stepless_cases : List Envelope → List Utf8
stepless_cases es = map (λ c. c.id) (filter (is_stepless es) (cases es))

-- ---- steps that no step definition matches

-- a step of a test case, by the ids of both
pub record StepIds : Type 0 where
  pub test_case : Utf8
  pub step : Utf8

-- the ids that the code holds by references
abbrev pub step_ids : CaseStep → StepIds
step_ids s = record { test_case = s.case.now; step = s.step.now }

-- the envelope is the end of the step in an attempt of the test case
abbrev pub is_end_of : List Envelope → (test_case step : Utf8) → Envelope → Bool
is_end_of es case step (envelope.TestStepFinished f) =
    bytes_eq step f.test_step_id
    && option_map_or (bytes_eq case) (case_of f.test_case_started_id es) false
is_end_of es case step _ = false

-- no step definition matches the step, and in an attempt of its test case it passed
abbrev pub is_undefined_step : Policy → List Envelope → TestCase → TestStep → Bool
is_undefined_step policy es c t =
    is_unmatched t && list_any (λ e. passes_unmatched policy es e && is_end_of es c.id t.id e) es

-- those of a test case
abbrev pub undefined_steps_of : Policy → List Envelope → TestCase → List StepIds
undefined_steps_of policy es c =
    map (λ t. record { test_case = c.id; step = t.id })
    (filter (is_undefined_step policy es c) c.test_steps)

-- those of all test cases
abbrev pub undefined_steps : Policy → List Envelope → List StepIds
undefined_steps policy es = flat_map (undefined_steps_of policy es) (cases es)

-- `UNDEFINED SCENARIO step STEP`, of each of some steps
abbrev pub undefined_line : List Envelope → StepIds → List ℕ
undefined_line es s =
    codes "UNDEFINED" ++ case_scenario es s.test_case ++ codes " "
    ++ named_case_step es s.test_case s.step

abbrev pub undefined_lines : List Envelope → List StepIds → List (List ℕ)
undefined_lines es steps = map (undefined_line es) steps
