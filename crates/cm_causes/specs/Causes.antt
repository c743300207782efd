-- Why a run isn't successful.
use Rattle.std.specs.Prelude.{◌≡◌, ℕ, Bool, true, false, not, List, [], ◌∷◌, ◌++◌, Option, Some, None, codes, filter, map}
use Rattle.std.specs.List.{flat_map}
use Rattle.cm_attempt.specs.Calls.{result_of}
use Rattle.cm_attempt.specs.declared.status.Policy.{Policy}
use Rattle.cm_attempt.specs.declared.status.Status.{Status}
use Rattle.cm_cases.specs.Places.{case_scenario}
use Rattle.cm_envelope.specs.Lines.{line_feed}
use Rattle.cm_envelope.specs.declared.envelope.Envelope.{Envelope}
use Rattle.cm_envelope.specs.declared.envelope.TestCase.{TestCase}
use Rattle.cm_stream.specs.Calls.{calls_of}
use Rattle.cm_stream.specs.References.{cases, if_any, is_good_case, sources}
use Rattle.cm_stream.specs.Texts.{Utf8}
use Rattle.cm_steps.specs.Attempts.{last_attempt, step_with}
use Rattle.cm_steps.specs.Steps.{named_case_step}
use Rattle.cm_reasons.specs.Lines.{limited_text}
use Rattle.cm_reasons.specs.RunReasons.{AreRefusedLines, hook_causes}
use Rattle.cm_reasons.specs.Words.{status_word}

-- ---- test cases

-- ` step STEP`, or ` hook ID`: the first step of the attempt that has the status
abbrev pub step_cause : List Envelope → (test_case attempt : Utf8) → Status → List ℕ
step_cause es case attempt status =
    flat_map (λ step. codes " " ++ named_case_step es case step)
    (if_any (step_with attempt status es))

-- that of the last attempt
abbrev pub last_step_cause : List Envelope → (test_case : Utf8) → Status → List ℕ
last_step_cause es case status =
    flat_map (λ attempt. step_cause es case attempt status) (if_any (last_attempt case es))

-- `STATUS URI:LINE NAME step STEP` of a test case whose final attempt has this status at worst, and `NONE URI:LINE NAME` of one
-- without a final attempt
abbrev pub result_line : List Envelope → (test_case : Utf8) → Option Status → List ℕ
result_line es case (Some status) =
    status_word status ++ case_scenario es case ++ last_step_cause es case status
result_line es case None = codes "NONE" ++ case_scenario es case

abbrev pub cause_of_case : List Envelope → TestCase → List ℕ
cause_of_case es c = result_line es c.id (result_of c.id (calls_of es))

-- that of each test case that isn't good, in order of declaration
abbrev pub case_causes : Policy → List Envelope → List (List ℕ)
case_causes policy es =
    map (cause_of_case es) (filter (λ c. not (is_good_case policy es c)) (cases es))

-- ---- all

abbrev pub exception_line : (has_exception : Bool) → List ℕ
exception_line true = codes "exception" ++ line_feed ∷ []
exception_line false = []

-- The text has the causes: of test cases, of run hooks, of sources and of the run's end, each kind to its hundredth line.
pub record IsCauses (policy : Policy) (es : List Envelope) (has_exception : Bool)
    (text : List ℕ) : Type 0 where
  pub refused : List (List ℕ)
  pub are_refused : AreRefusedLines (sources es) refused
  pub all : text ≡ limited_text (case_causes policy es) ++ limited_text (hook_causes policy es)
      ++ limited_text refused ++ exception_line has_exception

abbrev pub nothing_failed : List ℕ
nothing_failed = codes "nothing failed" ++ line_feed ∷ []

-- the causes, and that nothing failed where there is none
abbrev pub told_causes : (causes : List ℕ) → List ℕ
told_causes [] = nothing_failed
told_causes (c ∷ more) = c ∷ more

-- The text is what is told where a run says of its success what isn't so.
pub record IsTruthTold (policy : Policy) (es : List Envelope) (has_exception : Bool)
    (text : List ℕ) : Type 0 where
  pub causes : List ℕ
  pub are_causes : IsCauses policy es has_exception causes
  pub told : text ≡ told_causes causes
