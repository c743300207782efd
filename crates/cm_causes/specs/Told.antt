-- The cause of a test case by its result, as the code comes to it.
use Rattle.std.specs.Prelude.{◌≡◌, ℕ, Bool, true, not, List, [], ◌++◌, Option, Some, None, codes, if◌then◌else◌}
use Rattle.cm_attempt.specs.Table.{Utf8, is_good_status}
use Rattle.cm_attempt.specs.declared.status.Policy.{Policy}
use Rattle.cm_attempt.specs.declared.status.Status.{Status}
use Rattle.cm_cases.specs.Places.{case_scenario}
use Rattle.cm_envelope.specs.declared.envelope.Envelope.{Envelope}
use Rattle.cm_steps.specs.Attempts.{is_quiet}
use Rattle.cm_reasons.specs.Words.{status_word}
use Rattle.cm_causes.specs.Causes.{IsCauses, IsTruthTold, last_step_cause}

-- the result of a test case isn't good
abbrev pub is_bad : Policy → Option Status → Bool
is_bad policy (Some status) = not (is_good_status policy status)
is_bad policy None = true

-- the line of a result, with a step where its status may hold the run up
abbrev pub told_result : List Envelope → (test_case : Utf8) → Option Status → List ℕ
told_result es case (Some status) =
    status_word status ++ case_scenario es case
    ++ (if is_quiet status then [] else last_step_cause es case status)
told_result es case None = codes "NONE" ++ case_scenario es case

-- ---- a text to which they were added

abbrev pub AddsCauses : Policy → List Envelope → (has_exception : Bool) → (old new : List ℕ)
    → Type 0
AddsCauses policy es has_exception old new =
    (causes : List ℕ) × IsCauses policy es has_exception causes × (new ≡ old ++ causes)

abbrev pub AddsTruth : Policy → List Envelope → (has_exception : Bool) → (old new : List ℕ)
    → Type 0
AddsTruth policy es has_exception old new =
    (told : List ℕ) × IsTruthTold policy es has_exception told × (new ≡ old ++ told)
