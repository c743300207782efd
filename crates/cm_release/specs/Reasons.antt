-- The lines below that of a hold.
use Rattle.std.specs.Prelude.{◌≡◌, ℕ, List, [], Option, Some, None, codes}
use Rattle.cm_attempt.specs.declared.status.Policy.{Policy}
use Rattle.cm_causes.specs.Causes.{IsCauses}
use Rattle.cm_envelope.specs.declared.envelope.Envelope.{Envelope}
use Rattle.cm_reasons.specs.Lines.{limited_text}
use Rattle.cm_reasons.specs.Reasons.{case_lines, missed_pickles, pickle_lines, retried_pickles, skipped_cases, stepless_cases, undefined_lines, undefined_steps}
use Rattle.cm_reasons.specs.Trail.{has_exception}
use Rattle.cm_stream.specs.Release.{Conditions}
use Rattle.cm_stream.specs.declared.laws.Hold.{Hold}
use Rattle.cm_stream.specs.declared.laws.Hold.TheVariants as hold

-- why it holds the run of these envelopes
abbrev pub AreReasonsOf : Policy → Conditions → List Envelope → Hold → List ℕ → Type 0
AreReasonsOf policy asked es hold.NotSuccessful text = IsCauses policy es (has_exception es) text
AreReasonsOf policy asked es hold.Empty text = text ≡ []
AreReasonsOf policy asked es hold.Unrun text =
    text ≡ limited_text (pickle_lines (codes "UNRUN") es (missed_pickles asked es))
AreReasonsOf policy asked es hold.Retried text =
    text ≡ limited_text (pickle_lines (codes "RETRIED") es (retried_pickles es))
AreReasonsOf policy asked es hold.Skipped text =
    text ≡ limited_text (case_lines (codes "SKIPPED") es (skipped_cases es))
AreReasonsOf policy asked es hold.Stepless text =
    text ≡ limited_text (case_lines (codes "STEPLESS") es (stepless_cases es))
AreReasonsOf policy asked es hold.Undefined text =
    text ≡ limited_text (undefined_lines es (undefined_steps policy es))

-- that, where the run is held
abbrev pub AreReasons : Policy → Conditions → List Envelope → Option Hold → List ℕ → Type 0
AreReasons policy asked es (Some h) text = AreReasonsOf policy asked es h text
AreReasons policy asked es None text = text ≡ []
