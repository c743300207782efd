-- What is said of a good run, from what was found.
use Rattle.std.proofs.Common.{◌≡◌, ◌∙◌, ap, subst, ℕ, Bool, List, Option, Some, None}
use Rattle.std.specs.Prelude.{codes}
use Rattle.cm_attempt.specs.declared.status.Settings.{Settings}
use Rattle.cm_attempt.specs.declared.status.Policy.{Policy}
use Rattle.cm_envelope.specs.declared.envelope.Envelope.{Envelope}
use Rattle.cm_reasons.specs.Lines.{limited_text}
use Rattle.cm_reasons.specs.Reasons.{StepIds, case_lines, pickle_lines, undefined_lines}
use Rattle.cm_reasons.specs.Trail.{trail_of}
use Rattle.cm_stream.specs.Good.{Good, Sound}
use Rattle.cm_stream.specs.Release.{Conditions, hold_of}
use Rattle.cm_stream.specs.Texts.{Utf8}
use Rattle.cm_stream.specs.declared.laws.ReleaseCounts.{ReleaseCounts}
use Rattle.cm_stream.specs.declared.laws.Counts.{Counts}
use Rattle.cm_stream.specs.declared.laws.Hold.{Hold}
use Rattle.cm_stream.specs.declared.laws.Hold.TheVariants as hold
use Rattle.cm_release.specs.Counts.{counts_in}
use Rattle.cm_release.specs.Found.{IsFoundIn}
use Rattle.cm_release.specs.Judged.{AreLinesIn, IsJudged}
use Rattle.cm_release.specs.Kept.{kept_of}
use Rattle.cm_release.specs.Reasons.{AreReasons}
use Rattle.cm_release.specs.Tallied.{IsTallyOf}
use Rattle.cm_release.specs.declared.counts.Found.{Found}
use Rattle.cm_release.specs.declared.tally.Kept.{Kept}
use Rattle.cm_release.specs.declared.tally.Tally.{Tally}
use Rattle.cm_release.proofs.WholeLemmas.{counts_same, missed_same, retried_same, skipped_same, stepless_same, undefined_same}

module _ (policy : Policy) (asked : Conditions) (es : List Envelope) (good : Sound es) (found : Found) (is : IsFoundIn asked policy (kept_of es) found) where
  -- the lines are the reasons
  reasons : (held : Option Hold) (text : List ℕ) → AreLinesIn policy es found held text → AreReasons policy asked es held text
  reasons (Some hold.Unrun) text h = h ∙ ap (λ (ids : List Utf8). limited_text (pickle_lines (codes "UNRUN") es ids)) (is.missed ∙ missed_same asked es)
  reasons (Some hold.Retried) text h = h ∙ ap (λ (ids : List Utf8). limited_text (pickle_lines (codes "RETRIED") es ids)) (is.retried ∙ retried_same es)
  reasons (Some hold.Skipped) text h = h ∙ ap (λ (ids : List Utf8). limited_text (case_lines (codes "SKIPPED") es ids)) (is.skipped ∙ skipped_same es)
  reasons (Some hold.Stepless) text h = h ∙ ap (λ (ids : List Utf8). limited_text (case_lines (codes "STEPLESS") es ids)) (is.stepless ∙ stepless_same es)
  reasons (Some hold.Undefined) text h = h ∙ ap (λ (steps : List StepIds). limited_text (undefined_lines es steps)) (is.undefined_steps ∙ undefined_same policy es good)
  reasons (Some hold.NotSuccessful) text h = h
  reasons (Some hold.Empty) text h = h
  reasons None text h = h

pub judged : (settings : Settings) (asked : Conditions) (es : List Envelope) (tally : Tally) (found : Found) (success : Bool) (counts : Counts) (counted : ReleaseCounts) (held : Option Hold) (text : List ℕ)
    → IsTallyOf tally es → Good settings es → IsFoundIn asked settings.policy tally.keeping.kept found
    → ((asked : Conditions) (policy : Policy) (kept : Kept) → IsFoundIn asked policy kept found → counted ≡ counts_in asked policy kept)
    → held ≡ hold_of asked success counts counted → (tally.trail ≡ trail_of es → AreLinesIn settings.policy es found held text) → IsJudged settings asked es success counts counted held text
judged settings asked es tally found success counts counted held text kept good is count first lines =
    let here : IsFoundIn asked settings.policy (kept_of es) found = subst (λ (k : Kept). IsFoundIn asked settings.policy k found) kept.0.0 is in
    record {
      counted = count asked settings.policy (kept_of es) here ∙ counts_same asked settings es good;
      first = first;
      told = reasons settings.policy asked es good.sound found here held text (lines kept.1);
    }
