-- What is said of a good run for its release.
use Rattle.std.specs.Prelude.{◌≡◌, ℕ, Bool, List, [], codes, Option, Some, map}
use Rattle.cm_attempt.specs.Results.{case_results}
use Rattle.cm_attempt.specs.Table.{Table}
use Rattle.cm_attempt.specs.declared.status.Policy.{Policy}
use Rattle.cm_attempt.specs.declared.status.Settings.{Settings}
use Rattle.cm_envelope.specs.declared.envelope.Envelope.{Envelope}
use Rattle.cm_reasons.specs.Lines.{limited_text}
use Rattle.cm_causes.specs.Causes.{IsCauses}
use Rattle.cm_reasons.specs.Reasons.{case_lines, pickle_lines, step_ids, undefined_lines}
use Rattle.cm_reasons.specs.Trail.{has_exception, trail_of}
use Rattle.cm_reasons.specs.declared.trail.Trail.{Trail}
use Rattle.cm_stream.specs.Release.{Conditions, hold_of, release_counts_of}
use Rattle.cm_stream.specs.Results.{results_of}
use Rattle.cm_stream.specs.declared.laws.ReleaseCounts.{ReleaseCounts}
use Rattle.cm_stream.specs.declared.laws.Counts.{Counts}
use Rattle.cm_stream.specs.declared.laws.Hold.{Hold}
use Rattle.cm_stream.specs.declared.laws.Hold.TheVariants as hold
use Rattle.cm_release.specs.Counts.{texts_of}
use Rattle.cm_release.specs.Reasons.{AreReasons}
use Rattle.cm_release.specs.declared.counts.Found.{Found}

-- of a stream that isn't good
abbrev pub nothing_counted : ReleaseCounts
nothing_counted = record { missed = 0; retried = 0; skipped = 0; stepless = 0; undefined = 0 }

-- This is counted of the envelopes, the run that says so is held for this, and these are the reasons.
pub record IsJudged (settings : Settings) (asked : Conditions) (es : List Envelope)
    (success : Bool) (counts : Counts) (found : ReleaseCounts) (held : Option Hold)
    (reasons : List ℕ) : Type 0 where
  pub counted : found ≡ release_counts_of asked settings.policy es
  pub first : held ≡ hold_of asked success counts found
  pub told : AreReasons settings.policy asked es held reasons

-- the lines below that of a hold, by what was found
abbrev pub AreLinesIn : Policy → List Envelope → Found → Option Hold → List ℕ → Type 0
AreLinesIn policy es found (Some hold.NotSuccessful) text =
    IsCauses policy es (has_exception es) text
AreLinesIn policy es found (Some hold.Unrun) text =
    text ≡ limited_text (pickle_lines (codes "UNRUN") es (texts_of found.missed.items))
AreLinesIn policy es found (Some hold.Retried) text =
    text ≡ limited_text (pickle_lines (codes "RETRIED") es (texts_of found.retried.items))
AreLinesIn policy es found (Some hold.Skipped) text =
    text ≡ limited_text (case_lines (codes "SKIPPED") es (texts_of found.skipped.items))
AreLinesIn policy es found (Some hold.Stepless) text =
    text ≡ limited_text (case_lines (codes "STEPLESS") es (texts_of found.stepless.items))
AreLinesIn policy es found (Some hold.Undefined) text =
    text ≡ limited_text (undefined_lines es (map step_ids found.undefined_steps.items))
AreLinesIn policy es found _ text = text ≡ []

-- those of the envelopes that a trail is of, and whose results a table has
abbrev pub AreReasonsIn : Policy → Trail → Table → Found → Option Hold → List ℕ → Type 0
AreReasonsIn policy trail table found held text =
    (es : List Envelope) → trail ≡ trail_of es → case_results table ≡ results_of es
    → AreLinesIn policy es found held text
