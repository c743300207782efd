-- What the code finds that a release may be refused for.
use Rattle.std.specs.Prelude.{◌≡◌, count_by, map}
use Rattle.cm_attempt.specs.declared.status.Policy.{Policy}
use Rattle.cm_stream.specs.Release.{Conditions}
use Rattle.cm_reasons.specs.Reasons.{step_ids}
use Rattle.cm_release.specs.Counts.{is_undefined_in, missed_in, retried_in, skipped_in, stepless_in, texts_of, undefined_steps_in}
use Rattle.cm_release.specs.declared.counts.Found.{Found}
use Rattle.cm_release.specs.declared.tally.Kept.{Kept}

-- it is what was kept that has it
pub record IsFoundIn (asked : Conditions) (policy : Policy) (kept : Kept) (found : Found) : Type 0 where
  pub missed : texts_of found.missed.items ≡ missed_in asked kept
  pub retried : texts_of found.retried.items ≡ retried_in kept
  pub skipped : texts_of found.skipped.items ≡ skipped_in kept
  pub stepless : texts_of found.stepless.items ≡ stepless_in kept
  pub undefined : found.undefined ≡ count_by (is_undefined_in policy kept) kept.finishes
  pub undefined_steps : map step_ids found.undefined_steps.items ≡ undefined_steps_in policy kept
