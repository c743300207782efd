-- The options of `cases`, and so those of `audit`, write no conditions, and name no runs and no feature files.
use Rattle.std.proofs.Common.{◌≡◌, ◌∙◌, ◌&&◌, Bool, true, false, List, [], ◌∷◌, Some, None, refl, ap, sym}
use Rattle.std.proofs.lemmas.Bool.{false≢true}
use Rattle.std.specs.Prelude.{codes, if◌then◌else◌}
use Rattle.std.specs.List.{AllByRecursion, list_all}
use Rattle.clap.specs.Words.{Text}
use Rattle.ck_command_line.specs.CommandLine.{has_two_inputs, is_tag}
use Rattle.ck_command_line.specs.Asked.{WrittenWord, features, allow_unrun, allow_unrun_tagged, no_retries, no_skips, no_stepless, no_undefined, strict, as_json, pending_passes, attempts_from, allow_redeclared, run}
use Rattle.ck_command_line.specs.Asked.{asked_of_run, cases_usage, conditions_written, features_of, features_written, has_both_unrun, is_there, runs_of, runs_written, tags_of}
use Rattle.ck_command_line.proofs.Using.{is_own}

-- each is an option of `cases`
abbrev pub AreFree : List WrittenWord → Type 0
AreFree options = AllByRecursion (λ option. is_own cases_usage.options option ≡ true) options

no_tags : (options : List WrittenWord) → AreFree options → tags_of options ≡ []
no_tags [] h = refl
no_tags (features w p ∷ options) h = absurd (false≢true h.0)
no_tags (allow_unrun ∷ options) h = absurd (false≢true h.0)
no_tags ((allow_unrun_tagged w t) ∷ options) h = absurd (false≢true h.0)
no_tags (no_retries ∷ options) h = absurd (false≢true h.0)
no_tags (no_skips ∷ options) h = absurd (false≢true h.0)
no_tags (no_stepless ∷ options) h = absurd (false≢true h.0)
no_tags (no_undefined ∷ options) h = absurd (false≢true h.0)
no_tags (strict ∷ options) h = absurd (false≢true h.0)
no_tags (as_json ∷ options) h = no_tags options h.1
no_tags (pending_passes ∷ options) h = no_tags options h.1
no_tags (attempts_from w n ∷ options) h = no_tags options h.1
no_tags (allow_redeclared ∷ options) h = no_tags options h.1
no_tags (run w ∷ options) h = absurd (false≢true h.0)

none_unrun : (options : List WrittenWord) → AreFree options → is_there (codes "allow-unrun") options ≡ false
none_unrun [] h = refl
none_unrun (features w p ∷ options) h = absurd (false≢true h.0)
none_unrun (allow_unrun ∷ options) h = absurd (false≢true h.0)
none_unrun ((allow_unrun_tagged w t) ∷ options) h = absurd (false≢true h.0)
none_unrun (no_retries ∷ options) h = absurd (false≢true h.0)
none_unrun (no_skips ∷ options) h = absurd (false≢true h.0)
none_unrun (no_stepless ∷ options) h = absurd (false≢true h.0)
none_unrun (no_undefined ∷ options) h = absurd (false≢true h.0)
none_unrun (strict ∷ options) h = absurd (false≢true h.0)
none_unrun (as_json ∷ options) h = none_unrun options h.1
none_unrun (pending_passes ∷ options) h = none_unrun options h.1
none_unrun (attempts_from w n ∷ options) h = none_unrun options h.1
none_unrun (allow_redeclared ∷ options) h = none_unrun options h.1
none_unrun (run w ∷ options) h = absurd (false≢true h.0)

-- so the conditions have no mistake
pub unconditional : (options : List WrittenWord) → AreFree options → conditions_written options ≡ Some (asked_of_run options)
unconditional options h =
    go (has_both_unrun options) (list_all is_tag (tags_of options)) (rw (none_unrun options h) refl) (ap (list_all is_tag) (no_tags options h))
  where
    go : (both all : Bool) → both ≡ false → all ≡ true → (if both then None else if all then Some (asked_of_run options) else None) ≡ Some (asked_of_run options)
    go true all e f = absurd (false≢true (sym e))
    go false true e f = refl
    go false false e f = absurd (false≢true f)

no_runs : (options : List WrittenWord) → AreFree options → runs_of options ≡ []
no_runs [] h = refl
no_runs (features w p ∷ options) h = absurd (false≢true h.0)
no_runs (allow_unrun ∷ options) h = absurd (false≢true h.0)
no_runs (allow_unrun_tagged w t ∷ options) h = absurd (false≢true h.0)
no_runs (no_retries ∷ options) h = absurd (false≢true h.0)
no_runs (no_skips ∷ options) h = absurd (false≢true h.0)
no_runs (no_stepless ∷ options) h = absurd (false≢true h.0)
no_runs (no_undefined ∷ options) h = absurd (false≢true h.0)
no_runs (strict ∷ options) h = absurd (false≢true h.0)
no_runs (as_json ∷ options) h = no_runs options h.1
no_runs (pending_passes ∷ options) h = no_runs options h.1
no_runs (attempts_from w n ∷ options) h = no_runs options h.1
no_runs (allow_redeclared ∷ options) h = no_runs options h.1
no_runs (run w ∷ options) h = absurd (false≢true h.0)

pub runless : (options : List WrittenWord) → AreFree options → runs_written options ≡ Some []
runless options h = ap (λ (runs : List Text). if has_two_inputs runs then None else Some runs) (no_runs options h)

no_paths : (options : List WrittenWord) → AreFree options → features_of options ≡ []
no_paths [] h = refl
no_paths (features w p ∷ options) h = absurd (false≢true h.0)
no_paths (allow_unrun ∷ options) h = absurd (false≢true h.0)
no_paths (allow_unrun_tagged w t ∷ options) h = absurd (false≢true h.0)
no_paths (no_retries ∷ options) h = absurd (false≢true h.0)
no_paths (no_skips ∷ options) h = absurd (false≢true h.0)
no_paths (no_stepless ∷ options) h = absurd (false≢true h.0)
no_paths (no_undefined ∷ options) h = absurd (false≢true h.0)
no_paths (strict ∷ options) h = absurd (false≢true h.0)
no_paths (as_json ∷ options) h = no_paths options h.1
no_paths (pending_passes ∷ options) h = no_paths options h.1
no_paths (attempts_from w n ∷ options) h = no_paths options h.1
no_paths (allow_redeclared ∷ options) h = no_paths options h.1
no_paths (run w ∷ options) h = absurd (false≢true h.0)

pub featureless : (options : List WrittenWord) → AreFree options → features_written options ≡ Some []
featureless options h =
    ap (λ (unrun : Bool). if unrun && is_there (codes "features") options then None else Some (features_of options)) (none_unrun options h)
    ∙ ap Some (no_paths options h)
