-- Each list of the options of `cases` is read.
use Rattle.std.proofs.Common.{◌≡◌, ◌∙◌, Bool, true, false, List, [], ◌∷◌, refl, ap, inl, inr, sym, fold}
use Rattle.std.proofs.lemmas.Bool.{false≢true}
use Rattle.std.specs.Prelude.{codes, if◌then◌else◌, option_and_then}
use Rattle.std.specs.List.{AllByRecursion}
use Rattle.clap.specs.Words.{Row, Text, first_of}
use Rattle.clap.specs.Walk.{Held, bundle_met, nothing_held, reading_by, rows_after, walk_from, walked, with_default}
use Rattle.clap.specs.Simple.{Shape}
use Rattle.clap.specs.Faults.{flags_fault, walk_fault}
use Rattle.ck_command_line.specs.CommandLine.{cases_asked, cases_command, form_in, is_given, settings_in}
use Rattle.ck_command_line.specs.Asked.{WrittenWord, features, allow_unrun, allow_unrun_tagged, no_retries, no_skips, no_stepless, no_undefined, strict, as_json, pending_passes, attempts_from, allow_redeclared, run}
use Rattle.ck_command_line.specs.Asked.{IsPlain, all_words, are_distinct, cases_usage, asked_with, form_of, is_there, number_of, settings_written}
use Rattle.ck_command_line.specs.declared.command_line.CaseForm.TheVariants.{Plain, Json}
use Rattle.ck_command_line.proofs.AuditOptions.{Reads}
use Rattle.ck_command_line.proofs.Gate.{same_settings}
use Rattle.ck_command_line.proofs.Leaves.{faults, leaf}
use Rattle.ck_command_line.proofs.Plain.{plain}
use Rattle.ck_command_line.proofs.Rows.{IsFit, IsOff, Keeps, defaults_fit, defaults_keep, defaults_off, first_is, first_text, is_on, set_told}
use Rattle.ck_command_line.proofs.Said.{IsFlag, flag_said, number_said}
use Rattle.ck_command_line.proofs.Unconditional.{featureless, runless, unconditional}
use Rattle.ck_command_line.proofs.Using.{AreUsed, IsNew, ReadsEach, Told, Used, again, all_own, conflict, is_new, is_own, no_faults_found, once, rows_now, rule_for, settling, use_all, waiting}

abbrev listed : Shape
listed = leaf cases_command

asked : (options : List WrittenWord) → are_distinct cases_usage.options options ≡ true → asked_with cases_usage options ≡ cases_asked (settings_written options) (form_of options)
asked options d =
    let free = all_own cases_usage.options options d in
    λ j. option_and_then (λ c. option_and_then (λ r. option_and_then (λ p. cases_asked (settings_written options) (form_of options)) (featureless options free j)) (runless options free j)) (unconditional options free j)

-- ---- one option

use_one : (option : WrittenWord) → is_own cases_usage.options option ≡ true → IsPlain option → (h : Held) → settling listed h ≡ [] → IsNew option (rows_now listed h) → Used listed option h
unfolding bundle_met walked flags_fault walk_fault
use_one (features w p) own k h n new = absurd (false≢true own)
use_one allow_unrun own k h n new = absurd (false≢true own)
use_one (allow_unrun_tagged w t) own k h n new = absurd (false≢true own)
use_one no_retries own k h n new = absurd (false≢true own)
use_one no_skips own k h n new = absurd (false≢true own)
use_one no_stepless own k h n new = absurd (false≢true own)
use_one no_undefined own k h n new = absurd (false≢true own)
use_one strict own k h n new = absurd (false≢true own)
use_one as_json own k h n new = ((refl, refl, refl, refl), refl, once (settling listed h) (again listed (codes "json") (rows_now listed h)) n (is_new listed (codes "json") (rows_now listed h) (new refl)), refl)
use_one pending_passes own k h n new = ((refl, refl, refl, refl), refl, once (settling listed h) (again listed (codes "pending-passes") (rows_now listed h)) n (is_new listed (codes "pending-passes") (rows_now listed h) (new refl)), refl)
use_one (attempts_from true m) own k h n new = ((refl, refl, refl, refl), refl, once (settling listed h) (again listed (codes "attempts-from") (rows_now listed h)) n (is_new listed (codes "attempts-from") (rows_now listed h) (new refl)), refl)
use_one (attempts_from false m) own k h n new = let v = plain m k in rw (v.0, v.1, v.2) (((refl, refl, refl, refl), refl, waiting (settling listed h) n, conflict (again listed (codes "attempts-from") (rows_now listed h)) (is_new listed (codes "attempts-from") (rows_now listed h) (new refl))))
use_one allow_redeclared own k h n new = ((refl, refl, refl, refl), refl, once (settling listed h) (again listed (codes "allow-redeclared") (rows_now listed h)) n (is_new listed (codes "allow-redeclared") (rows_now listed h) (new refl)), refl)
use_one (run w) own k h n new = absurd (false≢true own)

told : (option : WrittenWord) → is_own cases_usage.options option ≡ true → Told listed option
told (features w p) own row rows new = absurd (false≢true own)
told allow_unrun own row rows new = absurd (false≢true own)
told (allow_unrun_tagged w t) own row rows new = absurd (false≢true own)
told no_retries own row rows new = absurd (false≢true own)
told no_skips own row rows new = absurd (false≢true own)
told no_stepless own row rows new = absurd (false≢true own)
told no_undefined own row rows new = absurd (false≢true own)
told strict own row rows new = absurd (false≢true own)
told as_json own row rows new = set_told (codes "json") row (reading_by (rule_for listed as_json)) (codes "true" ∷ []) rows (new refl)
told pending_passes own row rows new = set_told (codes "pending-passes") row (reading_by (rule_for listed pending_passes)) (codes "true" ∷ []) rows (new refl)
told (attempts_from w n) own row rows new = set_told (codes "attempts-from") row (reading_by (rule_for listed (attempts_from w n))) (n ∷ []) rows (new refl)
told allow_redeclared own row rows new = set_told (codes "allow-redeclared") row (reading_by (rule_for listed allow_redeclared)) (codes "true" ∷ []) rows (new refl)
told (run w) own row rows new = absurd (false≢true own)

cases_read : ReadsEach listed cases_usage.options
cases_read = record { uses = use_one; told = told }

-- ---- any list of options

module _ (options : List WrittenWord) (d : are_distinct cases_usage.options options ≡ true) (k : AllByRecursion IsPlain options) where
  all_used : AreUsed listed options nothing_held
  all_used = use_all listed cases_usage.options cases_read options d k refl refl

  -- where the walk ends
  abbrev end : Held
  end = (fold (walked listed.rules []) (walk_from nothing_held) (all_words options)).held

  abbrev rows_at_end : List Row
  rows_at_end = fold with_default (rows_now listed end) listed.rules

  all_fit : AllByRecursion IsFit listed.rules
  all_fit = (refl, (refl, (refl, (refl, (refl, tt)))))

  no_faults : faults listed (all_words options) ≡ []
  no_faults = no_faults_found _ _ _ _ all_used.no_fault all_used.settles (defaults_fit listed.rules (rows_now listed end) all_fit) refl

  all_off : AllByRecursion IsOff listed.rules
  all_off = (inr refl, (inr refl, (inl refl, (inr refl, (inl refl, tt)))))

  flag_read : (flag : Text) → IsFlag flag → is_given (first_of flag rows_at_end) ≡ is_there flag options
  flag_read flag is =
      ap is_given (first_is flag rows_at_end) ∙ defaults_off flag listed.rules (rows_now listed end) all_off ∙ ap is_on (all_used.rows flag) ∙ flag_said flag is options

  keeps_number : AllByRecursion (Keeps (codes "attempts-from")) listed.rules
  keeps_number = (inl refl, (inl refl, (inr refl, (inl refl, (inl refl, tt)))))

  number_read : first_of (codes "attempts-from") rows_at_end ≡ number_of options
  number_read =
      first_is (codes "attempts-from") rows_at_end ∙ ap first_text (defaults_keep (codes "attempts-from") listed.rules (rows_now listed end) keeps_number ∙ all_used.rows (codes "attempts-from"))
      ∙ number_said options

  settings_read : settings_in (rows_after listed.rules [] (all_words options)) ≡ settings_written options
  settings_read = same_settings (flag_read (codes "pending-passes") (refl, refl, refl, refl)) (flag_read (codes "allow-redeclared") (refl, refl, refl, refl)) number_read

  form_read : form_in (rows_after listed.rules [] (all_words options)) ≡ form_of options
  form_read = ap (λ (b : Bool). if b then Json else Plain) (flag_read (codes "json") (refl, refl, refl, refl))

  pub cases_takes : Reads listed (all_words options) (asked_with cases_usage options)
  cases_takes = (no_faults, (λ j. cases_asked (settings_read j) (form_read j)) ∙ sym (asked options d))
