-- Each list of the options of `audit` is read, by each command that has them.
use Rattle.std.proofs.Common.{◌≡◌, ◌∙◌, true, false, List, [], ◌∷◌, Option, refl, ap, inl, inr, sym, fold, option_map}
use Rattle.std.proofs.lemmas.Bool.{false≢true, or_right}
use Rattle.std.specs.Prelude.{codes, option_and_then}
use Rattle.std.specs.List.{AllByRecursion}
use Rattle.clap.specs.Words.{Row, Text, first_of}
use Rattle.clap.specs.Walk.{Held, bundle_met, nothing_held, reading_by, rows_after, walk_from, walked, with_default}
use Rattle.clap.specs.Simple.{Shape}
use Rattle.clap.specs.Faults.{flags_fault, walk_fault}
use Rattle.cm_attempt.specs.declared.status.Settings.{Settings}
use Rattle.ck_command_line.specs.CommandLine.{Request, Command, ask_audit, command_like_audit, command_named, is_given, over_input, settings_in}
use Rattle.ck_command_line.specs.Asked.{WrittenWord, features, allow_unrun, allow_unrun_tagged, no_retries, no_skips, no_stepless, no_undefined, strict, as_json, pending_passes, attempts_from, allow_redeclared, run}
use Rattle.ck_command_line.specs.Asked.{IsPlain, all_words, are_distinct, asked_with, has_name, is_there, number_of, settings_written, usage_like_audit}
use Rattle.ck_command_line.proofs.Gate.{same_settings}
use Rattle.ck_command_line.proofs.Leaves.{faults, leaf}
use Rattle.ck_command_line.proofs.Plain.{plain}
use Rattle.ck_command_line.proofs.Rows.{IsFit, IsOff, Keeps, defaults_fit, defaults_keep, defaults_off, first_is, first_text, is_on, set_told}
use Rattle.ck_command_line.proofs.Said.{IsFlag, flag_said, number_said}
use Rattle.ck_command_line.proofs.Unconditional.{AreFree, featureless, runless, unconditional}
use Rattle.ck_command_line.proofs.Using.{AreUsed, IsNew, ReadsEach, Told, Used, again, all_own, conflict, is_new, is_own, no_faults_found, once, rows_now, rule_for, settling, use_all, waiting}

abbrev own_names : List Text
own_names = (usage_like_audit (codes "audit") ask_audit).options

-- ---- no conditions are written

wider : (options : List WrittenWord) → AllByRecursion (λ option. is_own own_names option ≡ true) options → AreFree options
wider [] h = tt
wider (option ∷ options) h = (or_right (has_name (codes "json") option) (is_own own_names option) h.0, wider options h.1)

asked : (name : Text) (asks : Settings → Command) (options : List WrittenWord) → are_distinct own_names options ≡ true → asked_with (usage_like_audit name asks) options ≡ option_map (λ s. over_input (asks s)) (settings_written options)
asked name asks options d =
    let free = wider options (all_own own_names options d) in
    λ j. option_and_then (λ c. option_and_then (λ r. option_and_then (λ p. option_map (λ s. over_input (asks s)) (settings_written options)) (featureless options free j)) (runless options free j)) (unconditional options free j)

-- ---- one option

module _ (name : Text) where
  abbrev audit : Shape
  audit = leaf (command_like_audit name)

  use_one : (option : WrittenWord) → is_own own_names option ≡ true → IsPlain option → (h : Held) → settling audit h ≡ [] → IsNew option (rows_now audit h) → Used audit option h
  unfolding bundle_met walked flags_fault walk_fault
  use_one (features w p) own k h n new = absurd (false≢true own)
  use_one allow_unrun own k h n new = absurd (false≢true own)
  use_one (allow_unrun_tagged w t) own k h n new = absurd (false≢true own)
  use_one no_retries own k h n new = absurd (false≢true own)
  use_one no_skips own k h n new = absurd (false≢true own)
  use_one no_stepless own k h n new = absurd (false≢true own)
  use_one no_undefined own k h n new = absurd (false≢true own)
  use_one strict own k h n new = absurd (false≢true own)
  use_one as_json own k h n new = absurd (false≢true own)
  use_one pending_passes own k h n new = ((refl, refl, refl, refl), refl, once (settling audit h) (again audit (codes "pending-passes") (rows_now audit h)) n (is_new audit (codes "pending-passes") (rows_now audit h) (new refl)), refl)
  use_one (attempts_from true m) own k h n new = ((refl, refl, refl, refl), refl, once (settling audit h) (again audit (codes "attempts-from") (rows_now audit h)) n (is_new audit (codes "attempts-from") (rows_now audit h) (new refl)), refl)
  use_one (attempts_from false m) own k h n new = let v = plain m k in rw (v.0, v.1, v.2) (((refl, refl, refl, refl), refl, waiting (settling audit h) n, conflict (again audit (codes "attempts-from") (rows_now audit h)) (is_new audit (codes "attempts-from") (rows_now audit h) (new refl))))
  use_one allow_redeclared own k h n new = ((refl, refl, refl, refl), refl, once (settling audit h) (again audit (codes "allow-redeclared") (rows_now audit h)) n (is_new audit (codes "allow-redeclared") (rows_now audit h) (new refl)), refl)
  use_one (run w) own k h n new = absurd (false≢true own)

  told : (option : WrittenWord) → is_own own_names option ≡ true → Told audit option
  told (features w p) own row rows new = absurd (false≢true own)
  told allow_unrun own row rows new = absurd (false≢true own)
  told (allow_unrun_tagged w t) own row rows new = absurd (false≢true own)
  told no_retries own row rows new = absurd (false≢true own)
  told no_skips own row rows new = absurd (false≢true own)
  told no_stepless own row rows new = absurd (false≢true own)
  told no_undefined own row rows new = absurd (false≢true own)
  told strict own row rows new = absurd (false≢true own)
  told as_json own row rows new = absurd (false≢true own)
  told pending_passes own row rows new = set_told (codes "pending-passes") row (reading_by (rule_for audit pending_passes)) (codes "true" ∷ []) rows (new refl)
  told (attempts_from w n) own row rows new = set_told (codes "attempts-from") row (reading_by (rule_for audit (attempts_from w n))) (n ∷ []) rows (new refl)
  told allow_redeclared own row rows new = set_told (codes "allow-redeclared") row (reading_by (rule_for audit allow_redeclared)) (codes "true" ∷ []) rows (new refl)
  told (run w) own row rows new = absurd (false≢true own)

  audit_reads : ReadsEach audit own_names
  audit_reads = record { uses = use_one; told = told }

  -- ---- any list of options

  module _ (options : List WrittenWord) (d : are_distinct own_names options ≡ true) (k : AllByRecursion IsPlain options) where
    all_used : AreUsed audit options nothing_held
    all_used = use_all audit own_names audit_reads options d k refl refl

    -- where the walk ends
    abbrev end : Held
    end = (fold (walked audit.rules []) (walk_from nothing_held) (all_words options)).held

    abbrev rows_at_end : List Row
    rows_at_end = fold with_default (rows_now audit end) audit.rules

    all_fit : AllByRecursion IsFit audit.rules
    all_fit = (refl, (refl, (refl, (refl, tt))))

    pub no_faults : faults audit (all_words options) ≡ []
    no_faults = no_faults_found _ _ _ _ all_used.no_fault all_used.settles (defaults_fit audit.rules (rows_now audit end) all_fit) refl

    all_off : AllByRecursion IsOff audit.rules
    all_off = (inr refl, (inl refl, (inr refl, (inl refl, tt))))

    flag_read : (flag : Text) → IsFlag flag → is_given (first_of flag rows_at_end) ≡ is_there flag options
    flag_read flag is =
        ap is_given (first_is flag rows_at_end) ∙ defaults_off flag audit.rules (rows_now audit end) all_off ∙ ap is_on (all_used.rows flag) ∙ flag_said flag is options

    keeps_number : AllByRecursion (Keeps (codes "attempts-from")) audit.rules
    keeps_number = (inl refl, (inr refl, (inl refl, (inl refl, tt))))

    number_read : first_of (codes "attempts-from") rows_at_end ≡ number_of options
    number_read =
        first_is (codes "attempts-from") rows_at_end ∙ ap first_text (defaults_keep (codes "attempts-from") audit.rules (rows_now audit end) keeps_number ∙ all_used.rows (codes "attempts-from"))
        ∙ number_said options

    pub settings_read : settings_in (rows_after audit.rules [] (all_words options)) ≡ settings_written options
    settings_read = same_settings (flag_read (codes "pending-passes") (refl, refl, refl, refl)) (flag_read (codes "allow-redeclared") (refl, refl, refl, refl)) number_read

-- ---- the two commands

-- the command finds no fault, and this is what its values ask for
abbrev pub Reads : Shape → List Text → Option Request → Type 0
Reads s words asked = (faults s words ≡ []) × (command_named s.name (rows_after s.rules [] words) ≡ asked)

module _ (options : List WrittenWord) (d : are_distinct own_names options ≡ true) (k : AllByRecursion IsPlain options) where
  pub audit_takes : Reads (leaf (command_like_audit (codes "audit"))) (all_words options) (asked_with (usage_like_audit (codes "audit") ask_audit) options)
  audit_takes = (no_faults (codes "audit") options d k, ap (option_map (λ s. over_input (ask_audit s))) (settings_read (codes "audit") options d k) ∙ sym (asked (codes "audit") ask_audit options d))
