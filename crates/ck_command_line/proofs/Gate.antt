-- Each list of the gate's own options and runs is read.
use Rattle.std.proofs.Common.{◌≡◌, ◌∙◌, Bool, true, false, List, [], ◌∷◌, Option, Some, None, refl, ap, inl, inr, fold, option_map}
use Rattle.std.proofs.lemmas.Bool.{false≢true}
use Rattle.std.specs.Prelude.{codes, if◌then◌else◌}
use Rattle.std.specs.List.{AllByRecursion, list_all}
use Rattle.clap.specs.Words.{Row, Text, all_of, first_of}
use Rattle.clap.specs.Kinds.{or_else}
use Rattle.clap.specs.Walk.{Held, bundle_met, is_pending, nothing_held, reading_by, rows_after, walk_from, walked, with_default}
use Rattle.clap.specs.Simple.{Shape}
use Rattle.clap.specs.Faults.{flags_fault, walk_fault}
use Rattle.cm_attempt.specs.declared.status.Policy.TheVariants.{Strict, PendingPasses}
use Rattle.cm_attempt.specs.declared.status.Settings.{Settings}
use Rattle.cm_stream.specs.Release.{Conditions}
use Rattle.ck_command_line.specs.CommandLine.{Request, command_named, conditions_by, features_named, first_attempt_named, gate_asked, gate_command, is_given, is_tag, runs_named, tags_allowed}
use Rattle.ck_command_line.specs.Asked.{WrittenWord, features, allow_unrun, allow_unrun_tagged, no_retries, no_skips, no_stepless, no_undefined, strict, as_json, pending_passes, attempts_from, allow_redeclared, run}
use Rattle.ck_command_line.specs.Asked.{IsPlain, all_words, are_distinct, asked_of_run, asked_with, conditions_written, gate_usage, has_both_unrun, is_there, names_taken, number_of, tags_of}
use Rattle.ck_command_line.proofs.Between.{never}
use Rattle.ck_command_line.proofs.Leaves.{faults, leaf}
use Rattle.ck_command_line.proofs.Plain.{plain}
use Rattle.ck_command_line.proofs.Rows.{IsFit, IsOff, Keeps, add_told, defaults_fit, defaults_keep, defaults_off, first_is, first_text, is_on, set_told}
use Rattle.ck_command_line.proofs.Said.{IsFlag, features_taken, flag_said, number_said, runs_taken, said_all, tags_taken}
use Rattle.ck_command_line.proofs.Using.{AreUsed, IsNew, ReadsEach, Told, Used, again, conflict, is_new, is_own, no_faults_found, once, rows_now, rule_for, settled_alone, settling, use_all, waiting}

abbrev gate : Shape
gate = leaf gate_command

-- ---- one option

use_one : (option : WrittenWord) → is_own (names_taken gate_usage) option ≡ true → IsPlain option → (h : Held) → settling gate h ≡ [] → IsNew option (rows_now gate h) → Used gate option h
unfolding bundle_met walked flags_fault walk_fault
use_one (features true p) own k h n new = ((refl, refl, refl, refl), refl, waiting (or_else (settling gate h) []) (rw n refl), refl)
use_one (features false p) own k h n new = let v = plain p k in rw (v.0, v.1, v.2) (((refl, refl, refl, refl), refl, waiting (settling gate h) n, refl))
use_one allow_unrun own k h n new = ((refl, refl, refl, refl), refl, once (settling gate h) (again gate (codes "allow-unrun") (rows_now gate h)) n (is_new gate (codes "allow-unrun") (rows_now gate h) (new refl)), refl)
use_one (allow_unrun_tagged true t) own k h n new = ((refl, refl, refl, refl), refl, waiting (or_else (settling gate h) []) (rw n refl), refl)
use_one (allow_unrun_tagged false t) own k h n new = let v = plain t k in rw (v.0, v.1, v.2) (((refl, refl, refl, refl), refl, waiting (settling gate h) n, refl))
use_one no_retries own k h n new = ((refl, refl, refl, refl), refl, once (settling gate h) (again gate (codes "no-retries") (rows_now gate h)) n (is_new gate (codes "no-retries") (rows_now gate h) (new refl)), refl)
use_one no_skips own k h n new = ((refl, refl, refl, refl), refl, once (settling gate h) (again gate (codes "no-skips") (rows_now gate h)) n (is_new gate (codes "no-skips") (rows_now gate h) (new refl)), refl)
use_one no_stepless own k h n new = ((refl, refl, refl, refl), refl, once (settling gate h) (again gate (codes "no-stepless") (rows_now gate h)) n (is_new gate (codes "no-stepless") (rows_now gate h) (new refl)), refl)
use_one no_undefined own k h n new = ((refl, refl, refl, refl), refl, once (settling gate h) (again gate (codes "no-undefined") (rows_now gate h)) n (is_new gate (codes "no-undefined") (rows_now gate h) (new refl)), refl)
use_one strict own k h n new = ((refl, refl, refl, refl), refl, once (settling gate h) (again gate (codes "strict") (rows_now gate h)) n (is_new gate (codes "strict") (rows_now gate h) (new refl)), refl)
use_one as_json own k h n new = absurd (false≢true own)
use_one pending_passes own k h n new = ((refl, refl, refl, refl), refl, once (settling gate h) (again gate (codes "pending-passes") (rows_now gate h)) n (is_new gate (codes "pending-passes") (rows_now gate h) (new refl)), refl)
use_one (attempts_from true m) own k h n new = ((refl, refl, refl, refl), refl, once (settling gate h) (again gate (codes "attempts-from") (rows_now gate h)) n (is_new gate (codes "attempts-from") (rows_now gate h) (new refl)), refl)
use_one (attempts_from false m) own k h n new = let v = plain m k in rw (v.0, v.1, v.2) (((refl, refl, refl, refl), refl, waiting (settling gate h) n, conflict (again gate (codes "attempts-from") (rows_now gate h)) (is_new gate (codes "attempts-from") (rows_now gate h) (new refl))))
use_one allow_redeclared own k h n new = ((refl, refl, refl, refl), refl, once (settling gate h) (again gate (codes "allow-redeclared") (rows_now gate h)) n (is_new gate (codes "allow-redeclared") (rows_now gate h) (new refl)), refl)
use_one (run w) own k h n new = let v = plain w k in rw (v.0, v.1, v.2, never (is_pending (rule_for gate (run w)) h.pending)) ((refl, refl, refl, refl), refl, settled_alone (settling gate h) n, refl)

told : (option : WrittenWord) → is_own (names_taken gate_usage) option ≡ true → Told gate option
told (features w p) own name rows new = add_told (codes "features") name (reading_by (rule_for gate (features w p))) (p ∷ []) rows
told allow_unrun own name rows new = set_told (codes "allow-unrun") name (reading_by (rule_for gate allow_unrun)) (codes "true" ∷ []) rows (new refl)
told (allow_unrun_tagged w t) own name rows new = add_told (codes "allow-unrun-tagged") name (reading_by (rule_for gate (allow_unrun_tagged w t))) (t ∷ []) rows
told no_retries own name rows new = set_told (codes "no-retries") name (reading_by (rule_for gate no_retries)) (codes "true" ∷ []) rows (new refl)
told no_skips own name rows new = set_told (codes "no-skips") name (reading_by (rule_for gate no_skips)) (codes "true" ∷ []) rows (new refl)
told no_stepless own name rows new = set_told (codes "no-stepless") name (reading_by (rule_for gate no_stepless)) (codes "true" ∷ []) rows (new refl)
told no_undefined own name rows new = set_told (codes "no-undefined") name (reading_by (rule_for gate no_undefined)) (codes "true" ∷ []) rows (new refl)
told strict own name rows new = set_told (codes "strict") name (reading_by (rule_for gate strict)) (codes "true" ∷ []) rows (new refl)
told as_json own name rows new = absurd (false≢true own)
told pending_passes own name rows new = set_told (codes "pending-passes") name (reading_by (rule_for gate pending_passes)) (codes "true" ∷ []) rows (new refl)
told (attempts_from w n) own name rows new = set_told (codes "attempts-from") name (reading_by (rule_for gate (attempts_from w n))) (n ∷ []) rows (new refl)
told allow_redeclared own name rows new = set_told (codes "allow-redeclared") name (reading_by (rule_for gate allow_redeclared)) (codes "true" ∷ []) rows (new refl)
told (run w) own name rows new = add_told (codes "run") name (reading_by (rule_for gate (run w))) (w ∷ []) rows

gate_reads : ReadsEach gate (names_taken gate_usage)
gate_reads = record { uses = use_one; told = told }

-- ---- any list of options

-- the settings by a flag and a number, as the rows have them
abbrev pub settings_by : (pending again : Bool) → Option Text → Option Settings
settings_by pending again number = option_map (λ n. record { policy = if pending then PendingPasses else Strict; first_attempt = n; allows_redeclared = again }) (first_attempt_named number)

abbrev gate_by : Option Settings → (unrun four retries skips stepless undefined : Bool) → (tags runs paths : Option (List Text)) → Option Request
gate_by settings unrun four retries skips stepless undefined tags runs paths =
    gate_asked settings (option_map (conditions_by unrun four retries skips stepless undefined) (tags_allowed unrun tags)) (runs_named runs) (features_named unrun paths)

pub same_settings : {p q a b : Bool} {n m : Option Text} → p ≡ q → a ≡ b → n ≡ m → settings_by p a n ≡ settings_by q b m
same_settings e f g = rw (e, f, g) refl

same_asked : {x y : Option Settings} {u v s t r r' k k' l l' d d' : Bool} {tags more runs others paths given : Option (List Text)} → x ≡ y → u ≡ v → s ≡ t → r ≡ r' → k ≡ k' → l ≡ l' → d ≡ d' → tags ≡ more → runs ≡ others → paths ≡ given
    → gate_by x u s r k l d tags runs paths ≡ gate_by y v t r' k' l' d' more others given
same_asked a c e f g i j k m o = rw (a, c, e, f, g, i, j, k, m, o) refl

-- what the flags that are there ask, with these tags
abbrev by_flags : List WrittenWord → List Text → Conditions
by_flags options =
    conditions_by (is_there (codes "allow-unrun") options) (is_there (codes "strict") options) (is_there (codes "no-retries") options) (is_there (codes "no-skips") options)
    (is_there (codes "no-stepless") options) (is_there (codes "no-undefined") options)

conditions_read : (options : List WrittenWord)
    → option_map (by_flags options)
    (tags_allowed (is_there (codes "allow-unrun") options) (said_all (codes "allow-unrun-tagged") options None))
    ≡ conditions_written options
conditions_read options =
    ap (option_map (by_flags options))
    (tags_taken (is_there (codes "allow-unrun") options) options)
    ∙ go (has_both_unrun options) (list_all is_tag (tags_of options))
  where
    go : (both all : Bool)
        → option_map (by_flags options)
        (if both then None else if all then Some (tags_of options) else None)
        ≡ (if both then None else if all then Some (asked_of_run options) else None)
    go true all = refl
    go false true = refl
    go false false = refl

module _ (options : List WrittenWord) (d : are_distinct (names_taken gate_usage) options ≡ true) (k : AllByRecursion IsPlain options) where
  all_used : AreUsed gate options nothing_held
  all_used = use_all gate (names_taken gate_usage) gate_reads options d k refl refl

  -- where the walk ends
  abbrev end : Held
  end = (fold (walked gate.rules []) (walk_from nothing_held) (all_words options)).held

  abbrev rows_at_end : List Row
  rows_at_end = fold with_default (rows_now gate end) gate.rules

  all_fit : AllByRecursion IsFit gate.rules
  all_fit = (refl, (refl, (refl, (refl, (refl, (refl, (refl, (refl, (refl, (refl, (refl, (refl, (refl, tt)))))))))))))

  no_faults : faults gate (all_words options) ≡ []
  no_faults = no_faults_found _ _ _ _ all_used.no_fault all_used.settles (defaults_fit gate.rules (rows_now gate end) all_fit) refl

  all_off : AllByRecursion IsOff gate.rules
  all_off = (inl refl, (inl refl, (inr refl, (inl refl, (inr refl, (inr refl, (inr refl, (inr refl, (inr refl, (inr refl, (inl refl, (inr refl, (inl refl, tt)))))))))))))

  flag_read : (name : Text) → IsFlag name → is_given (first_of name rows_at_end) ≡ is_there name options
  flag_read name flag =
      ap is_given (first_is name rows_at_end) ∙ defaults_off name gate.rules (rows_now gate end) all_off ∙ ap is_on (all_used.rows name) ∙ flag_said name flag options

  keeps_number : AllByRecursion (Keeps (codes "attempts-from")) gate.rules
  keeps_number = (inl refl, (inl refl, (inl refl, (inl refl, (inl refl, (inl refl, (inl refl, (inl refl, (inl refl, (inl refl, (inr refl, (inl refl, (inl refl, tt)))))))))))))

  number_read : first_of (codes "attempts-from") rows_at_end ≡ number_of options
  number_read =
      first_is (codes "attempts-from") rows_at_end ∙ ap first_text (defaults_keep (codes "attempts-from") gate.rules (rows_now gate end) keeps_number ∙ all_used.rows (codes "attempts-from"))
      ∙ number_said options

  keeps_tags : AllByRecursion (Keeps (codes "allow-unrun-tagged")) gate.rules
  keeps_tags = (inl refl, (inl refl, (inl refl, (inr refl, (inl refl, (inl refl, (inl refl, (inl refl, (inl refl, (inl refl, (inl refl, (inl refl, (inl refl, tt)))))))))))))

  tags_read : all_of (codes "allow-unrun-tagged") rows_at_end ≡ said_all (codes "allow-unrun-tagged") options None
  tags_read = defaults_keep (codes "allow-unrun-tagged") gate.rules (rows_now gate end) keeps_tags ∙ all_used.rows (codes "allow-unrun-tagged")

  keeps_runs : AllByRecursion (Keeps (codes "run")) gate.rules
  keeps_runs = (inr refl, (inl refl, (inl refl, (inl refl, (inl refl, (inl refl, (inl refl, (inl refl, (inl refl, (inl refl, (inl refl, (inl refl, (inl refl, tt)))))))))))))

  runs_read : all_of (codes "run") rows_at_end ≡ said_all (codes "run") options None
  runs_read = defaults_keep (codes "run") gate.rules (rows_now gate end) keeps_runs ∙ all_used.rows (codes "run")

  keeps_paths : AllByRecursion (Keeps (codes "features")) gate.rules
  keeps_paths = (inl refl, (inr refl, (inl refl, (inl refl, (inl refl, (inl refl, (inl refl, (inl refl, (inl refl, (inl refl, (inl refl, (inl refl, (inl refl, tt)))))))))))))

  paths_read : all_of (codes "features") rows_at_end ≡ said_all (codes "features") options None
  paths_read = defaults_keep (codes "features") gate.rules (rows_now gate end) keeps_paths ∙ all_used.rows (codes "features")

  command_read : command_named gate.name rows_at_end ≡ asked_with gate_usage options
  command_read =
      same_asked (same_settings (flag_read (codes "pending-passes") (refl, refl, refl, refl)) (flag_read (codes "allow-redeclared") (refl, refl, refl, refl)) number_read) (flag_read (codes "allow-unrun") (refl, refl, refl, refl)) (flag_read (codes "strict") (refl, refl, refl, refl)) (flag_read (codes "no-retries") (refl, refl, refl, refl))
      (flag_read (codes "no-skips") (refl, refl, refl, refl)) (flag_read (codes "no-stepless") (refl, refl, refl, refl)) (flag_read (codes "no-undefined") (refl, refl, refl, refl)) tags_read runs_read paths_read
      ∙ (λ j. gate_asked (settings_by (is_there (codes "pending-passes") options) (is_there (codes "allow-redeclared") options) (number_of options)) (conditions_read options j) (runs_taken options j) (features_taken (is_there (codes "allow-unrun") options) options j))

  pub gate_takes : (faults gate (all_words options) ≡ []) × (command_named gate.name (rows_after gate.rules [] (all_words options)) ≡ asked_with gate_usage options)
  gate_takes = (no_faults, command_read)
