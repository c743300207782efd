-- What words ask for.
use Rattle.std.proofs.Common.{◌≡◌, List, [], ◌∷◌, ◌++◌, Option, Some, None, refl, ap, ◌∙◌, true, false, Bool, map}
use Rattle.std.proofs.lemmas.Bool.{false_from_ne_true}
use Rattle.std.proofs.lemmas.Slice.Eq.{bytes_eq-Decides}
use Rattle.std.specs.Prelude.{◌≢◌, codes}
use Rattle.std.specs.List.{AllByRecursion}
use Rattle.std.specs.Str.{bytes_eq}
use Rattle.clap.proofs.OnLiterals.{clap_on_literals}
use Rattle.clap.specs.Words.{App, Text}
use Rattle.clap.specs.Walk.{arg_by_long, bundle_met, walked}
use Rattle.clap.specs.Faults.{flags_fault, walk_fault, defaults_fault}
use Rattle.ck_command_line.specs.CommandLine.{Request, ask_parse, ask_compile, asked_of, is_help_call, over_features, over_input, over_runs}
use Rattle.ck_command_line.specs.CommandLine.{gate_command, audit_command, cases_command, results_command, parse_command, compile_command}
use Rattle.ck_command_line.specs.Asked.{Ask, CallForHelp, TakesItsOptions, RefusesFiles, RefusesOtherOptions, FeaturesAreAsked, NothingIsAsked, ExamplesAreAsked}
use Rattle.ck_command_line.specs.Asked.{all_words, usages, named_options, named_options_over_input, examples, features_examples, runs_examples, mistakes, help_calls, is_option, words_of_line}
use Rattle.ck_command_line.proofs.Leaves.{LineAnswers, leaf, gate_words, audit_words, cases_words, results_words, parse_words, compile_words}
use Rattle.ck_command_line.proofs.Gate.{gate_takes}
use Rattle.ck_command_line.proofs.AuditOptions.{audit_takes}
use Rattle.ck_command_line.proofs.CasesOptions.{cases_takes}
use Rattle.ck_command_line.proofs.Options.{answers, results_takes}
use Rattle.ck_command_line.proofs.Plain.{plain}
use Rattle.ck_command_line.proofs.Refused.{file_is_refused, option_is_refused, gate_leaf, leaf_like_audit, cases_leaf, results_leaf, parse_leaf, compile_leaf}

ask : (texts : List Text) (asked : Option Request) → LineAnswers texts asked → Ask texts asked
ask texts asked told words is = (
  ap (λ (ts : List Text). asked_of (codes "cukecheck" ∷ ts)) is ∙ told.0,
  ap (λ (ts : List Text). is_help_call (codes "cukecheck" ∷ ts)) is ∙ told.1,
)

call_for_help : (texts : List Text) → (asked_of (codes "cukecheck" ∷ texts) ≡ None) × (is_help_call (codes "cukecheck" ∷ texts) ≡ true) → CallForHelp texts
call_for_help texts told words is = (
  ap (λ (ts : List Text). asked_of (codes "cukecheck" ∷ ts)) is ∙ told.0,
  ap (λ (ts : List Text). is_help_call (codes "cukecheck" ∷ ts)) is ∙ told.1,
)

-- ---- the commands that read a stream

pub options_are_taken : AllByRecursion TakesItsOptions usages
options_are_taken = (
  λ options h k. ask (codes "gate" ∷ all_words options) _ (gate_words (all_words options) _ (answers _ _ _ (gate_takes options h k))),
  (
    λ options h k. ask (codes "audit" ∷ all_words options) _ (audit_words (all_words options) _ (answers _ _ _ (audit_takes options h k))),
    (
      λ options h k. ask (codes "cases" ∷ all_words options) _ (cases_words (all_words options) _ (answers _ _ _ (cases_takes options h k))),
      (
        λ options h k. ask (codes "results" ∷ all_words options) _ (results_words (all_words options) _ (answers _ _ _ (results_takes options h k))),
        tt,
      ),
    ),
  ),
)

-- ---- words that a command refuses

pub files_are_refused : AllByRecursion RefusesFiles named_options_over_input
files_are_refused = (λ word plain_word options k others. ask (codes "parse" ∷ all_words options ++ word ∷ others) None (parse_words (all_words options ++ word ∷ others) None (file_is_refused (leaf parse_command) parse_leaf refl options k word plain_word others)), (λ word plain_word options k others. ask (codes "compile" ∷ all_words options ++ word ∷ others) None (compile_words (all_words options ++ word ∷ others) None (file_is_refused (leaf compile_command) compile_leaf refl options k word plain_word others)), (λ word plain_word options k others. ask (codes "audit" ∷ all_words options ++ word ∷ others) None (audit_words (all_words options ++ word ∷ others) None (file_is_refused (leaf audit_command) (leaf_like_audit (codes "audit")) refl options k word plain_word others)), (λ word plain_word options k others. ask (codes "cases" ∷ all_words options ++ word ∷ others) None (cases_words (all_words options ++ word ∷ others) None (file_is_refused (leaf cases_command) cases_leaf refl options k word plain_word others)), (λ word plain_word options k others. ask (codes "results" ∷ all_words options ++ word ∷ others) None (results_words (all_words options ++ word ∷ others) None (file_is_refused (leaf results_command) results_leaf refl options k word plain_word others)), tt)))))

differ : (xs ys : Text) → xs ≢ ys → bytes_eq xs ys ≡ false
differ xs ys h = false_from_ne_true (bytes_eq xs ys) (λ same. h ((bytes_eq-Decides xs ys).0 same))

-- the command has no option of the name
abbrev HasNone : App → Text → Type 0
HasNone command name = arg_by_long (leaf command).rules name ≡ None

module _ (name : Text) (help : codes "help" ≢ name) where
  not_parse : HasNone parse_command name
  not_parse = rw (differ (codes "help") name help) refl

  not_compile : codes "uri" ≢ name → HasNone compile_command name
  not_compile u = rw (differ (codes "uri") name u, differ (codes "help") name help) refl

  not_results : codes "attempts-from" ≢ name → HasNone results_command name
  not_results n = rw (differ (codes "attempts-from") name n, differ (codes "help") name help) refl

  not_audit : codes "pending-passes" ≢ name → codes "attempts-from" ≢ name → codes "allow-redeclared" ≢ name → HasNone audit_command name
  not_audit p n a = rw (differ (codes "pending-passes") name p, differ (codes "attempts-from") name n, differ (codes "allow-redeclared") name a, differ (codes "help") name help) refl

  not_cases : codes "json" ≢ name → codes "pending-passes" ≢ name → codes "attempts-from" ≢ name → codes "allow-redeclared" ≢ name → HasNone cases_command name
  not_cases j p n a =
      rw (differ (codes "json") name j, differ (codes "pending-passes") name p, differ (codes "attempts-from") name n, differ (codes "allow-redeclared") name a, differ (codes "help") name help) refl

  not_gate : codes "features" ≢ name →
      codes "allow-unrun" ≢ name →
      codes "allow-unrun-tagged" ≢ name →
      codes "no-retries" ≢ name →
      codes "no-skips" ≢ name →
      codes "no-stepless" ≢ name →
      codes "no-undefined" ≢ name →
      codes "strict" ≢ name →
      codes "pending-passes" ≢ name →
      codes "attempts-from" ≢ name →
      codes "allow-redeclared" ≢ name → HasNone gate_command name
  not_gate f u t r k l d s p n a =
      rw (differ (codes "features") name f, differ (codes "allow-unrun") name u, differ (codes "allow-unrun-tagged") name t, differ (codes "no-retries") name r, differ (codes "no-skips") name k, differ (codes "no-stepless") name l, differ (codes "no-undefined") name d, differ (codes "strict") name s, differ (codes "pending-passes") name p, differ (codes "attempts-from") name n, differ (codes "allow-redeclared") name a, differ (codes "help") name help) refl

pub other_options_are_refused : AllByRecursion RefusesOtherOptions named_options
other_options_are_refused = (λ word name value long h options k others. ask (codes "gate" ∷ all_words options ++ word ∷ others) None (gate_words (all_words options ++ word ∷ others) None (option_is_refused (leaf gate_command) gate_leaf options k word name value long (not_gate name h.0 h.1.0 h.1.1.0 h.1.1.1.0 h.1.1.1.1.0 h.1.1.1.1.1.0 h.1.1.1.1.1.1.0 h.1.1.1.1.1.1.1.0 h.1.1.1.1.1.1.1.1.0 h.1.1.1.1.1.1.1.1.1.0 h.1.1.1.1.1.1.1.1.1.1.0 h.1.1.1.1.1.1.1.1.1.1.1.0) others)), (λ word name value long h options k others. ask (codes "parse" ∷ all_words options ++ word ∷ others) None (parse_words (all_words options ++ word ∷ others) None (option_is_refused (leaf parse_command) parse_leaf options k word name value long (not_parse name h.0) others)), (λ word name value long h options k others. ask (codes "compile" ∷ all_words options ++ word ∷ others) None (compile_words (all_words options ++ word ∷ others) None (option_is_refused (leaf compile_command) compile_leaf options k word name value long (not_compile name h.0 h.1.0) others)), (λ word name value long h options k others. ask (codes "audit" ∷ all_words options ++ word ∷ others) None (audit_words (all_words options ++ word ∷ others) None (option_is_refused (leaf audit_command) (leaf_like_audit (codes "audit")) options k word name value long (not_audit name h.0 h.1.0 h.1.1.0 h.1.1.1.0) others)), (λ word name value long h options k others. ask (codes "cases" ∷ all_words options ++ word ∷ others) None (cases_words (all_words options ++ word ∷ others) None (option_is_refused (leaf cases_command) cases_leaf options k word name value long (not_cases name h.0 h.1.0 h.1.1.0 h.1.1.1.0 h.1.1.1.1.0) others)), (λ word name value long h options k others. ask (codes "results" ∷ all_words options ++ word ∷ others) None (results_words (all_words options ++ word ∷ others) None (option_is_refused (leaf results_command) results_leaf options k word name value long (not_results name h.0 h.1.0) others)), tt))))))

no_word : LineAnswers [] None
unfolding asked_of is_help_call clap_on_literals
no_word = (refl, refl)

no_uri : LineAnswers (codes "compile" ∷ []) None
unfolding asked_of is_help_call clap_on_literals
no_uri = (refl, refl)

-- a word that is no option and none of the names
stray_word : (word : Text) (others : List Text) → is_option word ≡ false → bytes_eq (codes "help") word ≡ false → bytes_eq (codes "parse") word ≡ false → bytes_eq (codes "compile") word ≡ false
    → bytes_eq (codes "gate") word ≡ false → bytes_eq (codes "audit") word ≡ false → bytes_eq (codes "cases") word ≡ false → bytes_eq (codes "results") word ≡ false
    → LineAnswers (word ∷ others) None
unfolding asked_of is_help_call bundle_met walked flags_fault walk_fault defaults_fault
stray_word word others plain_word h p m g a k r = let v = plain word plain_word in rw (p, m, g, a, k, r, h, v.0, v.1, v.2) (refl, refl)

no_command : (word : Text) (others : List Text) → is_option word ≡ false → codes "help" ≢ word → AllByRecursion (λ command. command.0 ≢ word) named_options → LineAnswers (word ∷ others) None
no_command word others plain_word help h =
    stray_word word others plain_word (differ (codes "help") word help) (differ (codes "parse") word h.1.0) (differ (codes "compile") word h.1.1.0) (differ (codes "gate") word h.0)
    (differ (codes "audit") word h.1.1.1.0) (differ (codes "cases") word h.1.1.1.1.0) (differ (codes "results") word h.1.1.1.1.1.0)

help_word : (others : List Text) → (asked_of (codes "cukecheck" ∷ codes "help" ∷ others) ≡ None) × (is_help_call (codes "cukecheck" ∷ codes "help" ∷ others) ≡ true)
unfolding asked_of is_help_call bundle_met walked flags_fault walk_fault defaults_fault
help_word others = (refl, refl)

pub nothing_is_asked : NothingIsAsked
nothing_is_asked = record {
  no_word = ask [] None no_word;
  no_command = λ word others plain_word help h. ask (word ∷ others) None (no_command word others plain_word help h);
  no_uri = ask (codes "compile" ∷ []) None no_uri;
  help = λ others. call_for_help (codes "help" ∷ others) (help_word others);
}

-- ---- feature files

parse_asked : LineAnswers (codes "parse" ∷ []) (Some (over_input ask_parse))
unfolding asked_of is_help_call clap_on_literals
parse_asked = (refl, refl)

compile_asked_by : (uri : Text) → LineAnswers (codes "compile" ∷ (codes "--uri=" ++ uri) ∷ []) (Some (over_input (ask_compile uri)))
unfolding asked_of is_help_call bundle_met walked flags_fault walk_fault defaults_fault
compile_asked_by uri = (refl, refl)

compile_asked : (uri : Text) → is_option uri ≡ false → LineAnswers (codes "compile" ∷ codes "--uri" ∷ uri ∷ []) (Some (over_input (ask_compile uri)))
unfolding asked_of is_help_call bundle_met walked flags_fault walk_fault defaults_fault
compile_asked uri h = let v = plain uri h in rw (v.0, v.1, v.2) (refl, refl)

pub features_are_asked : FeaturesAreAsked
features_are_asked = record {
  parse = ask (codes "parse" ∷ []) (Some (over_input ask_parse)) parse_asked;
  compile = λ uri h. ask (codes "compile" ∷ codes "--uri" ∷ uri ∷ []) (Some (over_input (ask_compile uri))) (compile_asked uri h);
  compile_by = λ uri. ask (codes "compile" ∷ (codes "--uri=" ++ uri) ∷ []) (Some (over_input (ask_compile uri))) (compile_asked_by uri);
}

-- ---- examples

-- what words ask for, and whether they call for help
told : Text → Option Request × Bool
told text = (asked_of (codes "cukecheck" ∷ words_of_line text), is_help_call (codes "cukecheck" ∷ words_of_line text))

abbrev first_or : {A : Type 0} → A → List A → A
first_or other [] = other
first_or other (x ∷ xs) = x

abbrev but_first : {A : Type 0} → List A → List A
but_first [] = []
but_first (x ∷ xs) = xs

-- of rows with words, each of which is told what the row says
each : {X : Type 0} (text : X → Text) (says : X → Option Request × Bool) (P : X → Type 0) → ((x : X) → told (text x) ≡ says x → P x)
    → (rows : List X) → map (λ x. told (text x)) rows ≡ map says rows → AllByRecursion P rows
each text says P f [] same = tt
each text says P f (x ∷ xs) same = (f x (ap (first_or (says x)) same), each text says P f xs (ap but_first same))

pub examples_are_asked : ExamplesAreAsked
unfolding asked_of is_help_call clap_on_literals told
examples_are_asked = record {
  commands =
      each (λ row. row.0) (λ row. (Some (over_input row.1), false)) (λ row. Ask (words_of_line row.0) (Some (over_input row.1))) (λ row same. ask (words_of_line row.0) (Some (over_input row.1)) (ap (λ (t : Option Request × Bool). t.0) same, ap (λ (t : Option Request × Bool). t.1) same))
      examples refl;
  runs =
      each (λ row. row.0) (λ row. (Some (over_runs row.1), false)) (λ row. Ask (words_of_line row.0) (Some (over_runs row.1))) (λ row same. ask (words_of_line row.0) (Some (over_runs row.1)) (ap (λ (t : Option Request × Bool). t.0) same, ap (λ (t : Option Request × Bool). t.1) same))
      runs_examples refl;
  features =
      each (λ row. row.0) (λ row. (Some (over_features row.1), false)) (λ row. Ask (words_of_line row.0) (Some (over_features row.1))) (λ row same. ask (words_of_line row.0) (Some (over_features row.1)) (ap (λ (t : Option Request × Bool). t.0) same, ap (λ (t : Option Request × Bool). t.1) same))
      features_examples refl;
  mistakes =
      each (λ text. text) (λ text. (None, false)) (λ text. Ask (words_of_line text) None) (λ text same. ask (words_of_line text) None (ap (λ (t : Option Request × Bool). t.0) same, ap (λ (t : Option Request × Bool). t.1) same))
      mistakes refl;
  help =
      each (λ text. text) (λ text. (None, true)) (λ text. CallForHelp (words_of_line text)) (λ text same. call_for_help (words_of_line text) (ap (λ (t : Option Request × Bool). t.0) same, ap (λ (t : Option Request × Bool). t.1) same))
      help_calls refl;
}
