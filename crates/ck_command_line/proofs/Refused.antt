-- Words after which a command asks for nothing.
use Rattle.std.proofs.Common.{◌≡◌, ◌∙◌, Bool, true, false, List, [], ◌∷◌, ◌++◌, Option, Some, None, refl, ap, sym, fold, is_some, append_assoc}
use Rattle.std.proofs.lemmas.Slice.Eq.{bytes_eq-Decides}
use Rattle.std.specs.Prelude.{codes, if◌then◌else◌, not, ◌&&◌}
use Rattle.std.specs.List.{AllByRecursion, list_any}
use Rattle.std.specs.Str.{bytes_eq}
use Rattle.clap.specs.Words.{Kinds, Text}
use Rattle.clap.specs.Kinds.{or_else}
use Rattle.clap.specs.Lexer.{long_of}
use Rattle.clap.specs.Walk.{Held, arg_by_index, arg_by_long, bundle_met, has_row, is_pending, nothing_held, settled, walk_from, walked}
use Rattle.clap.specs.Simple.{Shape}
use Rattle.clap.specs.Faults.{flags_fault, settle_fault, turn_fault, walk_fault}
use Rattle.clap.specs.declared.error.kind.ErrorKind.TheVariants.{ArgumentConflict, UnknownArgument}
use Rattle.std.proofs.lemmas.Bool.{false_from_ne_true, true≢false}
use Rattle.ck_command_line.specs.CommandLine.{Request, is_help, where_none}
use Rattle.ck_command_line.specs.CommandLine.{cases_command, command_like_audit, compile_command, gate_command, parse_command, results_command}
use Rattle.ck_command_line.specs.Asked.{WrittenWord, features, allow_unrun, allow_unrun_tagged, no_retries, no_skips, no_stepless, no_undefined, strict, as_json, pending_passes, attempts_from, allow_redeclared, run}
use Rattle.ck_command_line.specs.Asked.{IsPlain, words_of, all_words, is_option}
use Rattle.ck_command_line.proofs.Leaves.{Answers, leaf}
use Rattle.ck_command_line.proofs.Between.{IsBetween, goes_on, never, or_else-assoc, walk_fault-append}
use Rattle.ck_command_line.proofs.Plain.{plain}
use Rattle.ck_command_line.proofs.Using.{rule_for}

-- the faults hold no call for help
abbrev NoHelp : Kinds → Type 0
NoHelp kinds = list_any is_help kinds ≡ false

both : (a b : Kinds) → NoHelp a → NoHelp b → NoHelp (or_else a b)
both [] b x y = y
both (k ∷ ks) b x y = x

-- an option that is there twice
conflict : (b : Bool) → NoHelp (or_else (if b then ArgumentConflict ∷ [] else []) [])
conflict true = refl
conflict false = refl

-- What one option or run does in a command, be it the command's or not: it leaves the walk between two.
abbrev Step : Shape → WrittenWord → Held → Type 0
Step s option h = IsBetween (fold (walked s.rules []) (walk_from h) (words_of option))
    × NoHelp (walk_fault s [] (walk_from h) (words_of option))
    × NoHelp (settle_fault s.rules s.args_override_self (fold (walked s.rules []) (walk_from h) (words_of option)).held)

-- a command that has no commands of its own
pub record IsPlainLeaf (s : Shape) : Type 0 where
  step : (option : WrittenWord) → IsPlain option → (h : Held) → NoHelp (settle_fault s.rules s.args_override_self h) → Step s option h
  is_leaf : s.is_leaf ≡ true

module _ (s : Shape) (leaf : IsPlainLeaf s) where
  -- a fault at a word, after faults that hold no call for help
  abbrev Stopped : Kinds → Type 0
  Stopped kinds = (before : Kinds) × NoHelp before × (kinds ≡ or_else before (UnknownArgument ∷ []))

  found : (kinds more : Kinds) (asked : Option Request) → Stopped kinds
      → (where_none (or_else (or_else kinds more) []) asked ≡ None) × NoHelp (or_else (or_else kinds more) [])
  found kinds more asked ([], n, is) = rw is (refl, refl)
  found kinds more asked (k ∷ ks, n, is) = rw is (refl, n)

  module _ (word : Text) (others : List Text) (unknown : (h : Held) → turn_fault s [] (walk_from h) word ≡ UnknownArgument ∷ []) where
    -- the walk over options stops at the word
    stops : (options : List WrittenWord) → AllByRecursion IsPlain options → (h : Held) → NoHelp (settle_fault s.rules s.args_override_self h) → Stopped (walk_fault s [] (walk_from h) (all_words options ++ word ∷ others))
    unfolding walk_fault
    stops [] k h n = ([], refl, ap (λ (kinds : Kinds). or_else kinds (walk_fault s [] (walked s.rules [] (walk_from h) word) others)) (unknown h))
    stops (option ∷ options) k h n =
        let w = fold (walked s.rules []) (walk_from h) (words_of option) in
        let one = leaf.step option k.0 h n in
        let here = walk_fault s [] (walk_from h) (words_of option) in
        let rest = all_words options ++ word ∷ others in
        let more = stops options k.1 w.held one.2 in (
          or_else here more.0,
          both here more.0 one.1 more.1,
          ap (walk_fault s [] (walk_from h)) (append_assoc (words_of option) (all_words options) (word ∷ others))
              ∙ walk_fault-append s [] (walk_from h) (words_of option) rest
              ∙ ap (or_else here) ((goes_on s w one.0 rest).1 ∙ more.2)
              ∙ sym (or_else-assoc here more.0 (UnknownArgument ∷ [])),
        )

    nothing : (options : List WrittenWord) → AllByRecursion IsPlain options → Answers s (all_words options ++ word ∷ others) None
    nothing options k = found _ _ _ (stops options k nothing_held refl)

  file_turn : (word : Text) → is_option word ≡ false → arg_by_index s.rules 1 ≡ None → (h : Held) → turn_fault s [] (walk_from h) word ≡ UnknownArgument ∷ []
  file_turn word plain_word none h = let v = plain word plain_word in rw (v.0, v.1, v.2, none, leaf.is_leaf) refl

  -- `--` has no name
  no_dashes : (word name : Text) (value : Option Text) → long_of word ≡ Some (name, value) → bytes_eq word (codes "--") ≡ false
  no_dashes word name value long =
      false_from_ne_true (bytes_eq word (codes "--")) (λ same.
      let is : word ≡ codes "--" = (bytes_eq-Decides word (codes "--")).0 same in
      true≢false (sym (ap is_some (sym (ap long_of is) ∙ long))))

  other_turn : (word name : Text) (value : Option Text) → long_of word ≡ Some (name, value) → arg_by_long s.rules name ≡ None → (h : Held) → turn_fault s [] (walk_from h) word ≡ UnknownArgument ∷ []
  other_turn word name value long none h = let dashes = no_dashes word name value long in rw (dashes, long, none) refl

  pub file_is_refused : arg_by_index s.rules 1 ≡ None → (options : List WrittenWord) → AllByRecursion IsPlain options → (word : Text) → is_option word ≡ false → (others : List Text) → Answers s (all_words options ++ word ∷ others) None
  file_is_refused none options k word plain_word others = nothing word others (file_turn word plain_word none) options k

  pub option_is_refused : (options : List WrittenWord) → AllByRecursion IsPlain options → (word name : Text) (value : Option Text) → long_of word ≡ Some (name, value) → arg_by_long s.rules name ≡ None
      → (others : List Text) → Answers s (all_words options ++ word ∷ others) None
  option_is_refused options k word name value long none others = nothing word others (other_turn word name value long none) options k

module _ (s : Shape) (h : Held) where
  -- the faults of what waits for its value, and whether the option is there already
  abbrev settle : Kinds
  settle = settle_fault s.rules s.args_override_self h

  abbrev is_there : Text → Bool
  is_there name = has_row name (settled s.rules h).rows && not s.args_override_self

  -- the faults of an option
  once : (name : Text) → NoHelp settle → NoHelp (or_else (or_else (or_else settle (or_else (if is_there name then ArgumentConflict ∷ [] else []) [])) []) [])
  once name n =
      both (or_else (or_else settle (or_else (if is_there name then ArgumentConflict ∷ [] else []) [])) []) []
      (both (or_else settle (or_else (if is_there name then ArgumentConflict ∷ [] else []) [])) [] (both settle (or_else (if is_there name then ArgumentConflict ∷ [] else []) []) n (conflict (is_there name))) refl) refl

  -- the faults of one whose value comes after it
  waiting : NoHelp settle → NoHelp (or_else (or_else settle []) [])
  waiting n = both (or_else settle []) [] (both settle [] n refl) refl

  -- the faults of one that may come again
  adding : NoHelp settle → NoHelp (or_else (or_else (or_else settle []) []) [])
  adding n = both (or_else (or_else settle []) []) [] (waiting n) refl

pub gate_leaf : IsPlainLeaf (leaf gate_command)
unfolding bundle_met walked flags_fault walk_fault
gate_leaf = record { step = step; is_leaf = refl }
  where
    step : (option : WrittenWord) → IsPlain option → (h : Held) → NoHelp (settle_fault (leaf gate_command).rules (leaf gate_command).args_override_self h) → Step (leaf gate_command) option h
    step (features true p) k h n = ((refl, refl, refl, refl), adding (leaf gate_command) h n, refl)
    step (features false p) k h n = let v = plain p k in rw (v.0, v.1, v.2) ((refl, refl, refl, refl), waiting (leaf gate_command) h n, refl)
    step allow_unrun k h n = ((refl, refl, refl, refl), once (leaf gate_command) h (codes "allow-unrun") n, refl)
    step (allow_unrun_tagged true t) k h n = ((refl, refl, refl, refl), adding (leaf gate_command) h n, refl)
    step (allow_unrun_tagged false t) k h n = let v = plain t k in rw (v.0, v.1, v.2) ((refl, refl, refl, refl), waiting (leaf gate_command) h n, refl)
    step no_retries k h n = ((refl, refl, refl, refl), once (leaf gate_command) h (codes "no-retries") n, refl)
    step no_skips k h n = ((refl, refl, refl, refl), once (leaf gate_command) h (codes "no-skips") n, refl)
    step no_stepless k h n = ((refl, refl, refl, refl), once (leaf gate_command) h (codes "no-stepless") n, refl)
    step no_undefined k h n = ((refl, refl, refl, refl), once (leaf gate_command) h (codes "no-undefined") n, refl)
    step strict k h n = ((refl, refl, refl, refl), once (leaf gate_command) h (codes "strict") n, refl)
    step as_json k h n = rw (never (is_pending (rule_for (leaf gate_command) (run [])) h.pending)) ((refl, refl, refl, refl), refl, refl)
    step pending_passes k h n = ((refl, refl, refl, refl), once (leaf gate_command) h (codes "pending-passes") n, refl)
    step (attempts_from true m) k h n = ((refl, refl, refl, refl), once (leaf gate_command) h (codes "attempts-from") n, refl)
    step (attempts_from false m) k h n = let v = plain m k in rw (v.0, v.1, v.2) ((refl, refl, refl, refl), waiting (leaf gate_command) h n, conflict (is_there (leaf gate_command) h (codes "attempts-from")))
    step allow_redeclared k h n = ((refl, refl, refl, refl), once (leaf gate_command) h (codes "allow-redeclared") n, refl)
    step (run w) k h n = let v = plain w k in rw (v.0, v.1, v.2, never (is_pending (rule_for (leaf gate_command) (run w)) h.pending)) ((refl, refl, refl, refl), both (settle (leaf gate_command) h) [] n refl, refl)

-- each command with the options of `audit`
pub leaf_like_audit : (name : Text) → IsPlainLeaf (leaf (command_like_audit name))
unfolding bundle_met walked flags_fault walk_fault
leaf_like_audit name = record { step = step; is_leaf = refl }
  where
    step : (option : WrittenWord) → IsPlain option → (h : Held) → NoHelp (settle_fault (leaf (command_like_audit name)).rules (leaf (command_like_audit name)).args_override_self h) → Step (leaf (command_like_audit name)) option h
    step (features true p) k h n = ((refl, refl, refl, refl), refl, n)
    step (features false p) k h n = let v = plain p k in rw (v.0, v.1, v.2) ((refl, refl, refl, refl), refl, n)
    step allow_unrun k h n = ((refl, refl, refl, refl), refl, n)
    step (allow_unrun_tagged true t) k h n = ((refl, refl, refl, refl), refl, n)
    step (allow_unrun_tagged false t) k h n = let v = plain t k in rw (v.0, v.1, v.2) ((refl, refl, refl, refl), refl, n)
    step no_retries k h n = ((refl, refl, refl, refl), refl, n)
    step no_skips k h n = ((refl, refl, refl, refl), refl, n)
    step no_stepless k h n = ((refl, refl, refl, refl), refl, n)
    step no_undefined k h n = ((refl, refl, refl, refl), refl, n)
    step strict k h n = ((refl, refl, refl, refl), refl, n)
    step as_json k h n = ((refl, refl, refl, refl), refl, n)
    step pending_passes k h n = ((refl, refl, refl, refl), once (leaf (command_like_audit name)) h (codes "pending-passes") n, refl)
    step (attempts_from true m) k h n = ((refl, refl, refl, refl), once (leaf (command_like_audit name)) h (codes "attempts-from") n, refl)
    step (attempts_from false m) k h n = let v = plain m k in rw (v.0, v.1, v.2) ((refl, refl, refl, refl), waiting (leaf (command_like_audit name)) h n, conflict (is_there (leaf (command_like_audit name)) h (codes "attempts-from")))
    step allow_redeclared k h n = ((refl, refl, refl, refl), once (leaf (command_like_audit name)) h (codes "allow-redeclared") n, refl)
    step (run w) k h n = let v = plain w k in rw (v.0, v.1, v.2) ((refl, refl, refl, refl), refl, n)

pub cases_leaf : IsPlainLeaf (leaf cases_command)
unfolding bundle_met walked flags_fault walk_fault
cases_leaf = record { step = step; is_leaf = refl }
  where
    step : (option : WrittenWord) → IsPlain option → (h : Held) → NoHelp (settle_fault (leaf cases_command).rules (leaf cases_command).args_override_self h) → Step (leaf cases_command) option h
    step (features true p) k h n = ((refl, refl, refl, refl), refl, n)
    step (features false p) k h n = let v = plain p k in rw (v.0, v.1, v.2) ((refl, refl, refl, refl), refl, n)
    step allow_unrun k h n = ((refl, refl, refl, refl), refl, n)
    step (allow_unrun_tagged true t) k h n = ((refl, refl, refl, refl), refl, n)
    step (allow_unrun_tagged false t) k h n = let v = plain t k in rw (v.0, v.1, v.2) ((refl, refl, refl, refl), refl, n)
    step no_retries k h n = ((refl, refl, refl, refl), refl, n)
    step no_skips k h n = ((refl, refl, refl, refl), refl, n)
    step no_stepless k h n = ((refl, refl, refl, refl), refl, n)
    step no_undefined k h n = ((refl, refl, refl, refl), refl, n)
    step strict k h n = ((refl, refl, refl, refl), refl, n)
    step as_json k h n = ((refl, refl, refl, refl), once (leaf cases_command) h (codes "json") n, refl)
    step pending_passes k h n = ((refl, refl, refl, refl), once (leaf cases_command) h (codes "pending-passes") n, refl)
    step (attempts_from true m) k h n = ((refl, refl, refl, refl), once (leaf cases_command) h (codes "attempts-from") n, refl)
    step (attempts_from false m) k h n = let v = plain m k in rw (v.0, v.1, v.2) ((refl, refl, refl, refl), waiting (leaf cases_command) h n, conflict (is_there (leaf cases_command) h (codes "attempts-from")))
    step allow_redeclared k h n = ((refl, refl, refl, refl), once (leaf cases_command) h (codes "allow-redeclared") n, refl)
    step (run w) k h n = let v = plain w k in rw (v.0, v.1, v.2) ((refl, refl, refl, refl), refl, n)

pub results_leaf : IsPlainLeaf (leaf results_command)
unfolding bundle_met walked flags_fault walk_fault
results_leaf = record { step = step; is_leaf = refl }
  where
    step : (option : WrittenWord) → IsPlain option → (h : Held) → NoHelp (settle_fault (leaf results_command).rules (leaf results_command).args_override_self h) → Step (leaf results_command) option h
    step (features true p) k h n = ((refl, refl, refl, refl), refl, n)
    step (features false p) k h n = let v = plain p k in rw (v.0, v.1, v.2) ((refl, refl, refl, refl), refl, n)
    step allow_unrun k h n = ((refl, refl, refl, refl), refl, n)
    step (allow_unrun_tagged true t) k h n = ((refl, refl, refl, refl), refl, n)
    step (allow_unrun_tagged false t) k h n = let v = plain t k in rw (v.0, v.1, v.2) ((refl, refl, refl, refl), refl, n)
    step no_retries k h n = ((refl, refl, refl, refl), refl, n)
    step no_skips k h n = ((refl, refl, refl, refl), refl, n)
    step no_stepless k h n = ((refl, refl, refl, refl), refl, n)
    step no_undefined k h n = ((refl, refl, refl, refl), refl, n)
    step strict k h n = ((refl, refl, refl, refl), refl, n)
    step as_json k h n = ((refl, refl, refl, refl), refl, n)
    step pending_passes k h n = ((refl, refl, refl, refl), refl, n)
    step (attempts_from true m) k h n = ((refl, refl, refl, refl), once (leaf results_command) h (codes "attempts-from") n, refl)
    step (attempts_from false m) k h n = let v = plain m k in rw (v.0, v.1, v.2) ((refl, refl, refl, refl), waiting (leaf results_command) h n, conflict (is_there (leaf results_command) h (codes "attempts-from")))
    step allow_redeclared k h n = ((refl, refl, refl, refl), refl, n)
    step (run w) k h n = let v = plain w k in rw (v.0, v.1, v.2) ((refl, refl, refl, refl), refl, n)

pub parse_leaf : IsPlainLeaf (leaf parse_command)
unfolding bundle_met walked flags_fault walk_fault
parse_leaf = record { step = step; is_leaf = refl }
  where
    step : (option : WrittenWord) → IsPlain option → (h : Held) → NoHelp (settle_fault (leaf parse_command).rules (leaf parse_command).args_override_self h) → Step (leaf parse_command) option h
    step (features true p) k h n = ((refl, refl, refl, refl), refl, n)
    step (features false p) k h n = let v = plain p k in rw (v.0, v.1, v.2) ((refl, refl, refl, refl), refl, n)
    step allow_unrun k h n = ((refl, refl, refl, refl), refl, n)
    step (allow_unrun_tagged true t) k h n = ((refl, refl, refl, refl), refl, n)
    step (allow_unrun_tagged false t) k h n = let v = plain t k in rw (v.0, v.1, v.2) ((refl, refl, refl, refl), refl, n)
    step no_retries k h n = ((refl, refl, refl, refl), refl, n)
    step no_skips k h n = ((refl, refl, refl, refl), refl, n)
    step no_stepless k h n = ((refl, refl, refl, refl), refl, n)
    step no_undefined k h n = ((refl, refl, refl, refl), refl, n)
    step strict k h n = ((refl, refl, refl, refl), refl, n)
    step as_json k h n = ((refl, refl, refl, refl), refl, n)
    step pending_passes k h n = ((refl, refl, refl, refl), refl, n)
    step (attempts_from true m) k h n = ((refl, refl, refl, refl), refl, n)
    step (attempts_from false m) k h n = let v = plain m k in rw (v.0, v.1, v.2) ((refl, refl, refl, refl), refl, n)
    step allow_redeclared k h n = ((refl, refl, refl, refl), refl, n)
    step (run w) k h n = let v = plain w k in rw (v.0, v.1, v.2) ((refl, refl, refl, refl), refl, n)

pub compile_leaf : IsPlainLeaf (leaf compile_command)
unfolding bundle_met walked flags_fault walk_fault
compile_leaf = record { step = step; is_leaf = refl }
  where
    step : (option : WrittenWord) → IsPlain option → (h : Held) → NoHelp (settle_fault (leaf compile_command).rules (leaf compile_command).args_override_self h) → Step (leaf compile_command) option h
    step (features true p) k h n = ((refl, refl, refl, refl), refl, n)
    step (features false p) k h n = let v = plain p k in rw (v.0, v.1, v.2) ((refl, refl, refl, refl), refl, n)
    step allow_unrun k h n = ((refl, refl, refl, refl), refl, n)
    step (allow_unrun_tagged true t) k h n = ((refl, refl, refl, refl), refl, n)
    step (allow_unrun_tagged false t) k h n = let v = plain t k in rw (v.0, v.1, v.2) ((refl, refl, refl, refl), refl, n)
    step no_retries k h n = ((refl, refl, refl, refl), refl, n)
    step no_skips k h n = ((refl, refl, refl, refl), refl, n)
    step no_stepless k h n = ((refl, refl, refl, refl), refl, n)
    step no_undefined k h n = ((refl, refl, refl, refl), refl, n)
    step strict k h n = ((refl, refl, refl, refl), refl, n)
    step as_json k h n = ((refl, refl, refl, refl), refl, n)
    step pending_passes k h n = ((refl, refl, refl, refl), refl, n)
    step (attempts_from true m) k h n = ((refl, refl, refl, refl), refl, n)
    step (attempts_from false m) k h n = let v = plain m k in rw (v.0, v.1, v.2) ((refl, refl, refl, refl), refl, n)
    step allow_redeclared k h n = ((refl, refl, refl, refl), refl, n)
    step (run w) k h n = let v = plain w k in rw (v.0, v.1, v.2) ((refl, refl, refl, refl), refl, n)
