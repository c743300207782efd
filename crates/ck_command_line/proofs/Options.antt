-- What a command answers where it reads its words, and each list of the options of `results` is read.
use Rattle.std.proofs.Common.{◌≡◌, ◌∙◌, true, false, List, [], ◌∷◌, Option, Some, None, refl, ap, option_map}
use Rattle.std.proofs.lemmas.Bool.{false≢true}
use Rattle.std.specs.List.{AllByRecursion, list_any}
use Rattle.clap.specs.Words.{Kinds, Text}
use Rattle.clap.specs.Simple.{Shape}
use Rattle.clap.specs.Walk.{bundle_met, rows_after, walked}
use Rattle.clap.specs.Faults.{flags_fault, walk_fault, defaults_fault}
use Rattle.ck_command_line.specs.CommandLine.{Request, command_named, is_help, results_command, where_none}
use Rattle.ck_command_line.specs.Asked.{WrittenWord, features, allow_unrun, allow_unrun_tagged, no_retries, no_skips, no_stepless, no_undefined, strict, as_json, pending_passes, attempts_from, allow_redeclared, run}
use Rattle.ck_command_line.specs.Asked.{IsPlain, are_distinct, all_words, asked_with}
use Rattle.ck_command_line.specs.Asked.{results_usage}
use Rattle.ck_command_line.proofs.AuditOptions.{Reads}
use Rattle.ck_command_line.proofs.Leaves.{Answers, leaf}
use Rattle.ck_command_line.proofs.Plain.{plain}

pub answers : (s : Shape) (words : List Text) (asked : Option Request) → Reads s words asked → Answers s words asked
answers s words asked reads = (
  ap (λ (kinds : Kinds). where_none kinds (command_named s.name (rows_after s.rules [] words))) reads.0 ∙ reads.1,
  ap (list_any is_help) reads.0,
)

in_two_steps : {A B C : Type 0} (f : A → B) (g : B → C) (o : Option A) → option_map (λ x. g (f x)) o ≡ option_map g (option_map f o)
in_two_steps f g None = refl
in_two_steps f g (Some x) = refl

pub results_takes : (options : List WrittenWord) → are_distinct results_usage.options options ≡ true → AllByRecursion IsPlain options
    → Reads (leaf results_command) (all_words options) (asked_with results_usage options)
unfolding bundle_met walked flags_fault walk_fault defaults_fault
results_takes [] h k = (refl, refl)
results_takes (features v p ∷ options) h k = absurd (false≢true h)
results_takes (allow_unrun ∷ options) h k = absurd (false≢true h)
results_takes (allow_unrun_tagged v t ∷ options) h k = absurd (false≢true h)
results_takes (no_retries ∷ options) h k = absurd (false≢true h)
results_takes (no_skips ∷ options) h k = absurd (false≢true h)
results_takes (no_stepless ∷ options) h k = absurd (false≢true h)
results_takes (no_undefined ∷ options) h k = absurd (false≢true h)
results_takes (strict ∷ options) h k = absurd (false≢true h)
results_takes (as_json ∷ options) h k = absurd (false≢true h)
results_takes (allow_redeclared ∷ options) h k = absurd (false≢true h)
results_takes (run w ∷ options) h k = absurd (false≢true h)
results_takes (pending_passes ∷ options) h k = absurd (false≢true h)
results_takes (attempts_from true n ∷ []) h k = (refl, in_two_steps _ _ _)
results_takes (attempts_from false n ∷ []) h k = let p = plain n k.0 in rw (p.0, p.1, p.2) (refl, in_two_steps _ _ _)
results_takes (attempts_from w n ∷ option ∷ options) h k = absurd (false≢true h)
