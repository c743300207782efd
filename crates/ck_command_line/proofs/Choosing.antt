-- What a parse of the command line says of the choice.
use Rattle.std.proofs.Common.{◌≡◌, ◌∙◌, ◌⊎◌, List, [], ◌∷◌, Option, Some, None, Ok, Err, true, option_map, refl, sym, ap, ap₂, subst, inl, inr}
use Rattle.std.proofs.lemmas.Bool.{or_left, or_right}
use Rattle.std.specs.Box.{box_value}
use Rattle.std.specs.List.{list_any}
use Rattle.std.specs.Option.{unwrap_or}
use Rattle.clap.specs.Kinds.{IsAmong}
use Rattle.clap.specs.Words.{App, HasMatchesOf, Kinds, HasKind, Row, Text, fault_of, found_of, is_simple, is_simple_and_free, kind_of, rows_of, subcommand_name_of, subcommand_of, subcommand_rows_of}
use Rattle.clap.specs.declared.error.Error.{Error}
use Rattle.clap.specs.declared.error.kind.ErrorKind.{ErrorKind}
use Rattle.clap.specs.declared.error.kind.ErrorKind.TheVariants.{DisplayHelp, DisplayVersion, OutOfMemory}
use Rattle.clap.specs.declared.parser.matches.ArgMatches.{ArgMatches}
use Rattle.clap.specs.declared.parser.matches.ArgMatches.TheViews.{out-ArgMatches, out-SubCommand}
use Rattle.ck_command_line.specs.CommandLine.{Request, Chooses, Shows, asked_of, asked_of_choice, command_app, subcommand_named, where_none}
use Rattle.ck_command_line.specs.CommandLine.{HelpsByKind, HelpsOnCall, IsNoHelp, is_help, is_help_call}
use Rattle.ck_command_line.specs.declared.command_line.Choice.{Choice}
use Rattle.ck_command_line.specs.declared.command_line.NoChoice.{NoChoice}
use Rattle.ck_command_line.specs.declared.command_line.NoChoice.TheVariants as reason
use Rattle.ck_command_line.specs.declared.command_line.Refusal.{Refusal}
use Rattle.ck_command_line.specs.declared.command_line.Refusal.TheVariants.{Memory, Help, Usage}

is_simple_command : (a : App) → a ≡ command_app → is_simple a ≡ true
is_simple_command a is = subst (λ b. is_simple b ≡ true) (sym is) refl

is_free_command : (a : App) → a ≡ command_app → is_simple_and_free a ≡ true
is_free_command a is = subst (λ b. is_simple_and_free b ≡ true) (sym is) refl

taken_by : (a : App) (words : List Text) (m : ArgMatches) → fault_of a words ≡ [] → subcommand_rows_of m ≡ subcommand_of a words
    → subcommand_named (subcommand_rows_of m) ≡ where_none (fault_of a words) (subcommand_named (subcommand_of a words))
taken_by a words m none sub = rw none (ap subcommand_named sub)

-- where the parse has matches, its subcommand is what the words ask for
pub taken : (a : App) (words : List Text) (m : ArgMatches) → a ≡ command_app → HasMatchesOf a words m
    → (is_simple_and_free a ≡ true → fault_of a words ≡ []) → subcommand_named (subcommand_rows_of m) ≡ asked_of words
unfolding asked_of
taken a words m is has free =
    subst (λ b. subcommand_named (subcommand_rows_of m) ≡ where_none (fault_of b words) (subcommand_named (subcommand_of b words))) is
    (taken_by a words m (free (is_free_command a is)) (has (is_simple_command a is)).1)

by_kinds : (kinds : Kinds) (found : Option Request) (e : Error) (r : Refusal) → HasKind kinds e
    → (kind_of e ≡ OutOfMemory → r ≡ Memory) → Chooses (where_none kinds found) (Err r)
by_kinds [] (Some c) e r (inl h) f = f h
by_kinds [] (Some c) e r (inr h) f = absurd h
by_kinds [] None e r h f = refl
by_kinds (k ∷ ks) found e r h f = refl

-- where the parse fails, memory ran out or the words ask for nothing
pub refused : (a : App) (words : List Text) (e : Error) (r : Refusal) → a ≡ command_app
    → (is_simple_and_free a ≡ true → HasKind (fault_of a words) e) → (kind_of e ≡ OutOfMemory → r ≡ Memory)
    → Chooses (asked_of words) (Err r)
unfolding asked_of
refused a words e r is free memory =
    subst (λ b. Chooses (where_none (fault_of b words) (subcommand_named (subcommand_of b words))) (Err r)) is
    (by_kinds (fault_of a words) (subcommand_named (subcommand_of a words)) e r (free (is_free_command a is)) memory)

abbrev pair : {X : Type 0} → (X → Text) → (X → List Row) → X → Text × List Row
pair f g x = (f x, g x)

named : {X : Type 0} (f : X → Text) (g : X → List Row) (sub : Option X) (name : Text) (rows : List Row) → option_map f sub ≡ Some name
    → option_map (λ (p : Text × List Row). p.1) (option_map (pair f g) sub) ≡ Some rows → option_map (pair f g) sub ≡ Some (name, rows)
named f g None name rows is has = cc
named f g (Some x) name rows is has = ap₂ (λ (n : Text) (rs : List Row). Some (n, rs)) (ap (λ o. unwrap_or o name) is) (ap (λ o. unwrap_or o rows) has)

-- the command in the matches
pub met : (m : ArgMatches) (name : Text) (rows : List Row) → Some name ≡ subcommand_name_of m → Some rows ≡ option_map (λ (p : Text × List Row). p.1) (subcommand_rows_of m) → subcommand_rows_of m ≡ Some (name, rows)
met m name rows is has = named (λ b. (out-SubCommand (box_value b)).name.now) (λ b. rows_of (found_of (out-SubCommand (box_value b)).matches)) (out-ArgMatches m).subcommand name rows (sym is) (sym has)

-- the choice that was read off the matches
pub chosen_some : (words : List Text) (asked : Option Request) (c : Choice) → Shows asked_of_choice asked (Ok c) → asked ≡ asked_of words → Chooses (asked_of words) (Ok c)
chosen_some words asked c is same = subst (λ o. Chooses o (Ok c)) (sym is ∙ same) refl

by_reason : (asked : Option Request) (why : NoChoice) (r : Refusal) → Shows asked_of_choice asked (Err why) → (why ≡ reason.Memory → r ≡ Memory) → Chooses asked (Err r)
by_reason (Some c) reason.Memory r is memory = memory refl
by_reason None reason.Memory r is memory = refl
by_reason asked reason.NoCommand r is memory = subst (λ o. Chooses o (Err r)) (sym is) refl
by_reason asked reason.WrongAttempts r is memory = subst (λ o. Chooses o (Err r)) (sym is) refl
by_reason asked reason.WrongTag r is memory = subst (λ o. Chooses o (Err r)) (sym is) refl
by_reason asked reason.BothUnrun r is memory = subst (λ o. Chooses o (Err r)) (sym is) refl
by_reason asked reason.UnrunWithFeatures r is memory = subst (λ o. Chooses o (Err r)) (sym is) refl
by_reason asked reason.TwoInputs r is memory = subst (λ o. Chooses o (Err r)) (sym is) refl

pub chosen_none : (words : List Text) (asked : Option Request) (why : NoChoice) (r : Refusal) → Shows asked_of_choice asked (Err why) → (why ≡ reason.Memory → r ≡ Memory) → asked ≡ asked_of words
    → Chooses (asked_of words) (Err r)
chosen_none words asked why r is memory same = subst (λ o. Chooses o (Err r)) same (by_reason asked why r is memory)

pub no_help : (words : List Text) (r : Refusal) → IsNoHelp r → HelpsOnCall words (Err r)
no_help words (Help t) h = absurd h
no_help words (Usage t) h = tt
no_help words Memory h = tt

shows_help : (k : ErrorKind) → (k ≡ DisplayHelp) ⊎ (k ≡ DisplayVersion) → is_help k ≡ true
shows_help k (inl e) = ap is_help e
shows_help k (inr e) = ap is_help e

among : (k : ErrorKind) (kinds : Kinds) → IsAmong k kinds → is_help k ≡ true → list_any is_help kinds ≡ true
among k [] i h = absurd i
among k (x ∷ xs) (inl e) h = or_left (is_help x) (list_any is_help xs) (sym (ap is_help e) ∙ h)
among k (x ∷ xs) (inr i) h = or_right (is_help x) (list_any is_help xs) (among k xs i h)

helps : (words : List Text) (kinds : Kinds) (e : Error) (r : Refusal) → kinds ≡ fault_of command_app words → HasKind kinds e → (kind_of e ≡ OutOfMemory → r ≡ Memory)
    → HelpsByKind (kind_of e) r → HelpsOnCall words (Err r)
unfolding is_help_call
helps words kinds e (Help t) same (inl m) f h = absurd (subst IsNoHelp (sym (f m)) tt)
helps words kinds e (Help t) same (inr i) f h = ap (list_any is_help) (sym same) ∙ among (kind_of e) kinds i (shows_help (kind_of e) h)
helps words kinds e (Usage t) same k f h = tt
helps words kinds e Memory same k f h = tt

-- where the parse fails, help is given only where the words call for it
pub helped : (a : App) (words : List Text) (e : Error) (r : Refusal) → a ≡ command_app
    → (is_simple_and_free a ≡ true → HasKind (fault_of a words) e) → (kind_of e ≡ OutOfMemory → r ≡ Memory)
    → HelpsByKind (kind_of e) r → HelpsOnCall words (Err r)
helped a words e r is free memory help = helps words (fault_of a words) e r (ap (λ (b : App). fault_of b words) is) (free (is_free_command a is)) memory help
