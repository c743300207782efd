-- A command with more options, and a program with one command more.
use Rattle.std.proofs.Common.{◌≡◌, ◌∙◌, ◌||◌, false, List, [], ◌∷◌, Result, Ok, Err, IfOk, IsOkAnd, map, refl, ap, ap₂, subst}
use Rattle.std.proofs.lemmas.List.Elements.{All-head, All-tail}
use Rattle.std.specs.List.{All}
use Rattle.clap.specs.Words.{AddsArg, AddsInTurn, App, Rule, app_of, rule_of, with_rule, with_subcommand}
use Rattle.clap.specs.declared.builder.arg.Arg.{Arg}
use Rattle.clap.specs.declared.builder.command.Command.{Command}
use Rattle.clap.specs.declared.builder.command.Command.TheViews.{out-Command}
use Rattle.ck_command_line.specs.CommandLine.{with_rules}

-- the command has these options so far, and none of them is global
abbrev pub Has : Command → App → Type 0
Has c app = (app_of c ≡ app) × ((out-Command c).has_globals ≡ false)

-- one more option
pub more : (old new : Command) (a : Arg) (app : App) (rule : Rule) → AddsArg old a new → Has old app → rule_of a ≡ rule → a.global ≡ false → Has new (with_rule app rule)
more old new a app rule adds has is local = (adds.shape local ∙ ap₂ with_rule has.0 is, adds.globals ∙ ap₂ (◌||◌) has.1 local)

abbrev IsLocal : Arg → Type 0
IsLocal a = a.global ≡ false

-- more options, one after another
pub all_more : (old new : Command) (args : List Arg) (app : App) → AddsInTurn AddsArg old args new → Has old app → All IsLocal args → Has new (with_rules app (map rule_of args))
all_more old new [] app same has local = subst (λ (c : Command). Has c app) same has
all_more old new (a ∷ args) app (m, adds, rest) has local =
    all_more m new args (with_rule app (rule_of a)) rest (more old m a app (rule_of a) adds has refl (All-head IsLocal a args local)) (All-tail IsLocal a args local)

-- one more command
pub one_more : {E : Type 0} (command : Result Command E) (program new : Command) (app sub : App) → IsOkAnd command (λ c. (out-Command c).has_globals ≡ false → app_of new ≡ with_subcommand (app_of program) (app_of c).top)
    → app_of program ≡ app → IfOk command (λ c. app_of c ≡ sub) → IfOk command (λ c. (out-Command c).has_globals ≡ false) → app_of new ≡ with_subcommand app sub.top
one_more (Ok c) program new app sub adds is of local = adds local ∙ ap₂ with_subcommand is (ap (λ (a : App). a.top) of)
one_more (Err e) program new app sub adds is of local = absurd adds
