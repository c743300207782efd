use Rattle.std.proofs.Common.{List, Option, sym, subst}
use Rattle.clap.specs.Words.{Row, Text}
use Rattle.ck_command_line.specs.CommandLine.{Shows, asked_of_choice, subcommand_named}
use Rattle.ck_command_line.proofs.Choosing.{met}
use Rattle.ck_command_line.proofs.command_line.chosen.Goals as goal

pub returns-in-Some : goal.returns-in-Some
returns-in-Some c =
    subst (λ (o : Option (Text × List Row)). Shows asked_of_choice (subcommand_named o) c.choice_named.result)
    (sym (met c.args.matches.now _ _ c.in-Some.ensures.name c.in-Some.ensures.rows)) c.choice_named.ensures
