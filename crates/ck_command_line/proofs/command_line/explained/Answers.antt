use Rattle.std.proofs.Common.{ap, ◌∙◌}
use Rattle.clap.specs.Words.{rule_of}
use Rattle.clap.specs.declared.builder.arg.Arg.{Arg}
use Rattle.ck_command_line.proofs.command_line.explained.Goals as goal

pub returns-clause-rule : goal.returns-clause-rule
returns-clause-rule c = ap rule_of c.value_name.ensures ∙ ap (λ (a : Arg). record (rule_of a) { value_names = 1 }) c.help.ensures
