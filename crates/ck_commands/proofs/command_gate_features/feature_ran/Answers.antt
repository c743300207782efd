use Rattle.std.proofs.Common.{◌∙◌, sym}
use Rattle.ck_commands.proofs.AskedLemmas.{all_of_some, none_of_none}
use Rattle.ck_commands.proofs.command_gate_features.feature_ran.Goals as goal

pub returns-then-not-is_empty : goal.returns-then-not-is_empty
returns-then-not-is_empty c = c.feature_scenarios_ran.ensures ∙ all_of_some c.args.flags.now (sym c.is_empty.ensures ∙ c.if-not-is_empty.true)
