use Rattle.std.proofs.Common.{◌∙◌}
use Rattle.clap.specs.Words.{found_of}
use Rattle.clap.proofs.WalkLemmas.{raw_values-rows}
use Rattle.ck_command_line.proofs.command_line.texts_of.Goals as goal

pub returns : goal.returns
returns c = c.get_raw.ensures ∙ raw_values-rows (found_of c.args.values.now) c.args.name.now
