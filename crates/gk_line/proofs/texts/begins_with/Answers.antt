use Rattle.std.proofs.Common.{arith}
use Rattle.std.proofs.lemmas.Grind.{common_steps}
use Rattle.gk_line.proofs.SpaceLemmas.{first-byte}
use Rattle.gk_line.proofs.texts.begins_with.Goals as goal

pub returns-then-not-is_empty : goal.returns-then-not-is_empty
returns-then-not-is_empty c = rw (first-byte c.args.text.now c.args.first c.requires c.utf8.text) (grind (arith, common_steps))

pub returns-else-not-is_empty : goal.returns-else-not-is_empty
returns-else-not-is_empty c = rw (first-byte c.args.text.now c.args.first c.requires c.utf8.text) (grind (arith, common_steps))
