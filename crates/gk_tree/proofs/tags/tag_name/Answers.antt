use Rattle.std.proofs.Common.{arith}
use Rattle.std.proofs.lemmas.Grind.{common_steps}
use Rattle.std.proofs.lemmas.Str.{encodes-chars}
use Rattle.gk_tree.proofs.tags.tag_name.Goals as goal

pub returns : goal.returns
returns c = let same = encodes-chars c.args.word.now c.utf8.word in grind (arith, common_steps)
