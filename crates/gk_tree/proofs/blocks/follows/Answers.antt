use Rattle.std.proofs.Common.{rules}
use Rattle.gk_tree.proofs.blocks.follows.Goals as goal

pub returns-else-eq-2 : goal.returns-else-eq-2
returns-else-eq-2 c = search rules
