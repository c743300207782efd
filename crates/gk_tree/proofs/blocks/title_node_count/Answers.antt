use Rattle.std.proofs.Common.{rules}
use Rattle.gk_tree.proofs.blocks.title_node_count.Goals as goal

pub returns-in-Rule : goal.returns-in-Rule
returns-in-Rule c = search rules
