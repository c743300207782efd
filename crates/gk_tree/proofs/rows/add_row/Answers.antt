use Rattle.std.proofs.Common.{rules}
use Rattle.gk_tree.proofs.rows.add_row.Goals as goal

pub returns : goal.returns
returns c = search rules
