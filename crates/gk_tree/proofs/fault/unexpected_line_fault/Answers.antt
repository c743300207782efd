use Rattle.std.proofs.Common.{rules}
use Rattle.gk_tree.proofs.fault.unexpected_line_fault.Goals as goal

pub returns : goal.returns
returns c = search rules
