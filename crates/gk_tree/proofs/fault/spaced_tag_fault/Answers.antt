use Rattle.std.proofs.Common.{rules}
use Rattle.gk_tree.proofs.fault.spaced_tag_fault.Goals as goal

pub returns : goal.returns
returns c = search rules
