use Rattle.std.proofs.Common.{rules}
use Rattle.gk_tree.proofs.parser.parse.Goals as goal

pub returns-in_default-clause-too_long : goal.returns-in_default-clause-too_long
returns-in_default-clause-too_long c = search rules
