use Rattle.std.proofs.Common.{rules}
use Rattle.gk_tree.proofs.parser.at_start.Goals as goal

pub returns-then-not-is_english : goal.returns-then-not-is_english
returns-then-not-is_english c = search rules
