use Rattle.std.proofs.Common.{arith}
use Rattle.std.proofs.lemmas.Grind.{common_steps}
use Rattle.gk_line.proofs.tags_and_comments.begins_comment.Goals as goal

pub returns-then-begins_with_space : goal.returns-then-begins_with_space
returns-then-begins_with_space c = λ d rest e. let white = c.begins_with_space.ensures d rest e in grind (arith, common_steps)

pub returns-else-begins_with_space : goal.returns-else-begins_with_space
returns-else-begins_with_space c = λ d rest e. let white = c.begins_with_space.ensures d rest e in grind (arith, common_steps)
