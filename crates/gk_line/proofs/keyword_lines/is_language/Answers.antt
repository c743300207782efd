use Rattle.std.proofs.Common.{arith}
use Rattle.std.proofs.lemmas.Grind.{common_steps}
use Rattle.gk_line.proofs.TextLemmas.{is_empty_chars}
use Rattle.gk_line.proofs.keyword_lines.is_language.Goals as goal

pub returns-then-not-is_empty : goal.returns-then-not-is_empty
returns-then-not-is_empty c = rw (is_empty_chars c.args.text.now c.utf8.text) (grind (arith, common_steps))

pub returns-else-not-is_empty : goal.returns-else-not-is_empty
returns-else-not-is_empty c = rw (is_empty_chars c.args.text.now c.utf8.text) (grind (arith, common_steps))
