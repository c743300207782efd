use Rattle.std.proofs.Common.{rules}
use Rattle.gk_line.proofs.texts.lines.Goals as goal

pub returns : goal.returns
returns c = search rules
