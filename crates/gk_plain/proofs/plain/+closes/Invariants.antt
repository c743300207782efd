use Rattle.std.proofs.Common.{length}
use Rattle.gk_plain.proofs.plain.+closes.Given as goal

abbrev pub decreases-closes : goal.decreases-closes
decreases-closes l = length l.lines.now
