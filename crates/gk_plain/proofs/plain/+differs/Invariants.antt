use Rattle.std.proofs.Common.{length}
use Rattle.gk_plain.proofs.plain.+differs.Given as goal

abbrev pub decreases-differs : goal.decreases-differs
decreases-differs l = length l.lines.now
