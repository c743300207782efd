use Rattle.std.proofs.Common.{rules}
use Rattle.cm_judge.proofs.due.TextFitsU64.fits.Goals as goal

pub returns : goal.returns
returns c = search rules
