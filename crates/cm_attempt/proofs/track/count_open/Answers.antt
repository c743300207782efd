use Rattle.std.proofs.Common.{rules}
use Rattle.cm_attempt.proofs.track.count_open.Goals as goal

pub returns : goal.returns
returns c = search rules
