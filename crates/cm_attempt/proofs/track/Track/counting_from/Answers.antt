use Rattle.std.proofs.Common.{rules}
use Rattle.cm_attempt.proofs.track.Track.counting_from.Goals as goal

pub returns : goal.returns
returns c = search rules
