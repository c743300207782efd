use Rattle.std.proofs.Common.{rules}
use Rattle.cm_attempt.proofs.track.Track.has_attempt.Goals as goal

pub returns-clause-value : goal.returns-clause-value
returns-clause-value c = search rules
