use Rattle.std.proofs.Common.{arith}
use Rattle.std.proofs.lemmas.Grind.{common_steps}
use Rattle.cm_attempt.proofs.track.Track.open_attempts.Goals as goal

pub returns : goal.returns
returns c = grind (arith, common_steps)
