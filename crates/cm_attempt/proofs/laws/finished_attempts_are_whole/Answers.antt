use Rattle.cm_attempt.proofs.Accepted.{finished_are_whole}
use Rattle.cm_attempt.proofs.laws.finished_attempts_are_whole.Goals as goal

pub returns : goal.returns
returns c = finished_are_whole
