use Rattle.cm_attempt.proofs.Accepted.{are_numbered}
use Rattle.cm_attempt.proofs.laws.attempts_are_numbered.Goals as goal

pub returns : goal.returns
returns c = are_numbered
