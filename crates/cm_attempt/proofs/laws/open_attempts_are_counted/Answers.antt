use Rattle.cm_attempt.proofs.Accepted.{counts_open}
use Rattle.cm_attempt.proofs.laws.open_attempts_are_counted.Goals as goal

pub returns : goal.returns
returns c = counts_open
