use Rattle.cm_attempt.proofs.Accepted.{none_overlaps}
use Rattle.cm_attempt.proofs.laws.attempts_never_overlap.Goals as goal

pub returns : goal.returns
returns c = none_overlaps
