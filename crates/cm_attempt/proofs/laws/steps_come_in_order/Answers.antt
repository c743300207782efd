use Rattle.cm_attempt.proofs.Accepted.{steps_in_order}
use Rattle.cm_attempt.proofs.laws.steps_come_in_order.Goals as goal

pub returns : goal.returns
returns c = steps_in_order
