use Rattle.cm_attempt.proofs.Accepted.{come_in_order, ids_distinct}
use Rattle.cm_attempt.proofs.Converse.{are_accepted}
use Rattle.cm_attempt.proofs.laws.accepted_is_in_order.Goals as goal

pub returns-clause-in_order : goal.returns-clause-in_order
returns-clause-in_order c = come_in_order

pub returns-clause-accepted : goal.returns-clause-accepted
returns-clause-accepted c = are_accepted

pub returns-clause-distinct : goal.returns-clause-distinct
returns-clause-distinct c = ids_distinct
