use Rattle.cm_differs.proofs.DueEqual.{due_is_equal}
use Rattle.cm_differs.proofs.difference.due_is_equal.Goals as goal

pub returns : goal.returns
returns c = due_is_equal
