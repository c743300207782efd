use Rattle.std.proofs.Common.{rules}
use Rattle.cm_attempt.proofs.track.finished_in_order.Goals as goal

pub returns-then-is_next : goal.returns-then-is_next
returns-then-is_next c = search rules
