use Rattle.std.proofs.Common.{rules}
use Rattle.cm_attempt.proofs.status.worst_with.Goals as goal

pub returns-in-None : goal.returns-in-None
returns-in-None c = search rules
