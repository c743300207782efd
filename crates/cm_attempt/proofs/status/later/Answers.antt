use Rattle.std.proofs.Common.{rules}
use Rattle.cm_attempt.proofs.status.later.Goals as goal

pub returns-then-a-b : goal.returns-then-a-b
returns-then-a-b c = search rules
