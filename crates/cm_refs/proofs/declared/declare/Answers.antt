use Rattle.std.proofs.Common.{rules}
use Rattle.cm_refs.proofs.declared.declare.Goals as goal

pub returns-then-contains-clause-answer : goal.returns-then-contains-clause-answer
returns-then-contains-clause-answer c = search rules
