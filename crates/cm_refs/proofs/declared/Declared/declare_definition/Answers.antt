use Rattle.std.proofs.Common.{rules}
use Rattle.cm_refs.proofs.declared.Declared.declare_definition.Goals as goal

pub returns-clause-answer : goal.returns-clause-answer
returns-clause-answer c = search rules
