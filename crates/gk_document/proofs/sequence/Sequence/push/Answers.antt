use Rattle.std.proofs.Common.{rules}
use Rattle.gk_document.proofs.sequence.Sequence.push.Goals as goal

pub returns-clause-ok : goal.returns-clause-ok
returns-clause-ok c = search rules
