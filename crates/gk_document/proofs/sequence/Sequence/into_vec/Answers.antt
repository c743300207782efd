use Rattle.std.proofs.Common.{rules}
use Rattle.gk_document.proofs.sequence.Sequence.into_vec.Goals as goal

pub returns : goal.returns
returns c = search rules
