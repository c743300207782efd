use Rattle.std.proofs.Common.{rules}
use Rattle.gk_document.proofs.sequence.Sequence.as_slice.Goals as goal

pub returns : goal.returns
returns c = search rules
