use Rattle.std.proofs.Common.{rules}
use Rattle.gk_plain.proofs.plain.has_document.Goals as goal

pub returns : goal.returns
returns c = search rules
