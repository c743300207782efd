use Rattle.std.proofs.Common.{rules}
use Rattle.gk_document.proofs.text.Text.into_string.Goals as goal

pub returns : goal.returns
returns c = search rules
