use Rattle.gk_laws.proofs.LineDocuments.{texts_are_lines_holds}
use Rattle.gk_laws.proofs.laws.texts_are_lines.Goals as goal

pub returns : goal.returns
returns c = texts_are_lines_holds
