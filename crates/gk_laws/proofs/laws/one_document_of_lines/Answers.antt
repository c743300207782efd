use Rattle.gk_laws.proofs.LineDocuments.{one_document_holds}
use Rattle.gk_laws.proofs.laws.one_document_of_lines.Goals as goal

pub returns : goal.returns
returns c = one_document_holds
