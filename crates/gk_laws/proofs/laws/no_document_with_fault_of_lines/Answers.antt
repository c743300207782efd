use Rattle.gk_laws.proofs.LineDocuments.{no_document_with_fault_holds}
use Rattle.gk_laws.proofs.laws.no_document_with_fault_of_lines.Goals as goal

pub returns : goal.returns
returns c = no_document_with_fault_holds
