use Rattle.gk_laws.proofs.LineDocuments.{document_or_fault_holds}
use Rattle.gk_laws.proofs.laws.document_or_fault_of_lines.Goals as goal

pub returns : goal.returns
returns c = document_or_fault_holds
