use Rattle.gk_laws.proofs.LineDocuments.{one_fault_holds}
use Rattle.gk_laws.proofs.laws.one_fault_of_lines.Goals as goal

pub returns : goal.returns
returns c = one_fault_holds
