use Rattle.gk_grammar.proofs.LawLemmas.{no_document_with_fault_holds}
use Rattle.gk_grammar.proofs.laws.no_document_with_fault.Goals as goal

pub returns : goal.returns
returns c = no_document_with_fault_holds
