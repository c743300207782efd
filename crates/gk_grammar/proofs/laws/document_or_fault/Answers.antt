use Rattle.gk_grammar.proofs.LawLemmas.{document_or_fault_holds}
use Rattle.gk_grammar.proofs.laws.document_or_fault.Goals as goal

pub returns : goal.returns
returns c = document_or_fault_holds
