use Rattle.gk_grammar.proofs.LawLemmas.{one_fault_holds}
use Rattle.gk_grammar.proofs.laws.one_fault.Goals as goal

pub returns : goal.returns
returns c = one_fault_holds
