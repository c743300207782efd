use Rattle.gk_grammar.proofs.LawLemmas.{one_document_holds}
use Rattle.gk_grammar.proofs.laws.one_document.Goals as goal

pub returns : goal.returns
returns c = one_document_holds
