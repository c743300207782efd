use Rattle.gk_grammar.proofs.LawLemmas.{numbered_in_order_holds}
use Rattle.gk_grammar.proofs.laws.nodes_are_numbered_in_order.Goals as goal

pub returns : goal.returns
returns c = numbered_in_order_holds
