use Rattle.gk_grammar.proofs.LawLemmas.{no_more_nodes_than_bytes_holds}
use Rattle.gk_grammar.proofs.laws.no_more_nodes_than_bytes.Goals as goal

pub returns : goal.returns
returns c = no_more_nodes_than_bytes_holds
