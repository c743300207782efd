use Rattle.cm_stream.proofs.ByGrammar.{tables_agree_law}
use Rattle.cm_stream.proofs.laws.tables_agree.Goals as goal

pub returns : goal.returns
returns c = tables_agree_law
