use Rattle.cm_stream.proofs.ByGrammar.{no_fault_is_good as law}
use Rattle.cm_stream.proofs.laws.no_fault_is_good.Goals as goal

pub returns : goal.returns
returns c = law
