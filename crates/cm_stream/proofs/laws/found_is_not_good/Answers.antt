use Rattle.cm_stream.proofs.ByGrammar.{found_is_not_good as law}
use Rattle.cm_stream.proofs.laws.found_is_not_good.Goals as goal

pub returns : goal.returns
returns c = law
