use Rattle.cm_stream.proofs.ByGrammar.{good_is_no_fault as law}
use Rattle.cm_stream.proofs.laws.good_is_no_fault.Goals as goal

pub returns : goal.returns
returns c = law
