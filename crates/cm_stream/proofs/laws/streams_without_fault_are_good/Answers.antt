use Rattle.cm_stream.proofs.ByGrammar.{faultless_are_good_law}
use Rattle.cm_stream.proofs.laws.streams_without_fault_are_good.Goals as goal

pub returns : goal.returns
returns c = faultless_are_good_law
