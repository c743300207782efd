use Rattle.cm_stream.proofs.ByGrammar.{good_have_no_fault_law}
use Rattle.cm_stream.proofs.laws.good_streams_have_no_fault.Goals as goal

pub returns : goal.returns
returns c = good_have_no_fault_law
