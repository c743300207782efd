use Rattle.cm_stream.proofs.ByGrammar.{one_first_fault}
use Rattle.cm_stream.proofs.laws.each_stream_has_one_first_fault.Goals as goal

pub returns : goal.returns
returns c = one_first_fault
