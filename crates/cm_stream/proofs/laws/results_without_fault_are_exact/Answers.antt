use Rattle.cm_stream.proofs.ResultsFaults.{no_fault_is_exact as law}
use Rattle.cm_stream.proofs.laws.results_without_fault_are_exact.Goals as goal

pub returns : goal.returns
returns c = law
