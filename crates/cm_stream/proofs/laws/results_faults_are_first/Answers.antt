use Rattle.cm_stream.proofs.ResultsFaults.{faults_are_first as law}
use Rattle.cm_stream.proofs.laws.results_faults_are_first.Goals as goal

pub returns : goal.returns
returns c = law
