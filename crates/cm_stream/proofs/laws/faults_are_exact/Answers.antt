use Rattle.cm_stream.proofs.Tables.{faults_are_exact as law}
use Rattle.cm_stream.proofs.laws.faults_are_exact.Goals as goal

pub returns : goal.returns
returns c = law
