use Rattle.gk_laws.proofs.Fronts.{faults_stay_holds}
use Rattle.gk_laws.proofs.laws.faults_stay.Goals as goal

pub returns : goal.returns
returns c = faults_stay_holds
