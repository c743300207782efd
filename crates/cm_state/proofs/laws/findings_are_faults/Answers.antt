use Rattle.cm_state.proofs.Checked.{findings_are_faults_law as law}
use Rattle.cm_state.proofs.laws.findings_are_faults.Goals as goal

pub returns : goal.returns
returns c = law
