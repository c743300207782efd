use Rattle.cm_causes.proofs.Well.{no_cause}
use Rattle.cm_causes.proofs.laws.no_cause_is_all_well.Goals as goal

pub returns : goal.returns
returns c = no_cause
