use Rattle.cm_causes.proofs.Well.{good_has_cause}
use Rattle.cm_causes.proofs.laws.good_without_success_has_cause.Goals as goal

pub returns : goal.returns
returns c = good_has_cause
