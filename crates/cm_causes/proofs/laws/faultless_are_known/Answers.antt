use Rattle.cm_causes.proofs.Known.{ends_are_known, faultless_are_known as known}
use Rattle.cm_causes.proofs.laws.faultless_are_known.Goals as goal

pub returns-clause-faultless : goal.returns-clause-faultless
returns-clause-faultless c = known

pub returns-clause-ends : goal.returns-clause-ends
returns-clause-ends c = ends_are_known
