use Rattle.cm_causes.proofs.AtFault.{truth_is_told_law}
use Rattle.cm_causes.proofs.NothingFailed.{nothing_failed_law}
use Rattle.cm_causes.proofs.laws.nothing_failed_is_all_well.Goals as goal

pub returns-clause-all : goal.returns-clause-all
returns-clause-all c = nothing_failed_law

pub returns-clause-truth : goal.returns-clause-truth
returns-clause-truth c = truth_is_told_law
