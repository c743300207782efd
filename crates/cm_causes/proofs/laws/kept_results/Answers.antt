use Rattle.cm_causes.proofs.KeptResults.{kept_results as kept, results_at_end}
use Rattle.cm_causes.proofs.laws.kept_results.Goals as goal

pub returns-clause-kept : goal.returns-clause-kept
returns-clause-kept c = kept

pub returns-clause-ends : goal.returns-clause-ends
returns-clause-ends c = results_at_end
