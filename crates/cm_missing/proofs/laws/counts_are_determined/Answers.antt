use Rattle.cm_missing.proofs.LawLemmas.{one_scenario_count, one_unrun_count}
use Rattle.cm_missing.proofs.laws.counts_are_determined.Goals as goal

pub returns-clause-scenarios : goal.returns-clause-scenarios
returns-clause-scenarios c = one_scenario_count

pub returns-clause-unrun : goal.returns-clause-unrun
returns-clause-unrun c = one_unrun_count
