use Rattle.cm_ran.proofs.RunLaws.{ran_at}
use Rattle.cm_ran.proofs.laws.run_scenarios_ran.Goals as goal

pub returns : goal.returns
returns c = ran_at
