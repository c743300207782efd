use Rattle.gk_pickle.proofs.InTurn.{scenario_by_scenario}
use Rattle.gk_pickle.proofs.laws.scenarios_law.Goals as goal

pub returns : goal.returns
returns c = scenario_by_scenario
