use Rattle.cm_shown_laws.proofs.Found.{scenarios_found}
use Rattle.cm_shown_laws.proofs.laws.scenarios_are_found.Goals as goal

pub returns : goal.returns
returns c = scenarios_found
