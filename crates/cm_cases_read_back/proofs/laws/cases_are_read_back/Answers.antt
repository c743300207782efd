use Rattle.cm_cases_read_back.proofs.Cases.{cases_are_back}
use Rattle.cm_cases_read_back.proofs.laws.cases_are_read_back.Goals as goal

pub returns : goal.returns
returns c = cases_are_back
