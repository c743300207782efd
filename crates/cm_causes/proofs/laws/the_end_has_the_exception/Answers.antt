use Rattle.cm_causes.proofs.Exceptions.{of_the_end}
use Rattle.cm_causes.proofs.laws.the_end_has_the_exception.Goals as goal

pub returns : goal.returns
returns c = of_the_end
