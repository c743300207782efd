use Rattle.cm_stream.proofs.ResultsFaults.{troubles_are_last as law}
use Rattle.cm_stream.proofs.laws.results_troubles_are_last.Goals as goal

pub returns : goal.returns
returns c = law
