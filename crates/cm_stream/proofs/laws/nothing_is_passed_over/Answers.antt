use Rattle.cm_stream.proofs.RedeclaredLaws.{nothing_is_passed_over as law}
use Rattle.cm_stream.proofs.laws.nothing_is_passed_over.Goals as goal

pub returns : goal.returns
returns c = law
