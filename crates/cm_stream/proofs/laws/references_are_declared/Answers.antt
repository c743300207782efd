use Rattle.cm_stream.proofs.RedeclaredLaws.{references_declared as law}
use Rattle.cm_stream.proofs.laws.references_are_declared.Goals as goal

pub returns : goal.returns
returns c = law
