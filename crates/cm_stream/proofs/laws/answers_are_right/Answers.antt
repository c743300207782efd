use Rattle.cm_stream.proofs.ByGrammar.{answers_are_right_law}
use Rattle.cm_stream.proofs.laws.answers_are_right.Goals as goal

pub returns : goal.returns
returns c = answers_are_right_law
