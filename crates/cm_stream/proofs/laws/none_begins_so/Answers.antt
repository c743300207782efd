use Rattle.cm_stream.proofs.ByGrammar.{none_begins_so as law}
use Rattle.cm_stream.proofs.laws.none_begins_so.Goals as goal

pub returns : goal.returns
returns c = law
