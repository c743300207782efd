use Rattle.cm_stream.proofs.Released.{released_is_not_held as law}
use Rattle.cm_stream.proofs.laws.released_is_not_held.Goals as goal

pub returns : goal.returns
returns c = law
