use Rattle.cm_stream.proofs.Released.{released_exactly as streams, first_fault_releases as first}
use Rattle.cm_stream.proofs.laws.released_exactly.Goals as goal

pub returns-clause-streams : goal.returns-clause-streams
returns-clause-streams c = streams

pub returns-clause-first : goal.returns-clause-first
returns-clause-first c = first
