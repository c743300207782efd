use Rattle.cm_stream.proofs.Tables.{well_ordered_are_accepted as law}
use Rattle.cm_stream.proofs.laws.well_ordered_are_accepted.Goals as goal

pub returns : goal.returns
returns c = law
