use Rattle.cm_stream.proofs.Tables.{fronts_are_well_ordered as law}
use Rattle.cm_stream.proofs.laws.fronts_are_well_ordered.Goals as goal

pub returns : goal.returns
returns c = law
