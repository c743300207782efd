use Rattle.cm_stream.proofs.Tables.{tables_change as law}
use Rattle.cm_stream.proofs.laws.tables_change.Goals as goal

pub returns : goal.returns
returns c = law
