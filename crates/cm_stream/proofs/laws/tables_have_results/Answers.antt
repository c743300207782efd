use Rattle.cm_stream.proofs.Tables.{tables_have_results as law}
use Rattle.cm_stream.proofs.laws.tables_have_results.Goals as goal

pub returns : goal.returns
returns c = law
