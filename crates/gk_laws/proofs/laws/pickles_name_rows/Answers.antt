use Rattle.gk_laws.proofs.PickleRows.{pickles_name_rows_holds}
use Rattle.gk_laws.proofs.laws.pickles_name_rows.Goals as goal

pub returns : goal.returns
returns c = pickles_name_rows_holds
