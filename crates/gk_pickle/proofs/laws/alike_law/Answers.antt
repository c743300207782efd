use Rattle.gk_pickle.proofs.Alike.{rows_compile_alike}
use Rattle.gk_pickle.proofs.laws.alike_law.Goals as goal

pub returns : goal.returns
returns c = rows_compile_alike
