use Rattle.cm_state.proofs.Judged.{judged_is_told_law as law}
use Rattle.cm_state.proofs.laws.judged_is_told.Goals as goal

pub returns : goal.returns
returns c = law
