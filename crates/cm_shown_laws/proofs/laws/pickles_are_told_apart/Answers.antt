use Rattle.cm_shown_laws.proofs.ToldLines.{pickles_told_apart}
use Rattle.cm_shown_laws.proofs.laws.pickles_are_told_apart.Goals as goal

pub returns : goal.returns
returns c = pickles_told_apart
