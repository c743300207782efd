use Rattle.cm_shown_laws.proofs.ToldLines.{trees_told_apart}
use Rattle.cm_shown_laws.proofs.laws.trees_are_told_apart.Goals as goal

pub returns : goal.returns
returns c = trees_told_apart
