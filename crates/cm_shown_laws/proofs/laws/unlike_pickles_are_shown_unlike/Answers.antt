use Rattle.cm_shown_laws.proofs.ToldApart.{pickles_unlike}
use Rattle.cm_shown_laws.proofs.laws.unlike_pickles_are_shown_unlike.Goals as goal

pub returns : goal.returns
returns c = pickles_unlike
