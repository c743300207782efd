use Rattle.cm_shown_laws.proofs.Points.{unlike_shown}
use Rattle.cm_shown_laws.proofs.laws.unlike_texts_are_shown_unlike.Goals as goal

pub returns : goal.returns
returns c = unlike_shown
