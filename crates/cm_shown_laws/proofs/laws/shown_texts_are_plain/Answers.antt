use Rattle.cm_shown_laws.proofs.Points.{texts_plain}
use Rattle.cm_shown_laws.proofs.laws.shown_texts_are_plain.Goals as goal

pub returns : goal.returns
returns c = texts_plain
