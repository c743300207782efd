use Rattle.cm_shown_laws.proofs.ToldApart.{parts_unlike}
use Rattle.cm_shown_laws.proofs.laws.unlike_parts_are_shown_unlike.Goals as goal

pub returns : goal.returns
returns c = parts_unlike
