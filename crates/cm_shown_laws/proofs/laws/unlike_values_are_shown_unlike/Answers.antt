use Rattle.cm_shown_laws.proofs.ToldApart.{values_unlike}
use Rattle.cm_shown_laws.proofs.laws.unlike_values_are_shown_unlike.Goals as goal

pub returns : goal.returns
returns c = values_unlike
