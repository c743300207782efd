use Rattle.cm_shown_laws.proofs.Points.{json_plain}
use Rattle.cm_shown_laws.proofs.laws.shown_json_is_plain.Goals as goal

pub returns : goal.returns
returns c = json_plain
