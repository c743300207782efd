use Rattle.cm_stream.proofs.Reasons.{reasons_are_shown as law}
use Rattle.cm_stream.proofs.laws.reasons_are_shown.Goals as goal

pub returns : goal.returns
returns c = law
