use Rattle.gk_laws.proofs.Fronts.{fronts_are_shown_holds}
use Rattle.gk_laws.proofs.laws.fronts_are_shown.Goals as goal

pub returns : goal.returns
returns c = fronts_are_shown_holds
