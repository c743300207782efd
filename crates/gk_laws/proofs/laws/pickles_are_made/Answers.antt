use Rattle.gk_laws.proofs.PickleScenarios.{pickles_are_made_holds}
use Rattle.gk_laws.proofs.laws.pickles_are_made.Goals as goal

pub returns : goal.returns
returns c = pickles_are_made_holds
