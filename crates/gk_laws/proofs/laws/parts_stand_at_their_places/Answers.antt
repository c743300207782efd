use Rattle.gk_laws.proofs.MarkPlaces.{parts_stand_holds}
use Rattle.gk_laws.proofs.laws.parts_stand_at_their_places.Goals as goal

pub returns : goal.returns
returns c = parts_stand_holds
