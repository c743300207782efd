use Rattle.gk_laws.proofs.MarkPlaces.{parts_in_order_holds}
use Rattle.gk_laws.proofs.laws.parts_come_in_order.Goals as goal

pub returns : goal.returns
returns c = parts_in_order_holds
