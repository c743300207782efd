use Rattle.std.proofs.Common.{refl}
use Rattle.cm_cases.proofs.FirstLemmas.{one_first}
use Rattle.cm_cases.proofs.places.firsts_of.Goals as goal

pub loop-item-preserved : goal.loop-item-preserved
loop-item-preserved g c =
    one_first (λ x. x.now) (λ x. x) g.K.Key.text c.args.items.now c.loop-item.item-index c.item-item.result c.loop-item.map c.add_first.new.map c.of.result.now _
    c.loop-item-test.true c.item-item.is c.of.ensures refl c.loop-item.invariant c.in_ok-add_first.ensures
