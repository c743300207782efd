use Rattle.std.proofs.Common.{refl}
use Rattle.std.specs.List.{flat_map}
use Rattle.gk_pickle.specs.Pickles.{examples_pickles}
use Rattle.gk_pickle.proofs.Made.{more_made}
use Rattle.gk_pickle.proofs.pickles.add_scenario.Goals as goal

pub loop-block-preserved : goal.loop-block-preserved
loop-block-preserved c =
    let pickles = examples_pickles c.args.inherited.now c.args.scenario.now in
    more_made (flat_map pickles) (pickles c.block-item.result) _ _ _ c.as_slice-examples.result.now c.loop-block.block-index c.block-item.result (λ _. refl)
    (rw c.as_slice.ensures at c.in_ok-add_table.ensures) c.loop-block-test.true c.block-item.is c.loop-block.invariant
