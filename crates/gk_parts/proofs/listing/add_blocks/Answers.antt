use Rattle.std.proofs.Common.{refl}
use Rattle.std.specs.List.{flat_map}
use Rattle.gk_parts.specs.Parts.{examples_parts}
use Rattle.gk_parts.proofs.Adding.{one_added, all_added}
use Rattle.gk_parts.proofs.listing.add_blocks.Goals as goal

pub loop-block-preserved : goal.loop-block-preserved
loop-block-preserved c =
    one_added (flat_map examples_parts) (examples_parts c.block-item.result) _ _ _ c.args.blocks.now c.loop-block.block-index c.block-item.result
    (λ _. refl) c.in_ok-add_examples.ensures c.loop-block-test.true c.block-item.is c.loop-block.invariant

pub returns : goal.returns
returns c = all_added (flat_map examples_parts) _ _ c.args.blocks.now c.loop-block.block-index refl c.loop-block-test.false c.loop-block.invariant
