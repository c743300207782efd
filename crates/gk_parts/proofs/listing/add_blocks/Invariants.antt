use Rattle.std.proofs.Common.{◌≡◌, ◌++◌, drop, map}
use Rattle.std.specs.List.{flat_map}
use Rattle.gk_parts.specs.Parts.{part_view, examples_parts}
use Rattle.gk_parts.proofs.listing.add_blocks.Given as goal

abbrev pub invariant-loop-block : goal.invariant-loop-block
invariant-loop-block l =
    map part_view l.made.items ++ flat_map examples_parts (drop l.block-index l.blocks)
    ≡ map part_view l.initial.made.items ++ flat_map examples_parts l.blocks
