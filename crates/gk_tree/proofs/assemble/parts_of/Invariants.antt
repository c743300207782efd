use Rattle.std.proofs.Common.{◌≡◌, vec_len}
use Rattle.std.specs.Prelude.{map}
use Rattle.gk_grammar.specs.Assembly as assembly
use Rattle.gk_tree.specs.Views.{flat_block_of}
use Rattle.gk_tree.specs.Assembling.{parts_view, parts_after}
use Rattle.gk_tree.proofs.assemble.parts_of.Given as goal

abbrev pub decreases-loop-flat_block : goal.decreases-loop-flat_block
decreases-loop-flat_block l = vec_len l.flat_blocks

abbrev pub invariant-loop-flat_block : goal.invariant-loop-flat_block
invariant-loop-flat_block l = parts_after (map flat_block_of l.flat_blocks.items) (parts_view l.parts) ≡ assembly.parts_of (map flat_block_of l.fn.flat_blocks.items)
