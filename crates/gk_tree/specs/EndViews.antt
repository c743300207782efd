-- The last block, as the machine has it.
use Rattle.std.specs.Prelude.{List, [], ◌∷◌, Option, Some, None}
use Rattle.gk_grammar.specs.Machine as machine
use Rattle.gk_tree.specs.declared.blocks.FlatBlock.{FlatBlock}
use Rattle.gk_tree.specs.Views.{flat_block_of}

abbrev pub last_as_list : Option FlatBlock → List machine.FlatBlock
last_as_list None = []
last_as_list (Some c) = flat_block_of c ∷ []
