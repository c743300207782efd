-- What comes after a block, in the grammar's terms, and the parts of blocks before it.
use Rattle.std.specs.Prelude.{List, [], ◌∷◌, reverse}
use Rattle.gk_grammar.specs.Assembly as assembly
use Rattle.gk_grammar.specs.Assembly.{with_block}
use Rattle.gk_grammar.specs.Machine as machine
use Rattle.gk_tree.specs.declared.assemble.Parts.{Parts}

-- the lists front to back
abbrev pub parts_view : Parts → assembly.Parts
parts_view p =
    record {
      examples = reverse p.examples.items;
      background = p.background;
      scenarios = reverse p.scenarios.items;
      rules = reverse p.rules.items;
    }

-- the parts with these blocks before them
abbrev pub parts_after : List machine.FlatBlock → assembly.Parts → assembly.Parts
parts_after [] p = p
parts_after (c ∷ cs) p = with_block c.block c (parts_after cs p)
