use Rattle.std.proofs.Common.{◌≡◌, ◌∙◌, sym, ap, refl, List, [], ◌∷◌, ◌++◌}
use Rattle.std.specs.Prelude.{map}
use Rattle.gk_grammar.specs.Assembly as assembly
use Rattle.gk_grammar.specs.Assembly.{no_parts, with_block}
use Rattle.gk_grammar.specs.Machine as machine
use Rattle.gk_tree.specs.declared.blocks.FlatBlock.{FlatBlock}
use Rattle.gk_tree.specs.Views.{flat_block_of}
use Rattle.gk_tree.specs.Assembling.{parts_view, parts_after}
use Rattle.gk_tree.proofs.assemble.parts_of.Goals as goal

after_nothing : (cs : List machine.FlatBlock) → parts_after cs no_parts ≡ assembly.parts_of cs
after_nothing [] = refl
after_nothing (c ∷ cs) = ap (λ (z : assembly.Parts). with_block c.block c z) (after_nothing cs)

one_before : (cs : List FlatBlock) (c : FlatBlock) (p : assembly.Parts) → parts_after (map flat_block_of (cs ++ c ∷ [])) p ≡ parts_after (map flat_block_of cs) (with_block c.block (flat_block_of c) p)
one_before [] c p = refl
one_before (x ∷ xs) c p = ap (λ (z : assembly.Parts). with_block x.block (flat_block_of x) z) (one_before xs c p)

pub loop-flat_block-init : goal.loop-flat_block-init
loop-flat_block-init c =
    rw c.new.ensures.items (rw c.new-2.ensures.items (rw c.new-3.ensures.items (after_nothing (map flat_block_of c.args.flat_blocks.items))))

pub loop-flat_block-preserved : goal.loop-flat_block-preserved
loop-flat_block-preserved c =
    let rest = c.pop.new.self.items in
    let later = parts_view c.loop-flat_block.parts in
    ap (λ (z : assembly.Parts). parts_after (map flat_block_of rest) z) c.in_ok-add_flat_block.ensures
    ∙ sym (one_before rest c.in-Some.flat_block later)
    ∙ ap (λ (z : List FlatBlock). parts_after (map flat_block_of z) later) (sym c.in-Some.ensures.items)
    ∙ c.loop-flat_block.invariant
