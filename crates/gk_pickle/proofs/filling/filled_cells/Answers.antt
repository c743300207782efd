use Rattle.std.proofs.Common.{◌∙◌, ap, map, refl}
use Rattle.gk_document.specs.declared.tree.Cell.{Cell}
use Rattle.gk_pickle.specs.Steps.{filled_by}
use Rattle.gk_pickle.proofs.Made.{all_made, one_made}
use Rattle.gk_pickle.proofs.filling.filled_cells.Goals as goal

pub loop-cell-preserved : goal.loop-cell-preserved
loop-cell-preserved c =
    let filling = c.args.filling.now in
    one_made (λ (cell : Cell). filled_by filling cell.value) _ _ _ c.as_slice-cell-items.result.now c.loop-cell.cell-index c.cell-item.result _ c.in_ok-push.ensures.items
    (c.in_ok-text.ensures ∙ ap (filled_by filling) c.as_str.ensures) c.loop-cell-test.true c.cell-item.is c.loop-cell.invariant

pub returns : goal.returns
returns c =
    c.from.ensures
    ∙ all_made (map (λ (cell : Cell). filled_by c.args.filling.now cell.value)) _ c.as_slice-cell-items.result.now c.loop-cell.cell-index _ refl c.loop-cell-test.false
    c.loop-cell.invariant
