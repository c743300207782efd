use Rattle.std.proofs.Common.{ap, map, refl, ◌∙◌}
use Rattle.cm_differs.specs.DuePickles.{due_cell}
use Rattle.gk_pickle.proofs.Made.{all_made, one_made}
use Rattle.cm_differs.proofs.difference.due_row.Goals as goal

pub loop-cell-preserved : goal.loop-cell-preserved
loop-cell-preserved c =
    one_made due_cell _ _ _ _ _ _ _ c.in_ok-push.ensures.ok (ap due_cell (c.in_ok-value.ensures ∙ c.as_str.ensures)) c.loop-cell-test.true c.cell-item.is c.loop-cell.invariant

pub returns : goal.returns
returns c =
    let made = all_made (map due_cell) c.loop-cell.row c.args.cells.now c.loop-cell.cell-index _ refl c.loop-cell-test.false c.loop-cell.invariant in
    λ i. record { cells = made i }
