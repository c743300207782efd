use Rattle.std.proofs.Common.{ap, map, refl, ◌∙◌}
use Rattle.cm_differs.specs.DuePickles.{due_row}
use Rattle.gk_pickle.proofs.Made.{all_made, one_made}
use Rattle.cm_differs.proofs.difference.due_rows.Goals as goal

pub loop-cells-preserved : goal.loop-cells-preserved
loop-cells-preserved c =
    one_made due_row _ _ _ _ _ _ _ c.in_ok-push.ensures.ok (c.in_ok-row.ensures ∙ ap due_row c.as_slice.ensures) c.loop-cells-test.true c.cells-item.is c.loop-cells.invariant

pub returns : goal.returns
returns c = all_made (map due_row) _ _ _ _ refl c.loop-cells-test.false c.loop-cells.invariant
