use Rattle.std.proofs.Common.{◌∙◌, map, refl}
use Rattle.gk_pickle.specs.Steps.{filled_row}
use Rattle.gk_pickle.proofs.Made.{all_made, one_made}
use Rattle.gk_pickle.proofs.filling.filled_rows.Goals as goal

pub loop-row-preserved : goal.loop-row-preserved
loop-row-preserved c =
    one_made (filled_row c.args.filling.now) _ _ _ c.args.rows.now c.loop-row.row-index c.row-item.result _ c.in_ok-push.ensures.items c.in_ok-cells.ensures c.loop-row-test.true
    c.row-item.is c.loop-row.invariant

pub returns : goal.returns
returns c =
    c.from.ensures
    ∙ all_made (map (filled_row c.args.filling.now)) _ c.args.rows.now c.loop-row.row-index _ refl c.loop-row-test.false c.loop-row.invariant
