use Rattle.std.proofs.Common.{◌∙◌, ap, map, refl}
use Rattle.serde_json.specs.Data.{array}
use Rattle.serde_json.specs.View.{items_of}
use Rattle.serde_json.proofs.Views.{view-Array}
use Rattle.cm_messages.specs.DocumentLayout.{cell_data}
use Rattle.gk_pickle.proofs.Made.{all_made}
use Rattle.gk_values.proofs.Written.{one_written}
use Rattle.gk_values.proofs.json.cells_value.Goals as goal

pub loop-cell-preserved : goal.loop-cell-preserved
loop-cell-preserved c =
    one_written (cell_data c.args.line) _ _ _ _ _ _ _ c.in_ok-push.ensures.items c.in_ok-value.ensures c.loop-cell-test.true c.cell-item.is c.loop-cell.invariant

pub returns : goal.returns
returns c =
    view-Array c.loop-cell.values
    ∙ ap (λ ds. array (items_of ds)) (all_made (map (cell_data c.args.line)) _ c.args.cells.now c.loop-cell.cell-index _ refl c.loop-cell-test.false c.loop-cell.invariant)
