use Rattle.std.proofs.Common.{◌≡◌, ◌++◌, map, drop}
use Rattle.serde_json.specs.View.{view}
use Rattle.cm_messages.specs.DocumentLayout.{cell_data}
use Rattle.gk_values.proofs.json.cells_value.Given as goal

abbrev pub invariant-loop-cell : goal.invariant-loop-cell
invariant-loop-cell l = map view l.values.items ++ map (cell_data l.line) (drop l.cell-index l.cells) ≡ map (cell_data l.line) l.cells
