use Rattle.std.proofs.Common.{◌≡◌, ◌++◌, map, drop}
use Rattle.gk_pickle.specs.Steps.{filled_by, filled_row}
use Rattle.gk_pickle.proofs.filling.filled_cells.Given as goal

abbrev pub invariant-loop-cell : goal.invariant-loop-cell
invariant-loop-cell l = l.texts.items ++ map (λ c. filled_by l.filling c.value) (drop l.cell-index l.cell-items) ≡ filled_row l.filling l.row
