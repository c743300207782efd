use Rattle.std.proofs.Common.{◌≡◌, ◌++◌, map, drop}
use Rattle.gk_pickle.specs.Steps.{filled_row}
use Rattle.gk_pickle.proofs.filling.filled_rows.Given as goal

abbrev pub invariant-loop-row : goal.invariant-loop-row
invariant-loop-row l = l.table.items ++ map (filled_row l.filling) (drop l.row-index l.rows) ≡ map (filled_row l.filling) l.rows
