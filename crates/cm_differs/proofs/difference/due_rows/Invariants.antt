use Rattle.std.proofs.Common.{◌≡◌, ◌++◌, map, drop}
use Rattle.cm_differs.specs.DuePickles.{due_row}
use Rattle.cm_differs.proofs.difference.due_rows.Given as goal

abbrev pub invariant-loop-cells : goal.invariant-loop-cells
invariant-loop-cells l = l.table ++ map due_row (drop l.cells-index l.rows) ≡ map due_row l.rows
