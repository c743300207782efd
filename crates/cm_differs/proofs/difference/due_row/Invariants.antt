use Rattle.std.proofs.Common.{◌≡◌, ◌++◌, map, drop}
use Rattle.cm_differs.specs.DuePickles.{due_cell}
use Rattle.cm_differs.proofs.difference.due_row.Given as goal

abbrev pub invariant-loop-cell : goal.invariant-loop-cell
invariant-loop-cell l = l.row ++ map due_cell (drop l.cell-index l.cells) ≡ map due_cell l.cells
