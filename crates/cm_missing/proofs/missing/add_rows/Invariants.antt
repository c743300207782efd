use Rattle.std.proofs.Common.{◌≡◌, ◌++◌, take}
use Rattle.cm_missing.specs.PickleLines.{row_lines}
use Rattle.cm_missing.proofs.missing.add_rows.Given as goal

abbrev pub invariant-loop-row : goal.invariant-loop-row
invariant-loop-row l = l.lines.items ≡ l.fn.lines.items ++ row_lines (take l.row-index l.row-items)
