use Rattle.std.proofs.Common.{◌≡◌}
use Rattle.std.specs.Prelude.{find}
use Rattle.text_rows.specs.Rows.{begins_with}
use Rattle.text_rows.proofs.rows.TextRows.find.Given as goal

abbrev pub invariant-loop-row : goal.invariant-loop-row
invariant-loop-row l = find (begins_with l.text) l.row-iterator ≡ find (begins_with l.text) l.self
