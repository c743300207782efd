use Rattle.std.proofs.Common.{◌≡◌, ◌++◌, length, drop}
use Rattle.std.specs.Str.{chars}
use Rattle.std.specs.String.{string_bytes}
use Rattle.gk_line.specs.Cells.{units, meanings}
use Rattle.gk_line.proofs.UnitLemmas.{run}
use Rattle.gk_line.proofs.rows.unescape_cell_units.Given as goal

abbrev pub invariant-loop-c : goal.invariant-loop-c
invariant-loop-c l =
    chars (string_bytes l.value) ++ meanings (run (drop (length l.yielded) (chars l.text)) l.escaped) ≡ meanings (units (chars l.text))
