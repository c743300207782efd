use Rattle.std.proofs.Common.{◌≡◌, ◌++◌, drop, map}
use Rattle.gk_parts.specs.Parts.{RowPart, part_view}
use Rattle.gk_parts.proofs.listing.add_rows.Given as goal

abbrev pub invariant-loop-row : goal.invariant-loop-row
invariant-loop-row l =
    map part_view l.made.items ++ map RowPart (drop l.row-index l.rows) ≡ map part_view l.initial.made.items ++ map RowPart l.rows
