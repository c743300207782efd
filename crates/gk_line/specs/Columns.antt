-- The columns of the tags and of the cells of one line.
use Rattle.std.specs.Prelude.{ℕ, List, map, length}
use Rattle.gk_line.specs.Tags.{tags_of}
use Rattle.gk_line.specs.Cells.{cells_of}
use Rattle.gk_line.specs.Places.{RiseWithin}

-- the columns of a line's tags rise strictly, and lie within the line
abbrev pub TagColumnsRise : Type 0
TagColumnsRise =
    (line : List ℕ) → RiseWithin 1 (length line) (map (λ tag. tag.column) (tags_of line))

-- so do those of its cells
abbrev pub CellColumnsRise : Type 0
CellColumnsRise =
    (line : List ℕ) → RiseWithin 1 (length line) (map (λ cell. cell.column) (cells_of line))
