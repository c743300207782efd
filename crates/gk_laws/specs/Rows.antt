-- A row as its units write it, and as its bars cut it.
use Rattle.std.specs.Prelude.{◌≡◌, ◌==◌, ◌+◌, ◌⊎◌, ◌↔◌, ℕ, true, List, [], ◌∷◌, ◌++◌, if◌then◌else◌, codes, length}
use Rattle.std.specs.List.{AllByRecursion, flat_map, list_all}
use Rattle.gk_line.specs.Cells.{CellUnit, plain_unit, units, is_space, widths, meanings, CellText, cell_at, cells_of, NoBar}
use Rattle.gk_line.specs.Characters.{backslash, letter_n, line_feed, vertical_bar}
use Rattle.gk_line.specs.Tokens.{begins_by}
use Rattle.gk_laws.specs.Trimming.{IsTrimmed}

abbrev pub Units : Type 0
Units = List CellUnit

-- ---- units

-- the characters that write a unit: its own, or a backslash and another, `n` for a line feed
abbrev pub unit_text : CellUnit → List ℕ
unit_text u =
    if u.is_pair
    then backslash ∷ (if u.meaning == line_feed then letter_n else u.meaning) ∷ []
    else u.meaning ∷ []

-- a pair means a bar, a backslash or a line feed
abbrev pub IsUnit : CellUnit → Type 0
IsUnit u =
    u.is_pair ≡ true
    → (u.meaning ≡ vertical_bar) ⊎ (u.meaning ≡ backslash) ⊎ (u.meaning ≡ line_feed)

-- a backslash before one of these is of a pair
abbrev pub MakesPair : ℕ → Type 0
MakesPair c = (c ≡ vertical_bar) ⊎ (c ≡ backslash) ⊎ (c ≡ letter_n)

-- the units write the text, and no backslash by itself is before a character that makes it a pair
pub record AreUnits (text : List ℕ) (us : Units) : Type 0 where
  pub whole : text ≡ flat_map unit_text us
  pub each : AllByRecursion IsUnit us
  pub no_pair_is_left : (front back : Units) (c : ℕ) (rest : List ℕ)
      → us ≡ front ++ plain_unit backslash ∷ back → flat_map unit_text back ≡ c ∷ rest
      → MakesPair c → ⊥

-- the units of a text are the one list that this holds of
abbrev pub UnitsWriteTexts : Type 0
UnitsWriteTexts = (text : List ℕ) (us : Units) → (units text ≡ us) ↔ AreUnits text us

-- ---- cells

abbrev pub bar : CellUnit
bar = plain_unit vertical_bar

-- units and the bar after them
abbrev pub closed_cell : Units → Units
closed_cell us = us ++ bar ∷ []

-- The units of a row: white space, a bar, cells with a bar after each, and a rest. There is no
-- other bar: one that is written with a backslash is a pair.
pub record IsRowCut (row indent : Units) (cells : List Units) (rest : Units) : Type 0 where
  pub whole : row ≡ indent ++ bar ∷ (flat_map closed_cell cells ++ rest)
  pub is_indent : list_all is_space indent ≡ true
  pub no_bar_in_cells : AllByRecursion NoBar cells
  pub no_bar_in_rest : NoBar rest

-- what these cells say, with their columns, where all of `before` is in the row before them
abbrev pub cells_after : Units → List Units → List CellText
cells_after before [] = []
cells_after before (cell ∷ cells) =
    cell_at (widths before + 1) cell ∷ cells_after (before ++ closed_cell cell) cells

-- a line is a row exactly where its units can be cut so
abbrev pub RowsAreCut : Type 0
RowsAreCut =
    (line : List ℕ) → (begins_by (codes "|") line ≡ true)
    ↔ ((indent : Units) × (cells : List Units) × (rest : Units)
    × IsRowCut (units line) indent cells rest)

-- in one way only
abbrev pub RowCutIsOne : Type 0
RowCutIsOne =
    (row indent other_indent : Units) (cells other_cells : List Units) (rest other_rest : Units)
    → IsRowCut row indent cells rest → IsRowCut row other_indent other_cells other_rest
    → (indent ≡ other_indent) × (cells ≡ other_cells) × (rest ≡ other_rest)

-- the cells of a row are what its bars cut
abbrev pub CellsAreCut : Type 0
CellsAreCut =
    (line : List ℕ) (indent : Units) (cells : List Units) (rest : Units)
    → IsRowCut (units line) indent cells rest
    → cells_of line ≡ cells_after (closed_cell indent) cells

-- a cell's value is what its units mean without the white space at both ends, and its column is
-- where they begin; where there are none, all of the cell is before it
abbrev pub CellsAreTrimmed : Type 0
CellsAreTrimmed =
    (column : ℕ) (cell : Units) (text : CellText) → (cell_at column cell ≡ text)
    ↔ ((front : Units) × (said : Units) × IsTrimmed is_space cell front said
    × (text.value ≡ meanings said) × (text.column ≡ column + length front))
