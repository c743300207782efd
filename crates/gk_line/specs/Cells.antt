-- The cells of a table row.
use Rattle.std.specs.Prelude.{ℕ, ◌≡◌, ◌+◌, ◌==◌, Bool, true, false, ◌&&◌, not, List, [], ◌∷◌, ◌++◌, map, if◌then◌else◌, Option, Some, None, length}
use Rattle.std.specs.Char.{is_whitespace}
use Rattle.std.specs.List.{prefix_len, slice_split, AllByRecursion}
use Rattle.gk_line.specs.Characters.{backslash, letter_n, line_feed, vertical_bar}

-- what a row is written in: a character by itself, or a pair of a backslash and another character, which means one
pub record CellUnit : Type 0 where
  pub meaning : ℕ
  pub is_pair : Bool

abbrev pub plain_unit : ℕ → CellUnit
plain_unit c = record { meaning = c; is_pair = false }

abbrev pub pair_unit : ℕ → CellUnit
pair_unit c = record { meaning = c; is_pair = true }

-- what a backslash and c mean: `\|` a bar, `\\` a backslash, `\n` a line feed
abbrev pub escape_meaning : ℕ → Option ℕ
escape_meaning c =
    if c == vertical_bar then Some vertical_bar
    else if c == backslash then Some backslash
    else if c == letter_n then Some line_feed
    else None

-- the units of a row, where a backslash before any other character is by itself
abbrev pub unit_or : Option ℕ → List CellUnit → List CellUnit → List CellUnit
unit_or None alone rest = alone
unit_or (Some c) alone rest = pair_unit c ∷ rest

unfoldable pub units : List ℕ → List CellUnit
units [] = []
units (c ∷ []) = plain_unit c ∷ []
units (c ∷ d ∷ cs) =
    unit_or (if c == backslash then escape_meaning d else None)
    (plain_unit c ∷ units (d ∷ cs)) (units cs)

-- the characters that the units mean
abbrev pub meanings : List CellUnit → List ℕ
meanings us = map (λ u. u.meaning) us

abbrev pub is_bar : CellUnit → Bool
is_bar u = not u.is_pair && u.meaning == vertical_bar

abbrev pub is_space : CellUnit → Bool
is_space u = not u.is_pair && is_whitespace u.meaning

-- how many characters write the units
abbrev pub width : CellUnit → ℕ
width u = if u.is_pair then 2 else 1

abbrev pub widths : List CellUnit → ℕ
widths [] = 0
widths (u ∷ us) = width u + widths us

-- the units without the white space at their start, and at their end
abbrev pub skip_spaces : List CellUnit → List CellUnit
skip_spaces [] = []
skip_spaces (u ∷ us) = if is_space u then skip_spaces us else u ∷ us

abbrev pub drop_spaces : List CellUnit → List CellUnit
drop_spaces [] = []
drop_spaces (u ∷ us) = if is_space u && length (drop_spaces us) == 0 then [] else u ∷ drop_spaces us

pub record CellText : Type 0 where
  pub value : List ℕ
  pub column : ℕ

-- the cell that is written in these units from this column on: its own column is that of the first unit that is no space,
-- and where there is none, of the bar that follows
abbrev pub cell_at : ℕ → List CellUnit → CellText
cell_at column part = record {
  value = meanings (drop_spaces (skip_spaces part));
  column = column + prefix_len is_space part;
}

-- the cells of the parts that a bar follows
abbrev pub cells_from : ℕ → List (List CellUnit) → List CellText
cells_from column [] = []
cells_from column (part ∷ []) = []
cells_from column (part ∷ next ∷ more) =
    cell_at column part ∷ cells_from (column + widths part + 1) (next ∷ more)

abbrev pub without_first : {X : Type 0} → List X → List X
without_first [] = []
without_first (x ∷ xs) = xs

-- the cells of a row: what is before its first bar is no cell
unfoldable pub cells_of : List ℕ → List CellText
cells_of line = without_first (cells_from 1 (slice_split is_bar (units line)))

-- none of the units is a bar
abbrev pub NoBar : List CellUnit → Type 0
NoBar us = AllByRecursion (λ u. is_bar u ≡ false) us

-- part and rest are what is before and after the first bar
pub record IsCutAtBar (row part rest : List CellUnit) : Type 0 where
  pub parts : row ≡ part ++ plain_unit vertical_bar ∷ rest
  pub first : NoBar part
