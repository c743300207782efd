-- Filling a text by its characters.
use Rattle.std.specs.Prelude.{◌≡◌, ℕ, List, map}
use Rattle.std.specs.List.{AllByRecursion}
use Rattle.std.specs.Str.{IsUtf8, chars}
use Rattle.gk_document.specs.declared.tree.Cell.{Cell}
use Rattle.gk_pickle.specs.Fill.{filled_text}

-- a cell with the characters of its value in place of their bytes
abbrev pub by_characters : Cell → Cell
by_characters c = record c { value = chars c.value }

abbrev pub HoldUtf8 : List Cell → Type 0
HoldUtf8 cells = AllByRecursion (λ c. IsUtf8 c.value) cells

-- the characters of the filled text are the filled characters of the text
abbrev pub FillsCharacters : Type 0
FillsCharacters =
    (text : List ℕ) (header row : List Cell) → IsUtf8 text → HoldUtf8 header → HoldUtf8 row
    → chars (filled_text text header row)
    ≡ filled_text (chars text) (map by_characters header) (map by_characters row)
