-- Filling a text from a row of examples.
use Rattle.std.specs.Prelude.{ℕ, zero, suc, ◌-◌, List, [], ◌∷◌, ◌++◌, length, nat_eq, if◌then◌else◌, codes}
use Rattle.std.specs.List.{starts_with}
use Rattle.gk_document.specs.declared.tree.Cell.{Cell}

-- how a text names a header cell's value: `<value>`
abbrev pub placeholder : List ℕ → List ℕ
placeholder name = codes "<" ++ name ++ codes ">"

-- the text after `covered` bytes of an occurrence, with a cell in the place of each leftmost occurrence of the pattern
-- that overlaps none before it
unfoldable pub replaced_after : ℕ → List ℕ → List ℕ → List ℕ → List ℕ
replaced_after covered pattern cell [] = []
replaced_after (suc covered) pattern cell (b ∷ bs) = replaced_after covered pattern cell bs
replaced_after zero pattern cell (b ∷ bs) =
    if starts_with nat_eq (b ∷ bs) pattern
    then cell ++ replaced_after (length pattern - 1) pattern cell bs
    else b ∷ replaced_after 0 pattern cell bs

abbrev pub replaced_text : List ℕ → List ℕ → List ℕ → List ℕ
replaced_text pattern cell text = replaced_after 0 pattern cell text

-- Column by column, each `<header>` in the text so far is replaced by the row's cell (Cucumber's Gherkin reference,
-- "Scenario Outline"). Columns that only the header or only the row has fill nothing.
abbrev pub filled_text : List ℕ → List Cell → List Cell → List ℕ
filled_text text [] row = text
filled_text text (name ∷ names) [] = text
filled_text text (name ∷ names) (cell ∷ cells) =
    filled_text (replaced_text (placeholder name.value) cell.value text) names cells
