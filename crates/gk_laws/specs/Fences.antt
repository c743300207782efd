-- A line inside a doc string as escaped fences cut it.
use Rattle.std.specs.Prelude.{◌≡◌, ◌≤◌, ◌⊎◌, ◌↔◌, ℕ, List, ◌++◌, length}
use Rattle.gk_document.specs.declared.tree.Fence.{Fence}
use Rattle.gk_document.specs.Fences.{fence_characters, fence_mark}
use Rattle.gk_line.specs.DocStrings.{doc_line_of, escaped_mark, fences_unescaped, outdented_line}
use Rattle.gk_line.specs.Tokens.{indent_of}
use Rattle.gk_pickle.specs.Cut.{IsCut, joined_parts}
use Rattle.gk_laws.specs.Trimming.{IsSpace}

-- the fence with a backslash before each character
abbrev pub escaped_fence : Fence → List ℕ
escaped_fence fence = escaped_mark (fence_mark fence)

-- The text is cut at the leftmost escaped fences that don't overlap, and the fence joins the parts
-- to what it says.
pub record IsUnescaped (fence : Fence) (text said : List ℕ) : Type 0 where
  pub part : List ℕ
  pub others : List (List ℕ)
  pub is_cut : IsCut (escaped_fence fence) text part others
  pub is_joined : said ≡ joined_parts (fence_characters fence) part others

-- the line has lost white space at its start: as much as the indent, or all where that is less
pub record IsOutdented (indent : ℕ) (line kept : List ℕ) : Type 0 where
  pub lost : List ℕ
  pub whole : line ≡ lost ++ kept
  pub is_space : IsSpace lost
  pub at_most : length lost ≤ indent
  pub no_less : (length lost ≡ indent) ⊎ (indent_of kept ≡ 0)

-- what a text is with its fences unescaped is the one text that this holds of
abbrev pub FencesCutTexts : Type 0
FencesCutTexts =
    (fence : Fence) (text said : List ℕ)
    → (fences_unescaped (fence_mark fence) 0 text ≡ said) ↔ IsUnescaped fence text said

-- what is left of a line without the indent is the one text that this holds of
abbrev pub IndentIsLost : Type 0
IndentIsLost =
    (indent : ℕ) (line kept : List ℕ)
    → (outdented_line indent line ≡ kept) ↔ IsOutdented indent line kept

-- a line of a doc string says what is left of it without the indent, with its fences unescaped
abbrev pub DocLinesAreRead : Type 0
DocLinesAreRead =
    (fence : Fence) (indent : ℕ) (line said : List ℕ)
    → (doc_line_of fence indent line ≡ said)
    ↔ ((kept : List ℕ) × IsOutdented indent line kept × IsUnescaped fence kept said)
