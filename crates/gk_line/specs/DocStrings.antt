-- The text of a line inside a doc string.
use Rattle.std.specs.Prelude.{ℕ, List, [], ◌∷◌, drop, if◌then◌else◌, nat_lt, zero, suc, is_some}
use Rattle.gk_line.specs.Texts.{text_after_indent, after}
use Rattle.gk_line.specs.Tokens.{indent_of}
use Rattle.gk_document.specs.declared.tree.Fence.{Fence}
use Rattle.gk_document.specs.Fences.{fence_mark}
use Rattle.gk_line.specs.Characters.{backslash}

-- the line without as many leading characters as the opening line's indent has, or without its own indent where that is less
unfoldable pub outdented_line : ℕ → List ℕ → List ℕ
outdented_line indent line =
    if nat_lt (indent_of line) indent then text_after_indent line else drop indent line

-- a fence with a backslash before each character
abbrev pub escaped_mark : ℕ → List ℕ
escaped_mark mark = backslash ∷ mark ∷ backslash ∷ mark ∷ backslash ∷ mark ∷ []

-- the text with the fence in place of each escaped fence, left to right; `skip` characters are of a fence already
abbrev pub fences_unescaped : ℕ → ℕ → List ℕ → List ℕ
fences_unescaped mark skip [] = []
fences_unescaped mark (suc skip) (c ∷ cs) = fences_unescaped mark skip cs
fences_unescaped mark zero (c ∷ cs) =
    if is_some (after (escaped_mark mark) (c ∷ cs))
    then mark ∷ mark ∷ mark ∷ fences_unescaped mark 5 cs
    else c ∷ fences_unescaped mark 0 cs

unfoldable pub doc_line_of : Fence → ℕ → List ℕ → List ℕ
doc_line_of fence indent line = fences_unescaped (fence_mark fence) 0 (outdented_line indent line)
