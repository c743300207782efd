-- The lines of a text, each the list of its characters.
use Rattle.std.specs.Prelude.{ℕ, ◌==◌, List, [], ◌∷◌, if◌then◌else◌}
use Rattle.std.specs.List.{enumerate_from}
use Rattle.std.specs.Str.Lines.{lines}
use Rattle.gk_line.specs.Characters.{byte_order_mark}

-- the text without one byte order mark at its front
unfoldable pub without_mark : List ℕ → List ℕ
without_mark [] = []
without_mark (c ∷ cs) = if c == byte_order_mark then cs else c ∷ cs

-- the lines of a text, numbered from n on: the parts between line feeds, where an empty last part is no line
-- and a part before a line feed loses one carriage return at its end
unfoldable pub numbered_lines : ℕ → List ℕ → List (ℕ × List ℕ)
numbered_lines n text = enumerate_from n (lines text)

unfoldable pub lines_of : List ℕ → List (ℕ × List ℕ)
lines_of text = numbered_lines 1 (without_mark text)
