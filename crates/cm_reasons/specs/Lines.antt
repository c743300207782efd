-- Lines below one another, a hundred at most.
use Rattle.std.specs.Prelude.{ℕ, ◌-◌, ◌==◌, List, [], ◌∷◌, ◌++◌, codes, decimal, if◌then◌else◌, length, take}
use Rattle.std.specs.List.{flat_map}
use Rattle.cm_envelope.specs.Lines.{line_feed}

-- the lines, each with its end
abbrev pub text_of_lines : List (List ℕ) → List ℕ
text_of_lines lines = flat_map (λ line. line ++ line_feed ∷ []) lines

-- how many lines of a kind are shown
abbrev pub most_lines : ℕ
most_lines = 100

-- `and N more`, where there are any
abbrev pub more_text : ℕ → List ℕ
more_text n =
    if n == 0 then [] else (codes "and " ++ decimal n ++ codes " more" ++ line_feed ∷ [])

-- the first hundred of the lines, and how many more there are
abbrev pub limited_text : List (List ℕ) → List ℕ
limited_text lines = text_of_lines (take most_lines lines) ++ more_text (length lines - most_lines)
