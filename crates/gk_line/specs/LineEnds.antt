-- The lines of a text as what lies between its line ends.
use Rattle.std.specs.Prelude.{ℕ, ◌≡◌, ◌≢◌, ◌==◌, List, [], ◌∷◌, ◌++◌, map, ⊤}
use Rattle.std.specs.List.{AllByRecursion, enumerate_from}
use Rattle.std.specs.Str.{NonePass}
use Rattle.gk_line.specs.Characters.{line_feed, carriage_return}
use Rattle.gk_line.specs.Lines.{without_mark, lines_of}

-- what ends a line; the end of the text ends one too
pub data LineEnd : Type 0 where
  EndOfText : LineEnd
  LineFeed : LineEnd
  ReturnAndFeed : LineEnd

abbrev pub end_text : LineEnd → List ℕ
end_text EndOfText = []
end_text LineFeed = line_feed ∷ []
end_text ReturnAndFeed = carriage_return ∷ line_feed ∷ []

-- lines with their ends, one after another
abbrev pub joined_lines : List (List ℕ × LineEnd) → List ℕ
joined_lines [] = []
joined_lines (cut ∷ rest) = cut.0 ++ (end_text cut.1 ++ joined_lines rest)

-- Whether a line with this end may come before the rest. Only the last line may end with the text, and then it is not
-- empty. A line that a line feed alone ends does not end in a carriage return, since that would be of the end.
abbrev pub EndFits : LineEnd → List ℕ → List (List ℕ × LineEnd) → Type 0
EndFits EndOfText line rest = (line ≢ []) × (rest ≡ [])
EndFits LineFeed line rest = (front : List ℕ) → line ≢ front ++ carriage_return ∷ []
EndFits ReturnAndFeed line rest = ⊤

abbrev pub EndsFit : List (List ℕ × LineEnd) → Type 0
EndsFit [] = ⊤
EndsFit (cut ∷ rest) = EndFits cut.1 cut.0 rest × EndsFit rest

-- these are the lines of the text, with their ends
pub record AreLines (text : List ℕ) (cuts : List (List ℕ × LineEnd)) : Type 0 where
  pub whole : text ≡ joined_lines cuts
  pub no_line_feed : AllByRecursion (λ cut. NonePass (λ c. c == line_feed) cut.0) cuts
  pub ends : EndsFit cuts

abbrev pub line_texts : List (List ℕ × LineEnd) → List (List ℕ)
line_texts cuts = map (λ cut. cut.0) cuts

-- each text can be cut to lines with their ends, and the lines of a text are those
abbrev pub LinesAreCut : Type 0
LinesAreCut =
    (text : List ℕ) → (cuts : List (List ℕ × LineEnd)) × AreLines (without_mark text) cuts
    × (lines_of text ≡ enumerate_from 1 (line_texts cuts))

-- in one way only
abbrev pub CutIsOne : Type 0
CutIsOne =
    (text : List ℕ) (cuts : List (List ℕ × LineEnd)) → AreLines (without_mark text) cuts
    → lines_of text ≡ enumerate_from 1 (line_texts cuts)
