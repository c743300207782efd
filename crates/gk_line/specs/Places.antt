-- Where the texts of a token are in their line.
use Rattle.std.specs.Prelude.{ℕ, ◌≡◌, ◌≤◌, ◌+◌, true, List, [], ◌∷◌, ◌++◌, length, ⊤}
use Rattle.std.specs.Char.{is_whitespace}
use Rattle.std.specs.List.{list_all}

-- The mark is in the line at this column, counted in characters from 1. After it, with white space between them at most, is
-- the text.
pub record IsAtColumn (line mark text : List ℕ) (column : ℕ) : Type 0 where
  pub front : List ℕ
  pub gap : List ℕ
  pub back : List ℕ
  pub parts : line ≡ front ++ (mark ++ (gap ++ (text ++ back)))
  pub is_gap : list_all is_whitespace gap ≡ true
  pub is_column : column ≡ length front + 1

-- The numbers rise strictly, from low on at least to high at most.
abbrev pub RiseWithin : ℕ → ℕ → List ℕ → Type 0
RiseWithin low high [] = ⊤
RiseWithin low high (n ∷ ns) = (low ≤ n) × (n ≤ high) × RiseWithin (n + 1) high ns
