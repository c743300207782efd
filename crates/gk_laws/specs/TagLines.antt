-- A tag line as its pieces.
use Rattle.std.specs.Prelude.{◌≡◌, ◌==◌, ◌≤◌, ◌+◌, ◌⊎◌, ◌↔◌, ℕ, true, List, [], ◌∷◌, ◌++◌, length}
use Rattle.std.specs.Char.{is_whitespace}
use Rattle.std.specs.List.{AllByRecursion, flat_map}
use Rattle.std.specs.Str.{NonePass}
use Rattle.gk_line.specs.Characters.{at_sign, number_sign}
use Rattle.gk_line.specs.Tags.{TagWord, piece_at, tag_pieces, uncommented_line}

-- white space that `#` follows at once, and any text
abbrev pub BeginsComment : List ℕ → Type 0
BeginsComment text =
    (c : ℕ) × (more : List ℕ) × (text ≡ c ∷ number_sign ∷ more) × (is_whitespace c ≡ true)

-- what is kept of the line goes up to where a comment first begins in it, or to its end
pub record IsUncommented (line kept : List ℕ) : Type 0 where
  pub comment : List ℕ
  pub whole : line ≡ kept ++ comment
  pub is_comment : (comment ≡ []) ⊎ BeginsComment comment
  pub first : (before after : List ℕ) → line ≡ before ++ after → BeginsComment after
      → length kept ≤ length before

-- the text has no `@`
abbrev pub HasNoMark : List ℕ → Type 0
HasNoMark text = NonePass (λ c. c == at_sign) text

abbrev pub after_mark : List ℕ → List ℕ
after_mark piece = at_sign ∷ piece

-- the text is what is before the first `@`, and pieces with an `@` before each
pub record IsTagged (text before : List ℕ) (pieces : List (List ℕ)) : Type 0 where
  pub whole : text ≡ before ++ flat_map after_mark pieces
  pub no_mark_before : HasNoMark before
  pub no_mark_in_pieces : AllByRecursion HasNoMark pieces

-- the pieces with the columns of their `@`, where all of `before` is in the line before them
abbrev pub words_after : List ℕ → List (List ℕ) → List TagWord
words_after before [] = []
words_after before (piece ∷ pieces) =
    piece_at (length before + 1) piece ∷ words_after (before ++ after_mark piece) pieces

-- a line without its comment is the one text that this holds of
abbrev pub CommentsAreCut : Type 0
CommentsAreCut = (line kept : List ℕ) → (uncommented_line line ≡ kept) ↔ IsUncommented line kept

-- the pieces of a line are what `@` cuts of it without its comment
abbrev pub PiecesAreCut : Type 0
PiecesAreCut =
    (line : List ℕ) (words : List TagWord) → (tag_pieces line ≡ words)
    ↔ ((kept : List ℕ) × (before : List ℕ) × (pieces : List (List ℕ)) × IsUncommented line kept
    × IsTagged kept before pieces × (words ≡ words_after before pieces))
