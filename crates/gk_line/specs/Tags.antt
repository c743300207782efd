-- The tags of a tag line.
use Rattle.std.specs.Prelude.{ℕ, ◌+◌, ◌==◌, Bool, ◌&&◌, not, List, [], ◌∷◌, filter, find, if◌then◌else◌, Option, codes, length, is_some}
use Rattle.std.specs.Char.{is_whitespace}
use Rattle.std.specs.List.{slice_split, list_any}
use Rattle.gk_line.specs.Texts.{trimmed_text, after}
use Rattle.gk_line.specs.Cells.{without_first}
use Rattle.gk_line.specs.Characters.{at_sign}

-- the line up to the first white space that `#` follows
unfoldable pub uncommented_line : List ℕ → List ℕ
uncommented_line [] = []
uncommented_line (c ∷ cs) =
    if is_whitespace c && is_some (after (codes "#") cs) then [] else c ∷ uncommented_line cs

pub record TagWord : Type 0 where
  pub word : List ℕ
  pub column : ℕ

-- a piece without the white space at its ends, with the column of the `@` before it
abbrev pub piece_at : ℕ → List ℕ → TagWord
piece_at column piece = record { word = trimmed_text piece; column = column }

abbrev pub pieces_from : ℕ → List (List ℕ) → List TagWord
pieces_from column [] = []
pieces_from column (piece ∷ more) =
    piece_at column piece ∷ pieces_from (column + length piece + 1) more

-- what is before the first `@`, which would have column 0, is no piece
unfoldable pub tag_pieces : List ℕ → List TagWord
tag_pieces line =
    without_first (pieces_from 0 (slice_split (λ c. c == at_sign) (uncommented_line line)))

abbrev pub is_tag : TagWord → Bool
is_tag piece = not (length piece.word == 0)

abbrev pub has_space : TagWord → Bool
has_space piece = list_any is_whitespace piece.word

-- the first piece with white space in it, and the tags of a line where there is none
unfoldable pub spaced_piece : List ℕ → Option TagWord
spaced_piece line = find has_space (tag_pieces line)

unfoldable pub tags_of : List ℕ → List TagWord
tags_of line = filter is_tag (tag_pieces line)
