-- Title lines, step lines and fence lines as their parts.
use Rattle.std.specs.Prelude.{◌≡◌, ◌+◌, ◌↔◌, ℕ, List, ◌++◌, Some, codes, length}
use Rattle.std.specs.Char.{is_whitespace}
use Rattle.std.specs.List.{Contains}
use Rattle.gk_document.specs.Fences.{fence_characters}
use Rattle.gk_line.specs.Tokens.{TitleText, StepText, FenceText, fence_of, title_keywords, step_of, step_words, title_of}
use Rattle.gk_line.specs.declared.tokens.Block.{Block}
use Rattle.gk_laws.specs.Trimming.{IsSpace, IsTrimmed}

-- the line is an indent, the mark at this column, and the text with white space around it
pub record IsMarkedLine (line mark text : List ℕ) (column : ℕ) : Type 0 where
  pub indent : List ℕ
  pub front : List ℕ
  pub rest : List ℕ
  pub whole : line ≡ indent ++ (mark ++ rest)
  pub is_indent : IsSpace indent
  pub is_text : IsTrimmed is_whitespace rest front text
  pub is_column : column ≡ length indent + 1

-- a line reads as a title exactly where it is an indent, one of the block's keywords and a colon,
-- and the name
abbrev pub TitlesAreMarked : Type 0
TitlesAreMarked =
    (block : Block) (line : List ℕ) (t : TitleText) → (title_of block line ≡ Some t)
    ↔ (Contains (title_keywords block) t.keyword
    × IsMarkedLine line (t.keyword ++ codes ":") t.name t.column)

-- a line reads as a step exactly where it is an indent, one of the words of steps and a space, and
-- the text
abbrev pub StepsAreMarked : Type 0
StepsAreMarked =
    (line : List ℕ) (s : StepText) → (step_of line ≡ Some s)
    ↔ ((word : List ℕ) × Contains step_words (word, s.kind) × (s.keyword ≡ word ++ codes " ")
    × IsMarkedLine line s.keyword s.text s.column)

-- a line reads as a fence exactly where it is an indent, that fence, and the media type
abbrev pub FencesAreMarked : Type 0
FencesAreMarked =
    (line : List ℕ) (f : FenceText) → (fence_of line ≡ Some f)
    ↔ IsMarkedLine line (fence_characters f.fence) f.media f.column
