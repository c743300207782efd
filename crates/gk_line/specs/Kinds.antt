-- The kinds of a line.
use Rattle.std.specs.Prelude.{ℕ, ◌≡◌, Bool, true, List, codes, is_some}
use Rattle.gk_line.specs.Tokens.{is_blank_line, begins_by, title_of, step_of, fence_of, language_of}
use Rattle.gk_line.specs.declared.tokens.Block.{Block}

-- what a line may read as, beside text; a language line is a comment
pub data Kind : Type 0 where
  Blank : Kind
  Comment : Kind
  TagLine : Kind
  Row : Kind
  TitleLine : Block → Kind
  Step : Kind
  DocStringFence : Kind

abbrev pub is_of_kind : Kind → List ℕ → Bool
is_of_kind Blank line = is_blank_line line
is_of_kind Comment line = begins_by (codes "#") line
is_of_kind TagLine line = begins_by (codes "@") line
is_of_kind Row line = begins_by (codes "|") line
is_of_kind (TitleLine block) line = is_some (title_of block line)
is_of_kind Step line = is_some (step_of line)
is_of_kind DocStringFence line = is_some (fence_of line)

-- no line is of two kinds
abbrev pub KindsExclude : Type 0
KindsExclude =
    (line : List ℕ) (k l : Kind) → is_of_kind k line ≡ true → is_of_kind l line ≡ true → k ≡ l

-- a language line is also a comment
abbrev pub LanguageIsComment : Type 0
LanguageIsComment =
    (line : List ℕ) → is_some (language_of line) ≡ true → is_of_kind Comment line ≡ true
