-- Lines, and what the grammar asks of each. A line's text is the list of its characters; the texts of a token are
-- bytes of UTF-8, as the tree keeps them.
use Rattle.std.specs.Prelude.{ℕ, Bool, true, false, List, map, Result, Ok, Err, Option, Some, None, if◌then◌else◌, codes}
use Rattle.std.specs.Option.{option_map}
use Rattle.std.specs.Str.{encode_utf8_all}
use Rattle.gk_line.specs.Texts.{first_some, or_else}
use Rattle.gk_line.specs.Tokens.{indent_of, is_blank_line, begins_by, language_of, TitleText, title_of, StepText, step_of, FenceText, fence_of, blocks}
use Rattle.gk_line.specs.Tags.{TagWord, tags_of, spaced_piece}
use Rattle.gk_line.specs.Cells.{CellText, cells_of}
use Rattle.gk_line.specs.declared.tokens.Block.{Block}
pub use Rattle.gk_document.specs.Texts.{Utf8}
use Rattle.gk_document.specs.declared.tree.Cell.{Cell}
use Rattle.gk_document.specs.declared.tree.KeywordType.{KeywordType}
use Rattle.gk_document.specs.declared.tree.Fence.{Fence}

-- a tag without its `@`, and the column of the `@`
pub record TagText : Type 0 where
  pub word : Utf8
  pub column : ℕ

-- What a line is read as, after its indent. The kinds exclude each other; a language line is the one comment that can be more.
pub data Token : Type 0 where
  Blank : Token
  Comment : Token
  -- the word
  Language : Utf8 → Token
  -- the tags, or the column of the first `@` whose piece has white space in it
  Tags : Result (List TagText) ℕ → Token
  Title : Block → (keyword name : Utf8) → Token
  Step : (keyword : Utf8) → KeywordType → (text : Utf8) → Token
  Row : List Cell → Token
  Fenced : Fence → (media : Utf8) → Token
  Other : Token

-- ---- what characters are read as

abbrev pub comment_token : Option (List ℕ) → Token
comment_token None = Comment
comment_token (Some word) = Language (encode_utf8_all word)

abbrev pub tag_text : TagWord → TagText
tag_text t = record { word = encode_utf8_all t.word; column = t.column }

-- the tags of a tag line, unless there is white space in one
abbrev pub tag_list : Option TagWord → List TagWord → Result (List TagText) ℕ
tag_list None words = Ok (map tag_text words)
tag_list (Some spaced) words = Err spaced.column

abbrev pub cell : CellText → Cell
cell c = record { value = encode_utf8_all c.value; column = c.column }

abbrev pub title_token : Block → TitleText → Token
title_token b t = Title b (encode_utf8_all t.keyword) (encode_utf8_all t.name)

abbrev pub step_token : StepText → Token
step_token s = Step (encode_utf8_all s.keyword) s.kind (encode_utf8_all s.text)

abbrev pub fence_token : FenceText → Token
fence_token f = Fenced f.fence (encode_utf8_all f.media)

-- a line that begins with a keyword or a fence
abbrev pub word_token : List ℕ → Option Token
word_token line =
    or_else (first_some (λ b. option_map (title_token b) (title_of b line)) blocks)
    (or_else (option_map step_token (step_of line)) (option_map fence_token (fence_of line)))

abbrev pub token_or_other : Option Token → Token
token_or_other None = Other
token_or_other (Some t) = t

unfoldable pub token_of : List ℕ → Token
token_of line =
    if is_blank_line line then Blank
    else if begins_by (codes "#") line then comment_token (language_of line)
    else if begins_by (codes "@") line then Tags (tag_list (spaced_piece line) (tags_of line))
    else if begins_by (codes "|") line then Row (map cell (cells_of line))
    else token_or_other (word_token line)

-- ---- lines

-- a line: its number, its characters, its indent and its token
pub data Line : Type 0 where
  line : (number : ℕ) → (text : List ℕ) → (indent : ℕ) → Token → Line

-- the line of this number with these characters
abbrev pub line_of : ℕ × List ℕ → Line
line_of (n, text) = line n text (indent_of text) (token_of text)

abbrev pub number : Line → ℕ
number (line n t i k) = n

-- the characters
abbrev pub text : Line → List ℕ
text (line n t i k) = t

abbrev pub token : Line → Token
token (line n t i k) = k

-- the bytes
abbrev pub bytes : Line → Utf8
bytes l = encode_utf8_all (text l)

-- a comment, also a language line
abbrev pub is_comment : Line → Bool
is_comment (line n t i Comment) = true
is_comment (line n t i (Language w)) = true
is_comment _ = false

abbrev pub is_language : Line → Bool
is_language (line n t i (Language w)) = true
is_language _ = false

abbrev pub is_blank : Line → Bool
is_blank (line n t i Blank) = true
is_blank _ = false

-- what may be between two lines
abbrev pub is_gap : Line → Bool
is_gap (line n t i Blank) = true
is_gap (line n t i Comment) = true
is_gap (line n t i (Language w)) = true
is_gap _ = false
