-- What the grammar reads of a line, against the kinds of a line.
use Rattle.std.specs.Prelude.{◌≡◌, ◌↔◌, ℕ, true, false, List, map, Option, Some, None}
use Rattle.std.specs.Option.{option_map}
use Rattle.std.specs.Str.{encode_utf8_all}
use Rattle.gk_line.specs.Cells.{cells_of}
use Rattle.gk_line.specs.Kinds.{Kind, is_of_kind}
use Rattle.gk_line.specs.Tags.{spaced_piece, tags_of}
use Rattle.gk_line.specs.Tokens.{fence_of, language_of, step_of, title_of}
use Rattle.gk_grammar.specs.Token.{Token, token_of, tag_list, cell, title_token, step_token, fence_token}
use Rattle.gk_grammar.specs.Token.Token.{Blank, Comment, Language, Tags, Title, Step, Row, Fenced, Other}

-- the kind of the lines that a token is read from; text is of none
abbrev pub token_kind : Token → Option Kind
token_kind Blank = Some Kind.Blank
token_kind Comment = Some Kind.Comment
token_kind (Language word) = Some Kind.Comment
token_kind (Tags tags) = Some Kind.TagLine
token_kind (Title block keyword name) = Some (Kind.TitleLine block)
token_kind (Step keyword type text) = Some Kind.Step
token_kind (Row cells) = Some Kind.Row
token_kind (Fenced fence media) = Some Kind.DocStringFence
token_kind Other = None

-- the line reads as the token, whatever else it may read as
abbrev pub ReadsAs : List ℕ → Token → Type 0
ReadsAs line Blank = is_of_kind Kind.Blank line ≡ true
ReadsAs line Comment = (is_of_kind Kind.Comment line ≡ true) × (language_of line ≡ None)
ReadsAs line (Language word) = option_map encode_utf8_all (language_of line) ≡ Some word
ReadsAs line (Tags tags) =
    (is_of_kind Kind.TagLine line ≡ true) × (tags ≡ tag_list (spaced_piece line) (tags_of line))
ReadsAs line (Title block keyword name) =
    option_map (title_token block) (title_of block line) ≡ Some (Title block keyword name)
ReadsAs line (Step keyword type text) =
    option_map step_token (step_of line) ≡ Some (Step keyword type text)
ReadsAs line (Row cells) = (is_of_kind Kind.Row line ≡ true) × (cells ≡ map cell (cells_of line))
ReadsAs line (Fenced fence media) =
    option_map fence_token (fence_of line) ≡ Some (Fenced fence media)
ReadsAs line Other = (k : Kind) → is_of_kind k line ≡ false

-- a line's token is of a kind exactly where the line is of that kind
abbrev pub TokensAreOfKinds : Type 0
TokensAreOfKinds =
    (line : List ℕ) (k : Kind) → (token_kind (token_of line) ≡ Some k) ↔ (is_of_kind k line ≡ true)

-- and text exactly where it is of no kind
abbrev pub OthersAreOfNone : Type 0
OthersAreOfNone =
    (line : List ℕ) → (token_of line ≡ Other) ↔ ((k : Kind) → is_of_kind k line ≡ false)

-- a line's token is the one that it reads as
abbrev pub TokensAreRead : Type 0
TokensAreRead = (line : List ℕ) (token : Token) → (token_of line ≡ token) ↔ ReadsAs line token
