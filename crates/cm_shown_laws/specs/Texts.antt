-- What a text, and JSON, looks like where it is shown within a line.
use Rattle.std.specs.Prelude.{◌≡◌, ℕ, ◌==◌, Bool, false, List}
use Rattle.std.specs.List.{list_any}
use Rattle.std.specs.Str.{IsUtf8, chars}
use Rattle.cm_envelope.specs.Lines.{line_feed}
use Rattle.cm_cases.specs.Shown.{is_hidden, is_numbered_in_json, shown_json, shown_text}

-- The text is UTF-8, none of its characters passes the test, and no line ends in it.
pub record HasNone (test : ℕ → Bool) (text : List ℕ) : Type 0 where
  pub utf8 : IsUtf8 text
  pub none : list_any test (chars text) ≡ false
  pub one_line : list_any (λ byte. byte == line_feed) text ≡ false

-- a shown text has no hidden character
abbrev pub ShownTextsArePlain : Type 0
ShownTextsArePlain = (text : List ℕ) → IsUtf8 text → HasNone is_hidden (shown_text text)

-- JSON that is shown has none either, no white space but U+0020, and no character without width
abbrev pub ShownJsonIsPlain : Type 0
ShownJsonIsPlain = (json : List ℕ) → IsUtf8 json → HasNone is_numbered_in_json (shown_json json)

-- texts that are shown alike are the same
abbrev pub UnlikeTextsAreShownUnlike : Type 0
UnlikeTextsAreShownUnlike =
    (a b : List ℕ) → IsUtf8 a → IsUtf8 b → shown_text a ≡ shown_text b → a ≡ b
