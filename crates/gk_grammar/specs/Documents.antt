-- Which document a text has. A text is the list of its UTF-8 bytes.
use Rattle.std.specs.Prelude.{ℕ, ◌<◌, ◌⊎◌, List, map, length}
use Rattle.std.specs.Str.{chars}
use Rattle.gk_line.specs.Lines.{lines_of}
use Rattle.gk_grammar.specs.Token.{Line, line_of}
use Rattle.gk_grammar.specs.Tree.{Document}
use Rattle.gk_grammar.specs.Grammar.{Doc}
use Rattle.gk_grammar.specs.declared.fault.FaultKind.{FaultKind}
use Rattle.gk_grammar.specs.Place.{IsFault}

-- the lines of a text, as the grammar reads them
unfoldable pub lines_read : List ℕ → List Line
lines_read text = map line_of (lines_of (chars text))

-- the text is one of the grammar, and this is its document
abbrev pub IsDocumentOf : List ℕ → Document → Type 0
IsDocumentOf text d = Doc (lines_read text) d

-- the text is none of the grammar, and this fault is at this line and column
abbrev pub HasFault : List ℕ → FaultKind → (line column : ℕ) → Type 0
HasFault text kind line column = IsFault (lines_read text) kind line column

-- the most bytes and lines that a feature file may have
abbrev pub max_bytes : ℕ
max_bytes = 16_777_216

abbrev pub max_lines : ℕ
max_lines = 1_000_000

-- the text has more bytes or lines than that
abbrev pub IsTooLong : List ℕ → Type 0
IsTooLong text = (max_bytes < length text) ⊎ (max_lines < length (lines_read text))
