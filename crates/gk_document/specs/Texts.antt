-- A text as the list of its bytes, and the characters that its lines end by (Unicode scalar values, each one byte of UTF-8).
use Rattle.std.specs.Prelude.{ℕ, List}

-- a text, by its bytes
abbrev pub Utf8 : Type 0
Utf8 = List ℕ

abbrev pub line_feed : ℕ
line_feed = 10

abbrev pub carriage_return : ℕ
carriage_return = 13
