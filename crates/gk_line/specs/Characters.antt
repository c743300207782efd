-- The characters that mark the tokens of a line, by their Unicode scalar values.
use Rattle.std.specs.Prelude.{ℕ}
pub use Rattle.gk_document.specs.Texts.{line_feed, carriage_return}

abbrev pub plain_space : ℕ
plain_space = 32

abbrev pub quotation_mark : ℕ
quotation_mark = 34

abbrev pub number_sign : ℕ
number_sign = 35

abbrev pub hyphen : ℕ
hyphen = 45

abbrev pub colon : ℕ
colon = 58

abbrev pub at_sign : ℕ
at_sign = 64

abbrev pub backslash : ℕ
backslash = 92

abbrev pub underscore : ℕ
underscore = 95

abbrev pub backtick : ℕ
backtick = 96

abbrev pub letter_n : ℕ
letter_n = 110

abbrev pub vertical_bar : ℕ
vertical_bar = 124

abbrev pub byte_order_mark : ℕ
byte_order_mark = 0xFEFF
