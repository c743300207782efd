-- A text as it is shown within a line: nothing in it breaks, turns or hides the line.
use Rattle.std.specs.Prelude.{ℕ, ◌==◌, ◌/◌, ◌%◌, ◌||◌, ◌&&◌, Bool, not, List, [], ◌∷◌, ◌++◌, codes, nat_le, if◌then◌else◌}
use Rattle.std.specs.Char.{digit_char, encode_utf8, is_whitespace}
use Rattle.std.specs.List.{flat_map}
use Rattle.std.specs.Str.{chars}

abbrev pub is_between : (low high : ℕ) → ℕ → Bool
is_between low high c = nat_le low c && nat_le c high

-- the control characters of Unicode
abbrev pub is_control : ℕ → Bool
is_control c = is_between 0x0 0x1f c || is_between 0x7f 0x9f c

-- the line separator and the paragraph separator
abbrev pub is_separator : ℕ → Bool
is_separator c = is_between 0x2028 0x2029 c

-- the characters that turn the direction of a text
abbrev pub is_bidirectional : ℕ → Bool
is_bidirectional c =
    (c == 0x61c) || is_between 0x200e 0x200f c || is_between 0x202a 0x202e c
    || is_between 0x2066 0x2069 c

abbrev pub is_hidden : ℕ → Bool
is_hidden c = is_control c || is_separator c || is_bidirectional c

-- four hexadecimal digits
abbrev pub four_digits : ℕ → List ℕ
four_digits c =
    digit_char (c / 4096 % 16) ∷ digit_char (c / 256 % 16) ∷ digit_char (c / 16 % 16)
    ∷ digit_char (c % 16) ∷ []

-- a character by its number, as in JSON (RFC 8259, section 7)
abbrev pub numbered_char : ℕ → List ℕ
numbered_char c = codes "\\u" ++ four_digits c

-- A backslash is doubled, five control characters have a letter and the other hidden ones their number; all else stands as it
-- is.
abbrev pub shown_char : ℕ → List ℕ
shown_char c =
    if c == 0x5c then codes "\\\\"
    else if c == 0x8 then codes "\\b"
    else if c == 0x9 then codes "\\t"
    else if c == 0xa then codes "\\n"
    else if c == 0xc then codes "\\f"
    else if c == 0xd then codes "\\r"
    else if is_hidden c then numbered_char c
    else encode_utf8 c

-- the text, character by character
abbrev pub shown_text : List ℕ → List ℕ
shown_text text = flat_map shown_char (chars text)

-- ---- JSON

-- white space (Unicode's White_Space) that looks like the space U+0020 and isn't it
abbrev pub is_other_space : ℕ → Bool
is_other_space c = is_whitespace c && not (c == 0x20)

-- the characters that join or part others and have no width
abbrev pub is_widthless : ℕ → Bool
is_widthless c = (c == 0x200b) || (c == 0x2060) || (c == 0xfeff)

-- the characters that JSON text shows by their numbers
abbrev pub is_numbered_in_json : ℕ → Bool
is_numbered_in_json c = is_hidden c || is_other_space c || is_widthless c

-- such a character has its number, and all else stands as it is
abbrev pub json_char : ℕ → List ℕ
json_char c = if is_numbered_in_json c then numbered_char c else encode_utf8 c

-- JSON text, in whose strings alone such a character may stand, character by character
abbrev pub shown_json : List ℕ → List ℕ
shown_json json = flat_map json_char (chars json)
