-- A string that is shown within a line is read as that string.
use Rattle.std.proofs.Common.{◌≡◌, ℕ, zero, suc, ◌+◌, ◌*◌, ◌/◌, ◌%◌, ◌^◌, ◌<◌, ◌≤◌, Bool, true, false, cond, decimal, not, ◌&&◌, ◌||◌, ◌==◌, nat_lt, List, [], ◌∷◌, ◌++◌, length, get_or, Option, Some, None, IsUtf8, inl, inr, ◌⊎◌, refl, sym, ap, ap₂, ◌∙◌, subst, arith, append_assoc, append-nil, ltb-true}
use Rattle.std.proofs.lemmas.Bool.{and_parts, cases_Bool, cases_eq, cases_lt, false≢true, le-leb, le-ltb, lt-leb, lt-ltb, ltb-false, ne_eqb, not-true, or_cases, or_parts}
use Rattle.std.proofs.lemmas.Fmt.{decimal_is_IsNumeral}
use Rattle.std.proofs.lemmas.Grind.{flat_map-append}
use Rattle.std.proofs.lemmas.Slice.Eq.{bytes_eq-Decides}
use Rattle.std.proofs.lemmas.Str.{IsUtf8-append, IsUtf8-nil, IsUtf8-encode, chars-append, chars-encodes, scalars-chars, digit_value-digit_char, encode_ascii, inside_one}
use Rattle.std.proofs.lemmas.Str.Parse.{digit_from_value}
use Rattle.std.specs.Char.{digit_char, digit_value, is_digit}
use Rattle.std.specs.List.{flat_map}
use Rattle.std.specs.Prelude.{if◌then◌else◌}
use Rattle.std.specs.Str.{bytes_eq, chars}
use Rattle.std.specs.Str.Parse.{AllDigits}
use lib.Utf8.{encode, encodes, low_scalar, scalar, scalar_cases, scalars}
use Rattle.json.specs.Lex.{Lexeme, Mode, in_string, lex, lex_byte, operator, other, space}
use Rattle.json.specs.Print.{escape, escape_byte, escape_letter}
use Rattle.json.specs.Text.{code_unit, content, is_high_surrogate, is_low_surrogate, plain, prepend, short_escape}
use Rattle.json.specs.Word.{is_operator, is_space}
use Rattle.json.proofs.Printed.Strings.{escape_byte_plain}
use Rattle.json.proofs.Printed.Utf8.{IsUtf8-are_ascii, are_ascii}
use Rattle.cm_cases.specs.Shown.{is_numbered_in_json, json_char, numbered_char, shown_json}

-- ---- a test that holds of each number below another

abbrev all_below : (ℕ → Bool) → ℕ → Bool
all_below p zero = true
all_below p (suc n) = p n && all_below p n

below : (p : ℕ → Bool) (n : ℕ) → all_below p n ≡ true → (x : ℕ) → x < n → p x ≡ true
below p zero e x h = absurd (omega arith)
below p (suc n) e x h =
    let both = and_parts _ _ e in
    elim (cases_eq x n) [ inl same ↦ rw same both.0 | inr differs ↦ below p n both.1 x (omega arith) ]

-- ---- what both readers make of a text

-- a text stands for these bytes in a string, before any text
pub record Stands (text bytes : List ℕ) : Type 0 where
  pub read : (r : List ℕ) → content plain (text ++ r) ≡ prepend bytes (content plain r)
  pub lexed : (r : List ℕ) → lex in_string (text ++ r) ≡ lex in_string r

prepend_none : (o : Option (List ℕ)) → o ≡ prepend [] o
prepend_none None = refl
prepend_none (Some s) = refl

prepend_both : (xs ys : List ℕ) (o : Option (List ℕ)) → prepend xs (prepend ys o) ≡ prepend (xs ++ ys) o
prepend_both xs ys None = refl
prepend_both xs ys (Some s) = ap Some (sym (append_assoc xs ys s))

nothing_stands : Stands [] []
nothing_stands = record { read = λ r. prepend_none (content plain r); lexed = λ r. refl }

both_stand : (t u xs ys : List ℕ) → Stands t xs → Stands u ys → Stands (t ++ u) (xs ++ ys)
both_stand t u xs ys a b = record {
  read = λ r. ap (content plain) (append_assoc t u r) ∙ a.read (u ++ r) ∙ ap (prepend xs) (b.read r) ∙ prepend_both xs ys (content plain r);
  lexed = λ r. ap (lex in_string) (append_assoc t u r) ∙ a.lexed (u ++ r) ∙ b.lexed r;
}

stays_inside : (o s : Bool) (x : ℕ) (r : List ℕ) (k : Mode → List Lexeme) → lex_byte in_string (cond o operator (cond s space other)) x r k ≡ k in_string
stays_inside true s x r k = refl
stays_inside false true x r k = refl
stays_inside false false x r k = refl

-- neither a quote nor a backslash
passed_over : (x : ℕ) (r : List ℕ) → (x ≡ 34 → ⊥) → (x ≡ 92 → ⊥) → lex in_string (x ∷ r) ≡ lex in_string r
unfolding lex
passed_over x r q b = rw (ne_eqb x 34 q, ne_eqb x 92 b) (stays_inside (is_operator x) (is_space x) x r (λ m. lex m r))

byte_stands : (x : ℕ) → (x ≡ 34 → ⊥) → (x ≡ 92 → ⊥) → 32 ≤ x → Stands (x ∷ []) (x ∷ [])
unfolding content
byte_stands x q b l = record { read = λ r. rw (ne_eqb x 34 q, ne_eqb x 92 b, le-ltb x 32 l) refl; lexed = λ r. passed_over x r q b }

-- ---- a character by its number

hex_value : (n : ℕ) → n < 16 → digit_value (digit_char n) ≡ n
hex_value n h = digit_value-digit_char n (omega arith)

hex_is : (n : ℕ) → n < 16 → is_digit (digit_char n) 16 ≡ true
hex_is n h = rw (hex_value n h) (lt-ltb n 16 h)

hex_passes : (n : ℕ) (r : List ℕ) → n < 16 → lex in_string (digit_char n ∷ r) ≡ lex in_string r
hex_passes n r h =
    passed_over (digit_char n) r
    (λ e. let no : n ≡ 36 = sym (hex_value n h) ∙ ap digit_value e in omega arith)
    (λ e. let no : n ≡ 36 = sym (hex_value n h) ∙ ap digit_value e in omega arith)

unit_is : (a b c d : ℕ) → a < 16 → b < 16 → c < 16 → d < 16 → code_unit (digit_char a) (digit_char b) (digit_char c) (digit_char d) ≡ Some (a * 4096 + b * 256 + c * 16 + d)
unfolding code_unit
unit_is a b c d h i j k = rw (hex_value a h, hex_value b i, hex_value c j, hex_value d k, lt-ltb a 16 h, lt-ltb b 16 i, lt-ltb c 16 j, lt-ltb d 16 k) refl

-- below U+10000, and no surrogate
abbrev IsUnit : ℕ → Type 0
IsUnit c = (c < 55296) ⊎ ((57344 ≤ c) × (c < 65536))

no_surrogate : (c : ℕ) → IsUnit c → (is_high_surrogate c ≡ false) × (is_low_surrogate c ≡ false)
no_surrogate c (inl h) = (grind arith, grind arith)
no_surrogate c (inr h) = (grind arith, grind arith)

fits : (c : ℕ) → c < 65536 → c / 4096 % 16 * 4096 + c / 256 % 16 * 256 + c / 16 % 16 * 16 + c % 16 ≡ c
fits c h = omega arith

below_16 : (n : ℕ) → n % 16 < 16
below_16 n = omega arith

unit_of : (c : ℕ) → c < 65536 → code_unit (digit_char (c / 4096 % 16)) (digit_char (c / 256 % 16)) (digit_char (c / 16 % 16)) (digit_char (c % 16)) ≡ Some c
unit_of c h = unit_is (c / 4096 % 16) (c / 256 % 16) (c / 16 % 16) (c % 16) (below_16 _) (below_16 _) (below_16 _) (below_16 _) ∙ ap Some (fits c h)

small : (c : ℕ) → IsUnit c → c < 65536
small c (inl h) = omega arith
small c (inr h) = h.1

number_stands : (c : ℕ) → IsUnit c → Stands (numbered_char c) (encode c)
unfolding content lex
number_stands c unit = record {
  read = λ r. let none = no_surrogate c unit in rw (unit_of c (small c unit), none.0, none.1) refl;
  lexed = λ r.
      hex_passes (c / 4096 % 16) _ (below_16 _) ∙ hex_passes (c / 256 % 16) _ (below_16 _) ∙ hex_passes (c / 16 % 16) _ (below_16 _) ∙ hex_passes (c % 16) r (below_16 _);
}

-- ---- the characters that have numbers

-- from U+10000 on no character has its number
beyond : (c : ℕ) → 65536 ≤ c → is_numbered_in_json c ≡ false
beyond c h =
    rw (
      le-leb 0x0 c (omega arith),
      lt-leb c 0x1f (omega arith),
      le-leb 0x7f c (omega arith),
      lt-leb c 0x9f (omega arith),
      le-leb 0x2028 c (omega arith),
      lt-leb c 0x2029 (omega arith),
      ne_eqb c 0x61c (λ e. omega arith),
      le-leb 0x200e c (omega arith),
      lt-leb c 0x200f (omega arith),
      le-leb 0x202a c (omega arith),
      lt-leb c 0x202e (omega arith),
      le-leb 0x2066 c (omega arith),
      lt-leb c 0x2069 (omega arith),
      lt-ltb 8 c (omega arith),
      le-ltb c 14 (omega arith),
      ne_eqb c 32 (λ e. omega arith),
      ne_eqb c 133 (λ e. omega arith),
      ne_eqb c 160 (λ e. omega arith),
      ne_eqb c 5760 (λ e. omega arith),
      lt-ltb 8191 c (omega arith),
      le-ltb c 8203 (omega arith),
      ne_eqb c 8232 (λ e. omega arith),
      ne_eqb c 8233 (λ e. omega arith),
      ne_eqb c 8239 (λ e. omega arith),
      ne_eqb c 8287 (λ e. omega arith),
      ne_eqb c 12288 (λ e. omega arith),
      ne_eqb c 0x200b (λ e. omega arith),
      ne_eqb c 0x2060 (λ e. omega arith),
      ne_eqb c 0xfeff (λ e. omega arith),
    ) refl

unit_if_numbered : (c : ℕ) → scalar c ≡ true → is_numbered_in_json c ≡ true → IsUnit c
unit_if_numbered c ok e =
    elim (cases_lt c 65536) [
      | inl h ↦ elim (scalar_cases c ok) [ inl low ↦ inl low | inr high ↦ inr (high.0, h) ]
      | inr h ↦ absurd (false≢true (sym (beyond c h) ∙ e))
    ]

-- ---- a character of ASCII

-- what stands for it: a backslash and a letter, its number, or itself
abbrev ascii_text : ℕ → List ℕ
ascii_text c =
    if nat_lt 0 (escape_letter c) then 92 ∷ escape_letter c ∷ []
    else if nat_lt c 32 || (c == 127) then numbered_char c
    else c ∷ []

all_ascii : all_below (λ c. bytes_eq (shown_json (escape_byte c)) (ascii_text c)) 128 ≡ true
unfolding escape_byte chars encode
all_ascii = refl

ascii_shown : (c : ℕ) → c < 128 → shown_json (escape_byte c) ≡ ascii_text c
ascii_shown c h = (bytes_eq-Decides (shown_json (escape_byte c)) (ascii_text c)).0 (below (λ d. bytes_eq (shown_json (escape_byte d)) (ascii_text d)) 128 all_ascii c h)

abbrev LetterStands : ℕ → Type 0
LetterStands c = Stands (92 ∷ escape_letter c ∷ []) (c ∷ [])

letter_stands : (c : ℕ) → nat_lt 0 (escape_letter c) ≡ true → LetterStands c
unfolding content lex short_escape
letter_stands c e =
    elim (cases_eq c 34) [
      | inl is ↦ subst LetterStands (sym is) (record { read = λ r. refl; lexed = λ r. refl })
      | inr no34 ↦
          elim (cases_eq c 92) [
            | inl is ↦ subst LetterStands (sym is) (record { read = λ r. refl; lexed = λ r. refl })
            | inr no92 ↦
                elim (cases_eq c 8) [
                  | inl is ↦ subst LetterStands (sym is) (record { read = λ r. refl; lexed = λ r. refl })
                  | inr no8 ↦
                      elim (cases_eq c 12) [
                        | inl is ↦ subst LetterStands (sym is) (record { read = λ r. refl; lexed = λ r. refl })
                        | inr no12 ↦
                            elim (cases_eq c 10) [
                              | inl is ↦ subst LetterStands (sym is) (record { read = λ r. refl; lexed = λ r. refl })
                              | inr no10 ↦
                                  elim (cases_eq c 13) [
                                    | inl is ↦ subst LetterStands (sym is) (record { read = λ r. refl; lexed = λ r. refl })
                                    | inr no13 ↦
                                        elim (cases_eq c 9) [
                                          | inl is ↦ subst LetterStands (sym is) (record { read = λ r. refl; lexed = λ r. refl })
                                          | inr no9 ↦
                                              let none : escape_letter c ≡ 0 = rw (ne_eqb c 34 no34, ne_eqb c 92 no92, ne_eqb c 8 no8, ne_eqb c 12 no12, ne_eqb c 10 no10, ne_eqb c 13 no13, ne_eqb c 9 no9) refl in
                                              absurd (false≢true (ap (nat_lt 0) (sym none) ∙ e))
                                        ]
                                  ]
                            ]
                      ]
                ]
          ]
    ]

-- no letter stands for it
no_letter : (c : ℕ) → nat_lt 0 (escape_letter c) ≡ false → (c ≡ 34 → ⊥) × (c ≡ 92 → ⊥)
no_letter c e = (λ is. false≢true (sym e ∙ ap (λ d. nat_lt 0 (escape_letter d)) is), λ is. false≢true (sym e ∙ ap (λ d. nat_lt 0 (escape_letter d)) is))

ascii_stands : (c : ℕ) → c < 128 → Stands (ascii_text c) (c ∷ [])
ascii_stands c h =
    elim (cases_Bool (nat_lt 0 (escape_letter c))) [
      | inl is ↦ rw is (letter_stands c is)
      | inr isnt ↦
          elim (cases_Bool (nat_lt c 32 || (c == 127))) [
            | inl is ↦ rw (isnt, is) (subst (Stands (numbered_char c)) (encode_ascii c h) (number_stands c (inl (omega arith))))
            | inr none ↦
                let both = no_letter c isnt in
                let large : 32 ≤ c = ltb-false c 32 (or_parts (nat_lt c 32) (c == 127) none).0 in
                rw (isnt, none) (byte_stands c both.0 both.1 large)
          ]
    ]

-- ---- any character

high_stands : (xs : List ℕ) → ((k : ℕ) → k < length xs → 128 ≤ get_or xs k 0) → Stands xs xs
high_stands [] h = nothing_stands
high_stands (x ∷ xs) h =
    let high : 128 ≤ x = h 0 (omega arith) in
    both_stand (x ∷ []) xs (x ∷ []) xs (byte_stands x (λ e. omega arith) (λ e. omega arith) (omega arith)) (high_stands xs (λ k lt. h (suc k) (omega arith)))

high_escaped : (xs : List ℕ) → ((k : ℕ) → k < length xs → 128 ≤ get_or xs k 0) → escape xs ≡ xs
high_escaped [] h = refl
high_escaped (x ∷ xs) h =
    let high : 128 ≤ x = h 0 (omega arith) in
    ap₂ (λ (a b : List ℕ). a ++ b) (escape_byte_plain x (λ e. omega arith) (λ e. omega arith) (omega arith)) (high_escaped xs (λ k lt. h (suc k) (omega arith)))

high_bytes : (c : ℕ) → 128 ≤ c → (k : ℕ) → k < length (encode c) → 128 ≤ get_or (encode c) k 0
high_bytes c big k lt =
    elim (cases_lt (get_or (encode c) k 0) 128) [
      | inl low ↦ absurd (omega (arith, inside_one c [] (encode c) k (sym (append-nil _)) lt low))
      | inr h ↦ h
    ]

one_shown : (c : ℕ) → scalar c ≡ true → shown_json (encode c) ≡ json_char c
one_shown c ok = ap (flat_map json_char) (ap chars (sym (append-nil (encode c))) ∙ chars-encodes (c ∷ []) (rw ok refl)) ∙ append-nil (json_char c)

json_char_stands : (c : ℕ) → scalar c ≡ true → 128 ≤ c → Stands (json_char c) (encode c)
json_char_stands c ok big =
    elim (cases_Bool (is_numbered_in_json c)) [
      | inl is ↦ rw is (number_stands c (unit_if_numbered c ok is))
      | inr isnt ↦ rw isnt (high_stands (encode c) (high_bytes c big))
    ]

char_stands : (c : ℕ) → scalar c ≡ true → Stands (shown_json (escape (encode c))) (encode c)
char_stands c ok =
    elim (cases_lt c 128) [
      | inl h ↦
          let text : shown_json (escape (encode c)) ≡ ascii_text c = ap (λ (bs : List ℕ). shown_json (escape bs)) (encode_ascii c h) ∙ ap shown_json (append-nil (escape_byte c)) ∙ ascii_shown c h in
          rw (text, encode_ascii c h) (ascii_stands c h)
      | inr big ↦
          let text : shown_json (escape (encode c)) ≡ json_char c = ap shown_json (high_escaped (encode c) (high_bytes c big)) ∙ one_shown c ok in
          rw text (json_char_stands c ok big)
    ]

-- ---- a string

pub shown_both : (xs ys : List ℕ) → IsUtf8 xs → shown_json (xs ++ ys) ≡ shown_json xs ++ shown_json ys
shown_both xs ys u = ap (flat_map json_char) (chars-append xs ys u) ∙ flat_map-append json_char (chars xs) (chars ys)

escaped_both : (xs ys : List ℕ) → escape (xs ++ ys) ≡ escape xs ++ escape ys
escaped_both [] ys = refl
escaped_both (x ∷ xs) ys = ap (λ l. escape_byte x ++ l) (escaped_both xs ys) ∙ sym (append_assoc (escape_byte x) _ _)

escapes_ascii : all_below (λ c. are_ascii (escape_byte c)) 128 ≡ true
unfolding escape_byte
escapes_ascii = refl

char_utf8 : (c : ℕ) → scalar c ≡ true → IsUtf8 (escape (encode c))
char_utf8 c ok =
    elim (cases_lt c 128) [
      | inl h ↦ rw (encode_ascii c h, append-nil) (IsUtf8-are_ascii (escape_byte c) (below (λ d. are_ascii (escape_byte d)) 128 escapes_ascii c h))
      | inr big ↦ subst IsUtf8 (sym (high_escaped (encode c) (high_bytes c big))) (IsUtf8-encode c ok)
    ]

escapes_utf8 : (cs : List ℕ) → scalars cs ≡ true → IsUtf8 (escape (encodes cs))
escapes_utf8 [] ok = IsUtf8-nil
escapes_utf8 (c ∷ cs) ok =
    let p = and_parts (scalar c) (scalars cs) ok in
    subst IsUtf8 (sym (escaped_both (encode c) (encodes cs))) (IsUtf8-append (escape (encode c)) (escape (encodes cs)) (char_utf8 c p.0) (escapes_utf8 cs p.1))

pub escape_utf8 : (s : List ℕ) → IsUtf8 s → IsUtf8 (escape s)
escape_utf8 s u = subst (λ (t : List ℕ). IsUtf8 (escape t)) u.1.1 (escapes_utf8 u.0 u.1.0)

chars_stand : (cs : List ℕ) → scalars cs ≡ true → Stands (shown_json (escape (encodes cs))) (encodes cs)
unfolding chars
chars_stand [] ok = nothing_stands
chars_stand (c ∷ cs) ok =
    let p = and_parts (scalar c) (scalars cs) ok in
    let text = ap shown_json (escaped_both (encode c) (encodes cs)) ∙ shown_both (escape (encode c)) (escape (encodes cs)) (char_utf8 c p.0) in
    rw text (both_stand (shown_json (escape (encode c))) (shown_json (escape (encodes cs))) (encode c) (encodes cs) (char_stands c p.0) (chars_stand cs p.1))

pub string_stands : (s : List ℕ) → IsUtf8 s → Stands (shown_json (escape s)) s
string_stands s u = subst (λ (t : List ℕ). Stands (shown_json (escape t)) t) u.1.1 (chars_stand u.0 u.1.0)

-- ---- what is shown is UTF-8

digits_ascii : all_below (λ n. nat_lt (digit_char n) 128) 16 ≡ true
digits_ascii = refl

digit_ascii : (n : ℕ) → nat_lt (digit_char (n % 16)) 128 ≡ true
digit_ascii n = below (λ d. nat_lt (digit_char d) 128) 16 digits_ascii (n % 16) (below_16 n)

number_ascii : (c : ℕ) → are_ascii (numbered_char c) ≡ true
number_ascii c = rw (digit_ascii (c / 4096), digit_ascii (c / 256), digit_ascii (c / 16), digit_ascii c) refl

json_char_utf8 : (c : ℕ) → scalar c ≡ true → IsUtf8 (json_char c)
json_char_utf8 c ok =
    elim (cases_Bool (is_numbered_in_json c)) [
      | inl is ↦ rw is (IsUtf8-are_ascii (numbered_char c) (number_ascii c))
      | inr isnt ↦ rw isnt (IsUtf8-encode c ok)
    ]

each_utf8 : (cs : List ℕ) → scalars cs ≡ true → IsUtf8 (flat_map json_char cs)
each_utf8 [] ok = IsUtf8-nil
each_utf8 (c ∷ cs) ok =
    let p = and_parts (scalar c) (scalars cs) ok in
    IsUtf8-append (json_char c) (flat_map json_char cs) (json_char_utf8 c p.0) (each_utf8 cs p.1)

pub shown_utf8 : (xs : List ℕ) → IsUtf8 xs → IsUtf8 (shown_json xs)
shown_utf8 xs u = each_utf8 (chars xs) (scalars-chars xs u)

-- ---- text of ASCII

-- nothing in it has a number
abbrev pub are_bare : List ℕ → Bool
are_bare [] = true
are_bare (x ∷ xs) = nat_lt x 128 && (not (is_numbered_in_json x) && are_bare xs)

pub bare_utf8 : (xs : List ℕ) → are_bare xs ≡ true → IsUtf8 xs
bare_utf8 xs e = IsUtf8-are_ascii xs (go xs e)
  where
    go : (ys : List ℕ) → are_bare ys ≡ true → are_ascii ys ≡ true
    go [] h = refl
    go (y ∷ ys) h =
        let p = and_parts (nat_lt y 128) (not (is_numbered_in_json y) && are_bare ys) h in
        rw p.0 (go ys (and_parts (not (is_numbered_in_json y)) (are_bare ys) p.1).1)

pub bare_shown : (xs : List ℕ) → are_bare xs ≡ true → shown_json xs ≡ xs
unfolding chars
bare_shown [] e = refl
bare_shown (x ∷ xs) e =
    let p = and_parts (nat_lt x 128) (not (is_numbered_in_json x) && are_bare xs) e in
    let q = and_parts (not (is_numbered_in_json x)) (are_bare xs) p.1 in
    let low = ltb-true x 128 p.0 in
    let one : shown_json (x ∷ []) ≡ x ∷ [] = ap shown_json (sym (encode_ascii x low)) ∙ one_shown x (low_scalar x (omega arith)) ∙ rw (not-true (is_numbered_in_json x) q.0) (encode_ascii x low) in
    shown_both (x ∷ []) xs (IsUtf8-are_ascii (x ∷ []) (rw p.0 refl)) ∙ ap₂ (λ (a b : List ℕ). a ++ b) one (bare_shown xs q.1)

digits_bare : all_below (λ c. nat_lt c 48 || are_bare (c ∷ [])) 58 ≡ true
digits_bare = refl

digit_bare : (c : ℕ) → 48 ≤ c → c ≤ 57 → are_bare (c ∷ []) ≡ true
digit_bare c low high =
    elim (or_cases (nat_lt c 48) (are_bare (c ∷ [])) (below (λ d. nat_lt d 48 || are_bare (d ∷ [])) 58 digits_bare c (omega arith))) [
      | inl less ↦ absurd (false≢true (sym (le-ltb c 48 low) ∙ less))
      | inr bare ↦ bare
    ]

numeral_bare : (cs : List ℕ) → AllDigits 10 cs → are_bare cs ≡ true
numeral_bare [] h = refl
numeral_bare (c ∷ cs) h =
    let range = digit_from_value c h.0 in
    let one = and_parts (nat_lt c 128) (not (is_numbered_in_json c) && true) (digit_bare c range.0 range.1) in
    let bare = and_parts (not (is_numbered_in_json c)) true one.1 in
    rw (one.0, bare.0) (numeral_bare cs h.1)

pub decimal_shown : (n : ℕ) → n < 2 ^ 64 → shown_json (decimal n) ≡ decimal n
decimal_shown n h = bare_shown (decimal n) (numeral_bare (decimal n) (decimal_is_IsNumeral n h).0.1)
