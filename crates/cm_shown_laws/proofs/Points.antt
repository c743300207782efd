-- The characters of what is shown, and what a reader makes of them.
use Rattle.std.proofs.Common.{◌≡◌, ℕ, zero, suc, ◌+◌, ◌*◌, ◌/◌, ◌%◌, ◌<◌, ◌≤◌, Bool, true, false, cond, not, ◌&&◌, ◌==◌, nat_lt, List, [], ◌∷◌, ◌++◌, length, get_or, Option, Some, None, IsUtf8, inl, inr, refl, sym, ap, ap₂, ◌∙◌, subst, arith, append-nil}
use Rattle.std.specs.Prelude.{codes, if◌then◌else◌}
use Rattle.std.specs.List.{flat_map, list_any}
use Rattle.std.specs.Str.{chars}
use Rattle.std.specs.Char.{digit_char, digit_value}
use Rattle.std.proofs.lemmas.Bool.{and_parts, cases_Bool, cases_eq, cases_lt, false≢true, le-leb, lt-leb, ltb-true, ne_eqb, not-true, or_parts}
use Rattle.std.proofs.lemmas.Str.{chars-encodes, encodes-append, encodes-chars, scalars-chars, digit_value-digit_char, encode_ascii, inside_one}
use lib.Utf8.{encode, encodes, low_scalar, scalar, scalars}
use Rattle.json.proofs.Printed.Utf8.{are_ascii}
use Rattle.cm_envelope.specs.Lines.{line_feed}
use Rattle.cm_cases.specs.Shown.{is_hidden, is_numbered_in_json, json_char, numbered_char, shown_char}
use Rattle.cm_shown_laws.specs.Texts.{HasNone, ShownJsonIsPlain, ShownTextsArePlain, UnlikeTextsAreShownUnlike}

-- ---- a test that holds of each number below another

abbrev all_below : (ℕ → Bool) → ℕ → Bool
all_below p zero = true
all_below p (suc n) = p n && all_below p n

below : (p : ℕ → Bool) (n : ℕ) → all_below p n ≡ true → (x : ℕ) → x < n → p x ≡ true
below p zero e x h = absurd (omega arith)
below p (suc n) e x h =
    let both = and_parts _ _ e in
    elim (cases_eq x n) [ inl same ↦ rw same both.0 | inr differs ↦ below p n both.1 x (omega arith) ]

below_16 : (n : ℕ) → n % 16 < 16
below_16 n = omega arith

-- ---- a choice

one_of : (P : List ℕ → Type 0) (b : Bool) (x y : List ℕ) → (b ≡ true → P x) → (b ≡ false → P y) → P (cond b x y)
one_of P true x y h k = h refl
one_of P false x y h k = k refl

encoded : (b : Bool) (x y s t : List ℕ) → encodes x ≡ s → encodes y ≡ t → encodes (cond b x y) ≡ cond b s t
encoded true x y s t h k = h
encoded false x y s t h k = k

-- ---- ASCII

ascii_encodes : (xs : List ℕ) → are_ascii xs ≡ true → encodes xs ≡ xs
ascii_encodes [] h = refl
ascii_encodes (x ∷ xs) h =
    let both = and_parts (nat_lt x 128) (are_ascii xs) h in
    ap₂ (λ (a b : List ℕ). a ++ b) (encode_ascii x (ltb-true x 128 both.0)) (ascii_encodes xs both.1)

ascii_scalars : (xs : List ℕ) → are_ascii xs ≡ true → scalars xs ≡ true
ascii_scalars [] h = refl
ascii_scalars (x ∷ xs) h =
    let both = and_parts (nat_lt x 128) (are_ascii xs) h in
    let low : x < 128 = ltb-true x 128 both.0 in
    rw (low_scalar x (omega arith)) (ascii_scalars xs both.1)

digits_ascii : all_below (λ n. nat_lt (digit_char n) 128) 16 ≡ true
digits_ascii = refl

digit_ascii : (n : ℕ) → nat_lt (digit_char (n % 16)) 128 ≡ true
digit_ascii n = below (λ d. nat_lt (digit_char d) 128) 16 digits_ascii (n % 16) (below_16 n)

number_ascii : (c : ℕ) → are_ascii (numbered_char c) ≡ true
number_ascii c = rw (digit_ascii (c / 4096), digit_ascii (c / 256), digit_ascii (c / 16), digit_ascii c) refl

digits_bare : all_below (λ n. not (is_numbered_in_json (digit_char n))) 16 ≡ true
digits_bare = refl

digit_bare : (n : ℕ) → is_numbered_in_json (digit_char (n % 16)) ≡ false
digit_bare n = not-true (is_numbered_in_json (digit_char (n % 16))) (below (λ d. not (is_numbered_in_json (digit_char d))) 16 digits_bare (n % 16) (below_16 n))

number_bare : (c : ℕ) → list_any is_numbered_in_json (numbered_char c) ≡ false
number_bare c = rw (digit_bare (c / 4096), digit_bare (c / 256), digit_bare (c / 16), digit_bare c) refl

-- ---- the characters of what is shown

-- the characters that are shown for one
abbrev json_points : ℕ → List ℕ
json_points c = if is_numbered_in_json c then numbered_char c else c ∷ []

abbrev text_points : ℕ → List ℕ
text_points c =
    if c == 0x5c then codes "\\\\"
    else if c == 0x8 then codes "\\b"
    else if c == 0x9 then codes "\\t"
    else if c == 0xa then codes "\\n"
    else if c == 0xc then codes "\\f"
    else if c == 0xd then codes "\\r"
    else if is_hidden c then numbered_char c
    else c ∷ []

json_encoded : (c : ℕ) → encodes (json_points c) ≡ json_char c
json_encoded c = encoded (is_numbered_in_json c) (numbered_char c) (c ∷ []) (numbered_char c) (encode c) (ascii_encodes (numbered_char c) (number_ascii c)) (append-nil (encode c))

text_encoded : (c : ℕ) → encodes (text_points c) ≡ shown_char c
text_encoded c =
    encoded (c == 0x5c) _ _ _ _ (ascii_encodes (codes "\\\\") refl)
    (encoded (c == 0x8) _ _ _ _ (ascii_encodes (codes "\\b") refl)
    (encoded (c == 0x9) _ _ _ _ (ascii_encodes (codes "\\t") refl)
    (encoded (c == 0xa) _ _ _ _ (ascii_encodes (codes "\\n") refl)
    (encoded (c == 0xc) _ _ _ _ (ascii_encodes (codes "\\f") refl)
    (encoded (c == 0xd) _ _ _ _ (ascii_encodes (codes "\\r") refl)
    (encoded (is_hidden c) _ _ _ _ (ascii_encodes (numbered_char c) (number_ascii c)) (append-nil (encode c))))))))

-- what is asked of the characters that are shown for one
abbrev PointsGood : (ℕ → Bool) → List ℕ → Type 0
PointsGood test xs = (scalars xs ≡ true) × (list_any test xs ≡ false)

json_good : (c : ℕ) → scalar c ≡ true → PointsGood is_numbered_in_json (json_points c)
json_good c ok =
    one_of (PointsGood is_numbered_in_json) (is_numbered_in_json c) (numbered_char c) (c ∷ []) (λ h. (ascii_scalars (numbered_char c) (number_ascii c), number_bare c)) (λ h. (rw ok refl, rw h refl))

hidden_numbered : (c : ℕ) → is_numbered_in_json c ≡ false → is_hidden c ≡ false
hidden_numbered c h = (or_parts (is_hidden c) _ (or_parts _ _ h).0).0

hidden_in : (xs : List ℕ) → list_any is_numbered_in_json xs ≡ false → list_any is_hidden xs ≡ false
hidden_in [] h = refl
hidden_in (x ∷ xs) h =
    let both = or_parts (is_numbered_in_json x) (list_any is_numbered_in_json xs) h in
    rw (hidden_numbered x both.0) (hidden_in xs both.1)

text_good : (c : ℕ) → scalar c ≡ true → PointsGood is_hidden (text_points c)
text_good c ok =
    one_of (PointsGood is_hidden) (c == 0x5c) _ _ (λ h. (refl, refl))
    (λ h. one_of (PointsGood is_hidden) (c == 0x8) _ _ (λ h. (refl, refl))
    (λ h. one_of (PointsGood is_hidden) (c == 0x9) _ _ (λ h. (refl, refl))
    (λ h. one_of (PointsGood is_hidden) (c == 0xa) _ _ (λ h. (refl, refl))
    (λ h. one_of (PointsGood is_hidden) (c == 0xc) _ _ (λ h. (refl, refl))
    (λ h. one_of (PointsGood is_hidden) (c == 0xd) _ _ (λ h. (refl, refl))
    (λ h. one_of (PointsGood is_hidden) (is_hidden c) (numbered_char c) (c ∷ [])
    (λ h. (ascii_scalars (numbered_char c) (number_ascii c), hidden_in (numbered_char c) (number_bare c))) (λ h. (rw ok refl, rw h refl))))))))

-- ---- bytes

is_feed : ℕ → Bool
is_feed byte = byte == line_feed

any_both : (test : ℕ → Bool) (xs ys : List ℕ) → list_any test xs ≡ false → list_any test ys ≡ false → list_any test (xs ++ ys) ≡ false
any_both test [] ys h k = k
any_both test (x ∷ xs) ys h k =
    let both = or_parts (test x) (list_any test xs) h in
    rw both.0 (any_both test xs ys both.1 k)

no_feed_high : (xs : List ℕ) → ((k : ℕ) → k < length xs → 128 ≤ get_or xs k 0) → list_any is_feed xs ≡ false
unfolding is_feed
no_feed_high [] h = refl
no_feed_high (x ∷ xs) h =
    let high : 128 ≤ x = h 0 (omega arith) in
    rw (ne_eqb x 10 (λ e. omega arith)) (no_feed_high xs (λ k lt. h (suc k) (omega arith)))

high_bytes : (c : ℕ) → 128 ≤ c → (k : ℕ) → k < length (encode c) → 128 ≤ get_or (encode c) k 0
high_bytes c big k lt =
    elim (cases_lt (get_or (encode c) k 0) 128) [
      | inl low ↦ absurd (omega (arith, inside_one c [] (encode c) k (sym (append-nil _)) lt low))
      | inr h ↦ h
    ]

-- a character that is no line feed has none in its bytes
no_feed_in : (c : ℕ) → (c ≡ 10 → ⊥) → list_any is_feed (encode c) ≡ false
unfolding is_feed
no_feed_in c differs =
    elim (cases_lt c 128) [
      | inl small ↦ rw (encode_ascii c small, ne_eqb c 10 differs) refl
      | inr big ↦ no_feed_high (encode c) (high_bytes c big)
    ]

no_feed_of : (test : ℕ → Bool) → test 10 ≡ true → (cs : List ℕ) → list_any test cs ≡ false → list_any is_feed (encodes cs) ≡ false
no_feed_of test feed [] h = refl
no_feed_of test feed (c ∷ cs) h =
    let both = or_parts (test c) (list_any test cs) h in
    any_both is_feed (encode c) (encodes cs) (no_feed_in c (λ e. false≢true (sym both.0 ∙ ap test e ∙ feed))) (no_feed_of test feed cs both.1)

-- ---- the whole

module _ (test : ℕ → Bool) (feed : test 10 ≡ true) (shown points : ℕ → List ℕ) (same : (c : ℕ) → encodes (points c) ≡ shown c) (each : (c : ℕ) → scalar c ≡ true → PointsGood test (points c)) where
  points_encoded : (cs : List ℕ) → encodes (flat_map points cs) ≡ flat_map shown cs
  points_encoded [] = refl
  points_encoded (c ∷ cs) = encodes-append (points c) (flat_map points cs) ∙ ap₂ (λ (a b : List ℕ). a ++ b) (same c) (points_encoded cs)

  scalars_both : (xs ys : List ℕ) → scalars xs ≡ true → scalars ys ≡ true → scalars (xs ++ ys) ≡ true
  scalars_both [] ys h k = k
  scalars_both (x ∷ xs) ys h k =
      let both = and_parts (scalar x) (scalars xs) h in
      rw both.0 (scalars_both xs ys both.1 k)

  points_good : (cs : List ℕ) → scalars cs ≡ true → PointsGood test (flat_map points cs)
  points_good [] ok = (refl, refl)
  points_good (c ∷ cs) ok =
      let both = and_parts (scalar c) (scalars cs) ok in
      let here = each c both.0 in
      let later = points_good cs both.1 in
      (scalars_both (points c) (flat_map points cs) here.0 later.0, any_both test (points c) (flat_map points cs) here.1 later.1)

  points_back : (cs : List ℕ) → scalars cs ≡ true → chars (flat_map shown cs) ≡ flat_map points cs
  points_back cs ok = ap chars (sym (points_encoded cs)) ∙ chars-encodes (flat_map points cs) (points_good cs ok).0

  is_plain : (cs : List ℕ) → scalars cs ≡ true → HasNone test (flat_map shown cs)
  unfolding is_feed
  is_plain cs ok =
      let good = points_good cs ok in
      record {
        utf8 = (flat_map points cs, (good.0, points_encoded cs));
        none = ap (list_any test) (points_back cs ok) ∙ good.1;
        one_line = subst (λ (bs : List ℕ). list_any is_feed bs ≡ false) (points_encoded cs) (no_feed_of test feed (flat_map points cs) good.1);
      }

pub texts_plain : ShownTextsArePlain
texts_plain text u = is_plain is_hidden refl shown_char text_points text_encoded text_good (chars text) (scalars-chars text u)

pub json_plain : ShownJsonIsPlain
json_plain json u = is_plain is_numbered_in_json refl json_char json_points json_encoded json_good (chars json) (scalars-chars json u)

-- ---- read back

-- from U+10000 on no character is hidden
beyond : (c : ℕ) → 65536 ≤ c → is_hidden c ≡ false
beyond c h =
    rw (
      le-leb 0x0 c (omega arith),
      lt-leb c 0x1f (omega arith),
      le-leb 0x7f c (omega arith),
      lt-leb c 0x9f (omega arith),
      le-leb 0x2028 c (omega arith),
      lt-leb c 0x2029 (omega arith),
      ne_eqb c 0x61c (λ e. omega arith),
      le-leb 0x200e c (omega arith),
      lt-leb c 0x200f (omega arith),
      le-leb 0x202a c (omega arith),
      lt-leb c 0x202e (omega arith),
      le-leb 0x2066 c (omega arith),
      lt-leb c 0x2069 (omega arith),
    ) refl

hidden_small : (c : ℕ) → is_hidden c ≡ true → c < 65536
hidden_small c e =
    elim (cases_lt c 65536) [
      | inl h ↦ h
      | inr h ↦ absurd (false≢true (sym (beyond c h) ∙ e))
    ]

digit_back : (n : ℕ) → digit_value (digit_char (n % 16)) ≡ n % 16
digit_back n = digit_value-digit_char (n % 16) (omega arith)

fits : (c : ℕ) → c < 65536 → c / 4096 % 16 * 4096 + c / 256 % 16 * 256 + c / 16 % 16 * 16 + c % 16 ≡ c
fits c h = omega arith

abbrev Read : Type 0
Read = Option (ℕ × List ℕ)

-- after a backslash and a u
abbrev by_digits : List ℕ → Read
by_digits (a ∷ b ∷ c ∷ d ∷ r) = Some (digit_value a * 4096 + digit_value b * 256 + digit_value c * 16 + digit_value d, r)
by_digits _ = None

-- after a backslash
abbrev by_letter : List ℕ → Read
by_letter [] = None
by_letter (x ∷ r) =
    if x == 0x5c then Some (0x5c, r)
    else if x == 0x62 then Some (0x8, r)
    else if x == 0x74 then Some (0x9, r)
    else if x == 0x6e then Some (0xa, r)
    else if x == 0x66 then Some (0xc, r)
    else if x == 0x72 then Some (0xd, r)
    else by_digits r

-- the first character that is shown, and the rest
abbrev first_of : List ℕ → Read
first_of [] = None
first_of (x ∷ r) = if x == 0x5c then by_letter r else Some (x, r)

number_back : (c : ℕ) (r : List ℕ) → c < 65536 → first_of (numbered_char c ++ r) ≡ Some (c, r)
number_back c r h =
    ap (λ (n : ℕ). Some (n, r))
    (rw (digit_back (c / 4096), digit_back (c / 256), digit_back (c / 16), digit_back c) (fits c h))

itself_back : (c : ℕ) (r : List ℕ) → (c == 0x5c) ≡ false → first_of (c ∷ r) ≡ Some (c, r)
itself_back c r h = rw h refl

first_back : (c : ℕ) (r : List ℕ) → first_of (text_points c ++ r) ≡ Some (c, r)
first_back c r =
    elim (cases_eq c 0x5c) [
      | inl is ↦ subst Back (sym is) refl
      | inr no5c ↦
          elim (cases_eq c 0x8) [
            | inl is ↦ subst Back (sym is) refl
            | inr no8 ↦
                elim (cases_eq c 0x9) [
                  | inl is ↦ subst Back (sym is) refl
                  | inr no9 ↦
                      elim (cases_eq c 0xa) [
                        | inl is ↦ subst Back (sym is) refl
                        | inr noa ↦
                            elim (cases_eq c 0xc) [
                              | inl is ↦ subst Back (sym is) refl
                              | inr noc ↦
                                  elim (cases_eq c 0xd) [
                                    | inl is ↦ subst Back (sym is) refl
                                    | inr nod ↦
                                        others (ne_eqb c 0x5c no5c, ne_eqb c 0x8 no8, ne_eqb c 0x9 no9, ne_eqb c 0xa noa, ne_eqb c 0xc noc, ne_eqb c 0xd nod)
                                  ]
                            ]
                      ]
                ]
          ]
    ]
  where
    Back : ℕ → Type 0
    Back d = first_of (text_points d ++ r) ≡ Some (d, r)

    others : ((c == 0x5c) ≡ false) × ((c == 0x8) ≡ false) × ((c == 0x9) ≡ false) × ((c == 0xa) ≡ false) × ((c == 0xc) ≡ false) × ((c == 0xd) ≡ false) → first_of (text_points c ++ r) ≡ Some (c, r)
    others h =
        elim (cases_Bool (is_hidden c)) [
          | inl is ↦ rw (h.0, h.1, h.2, h.3, h.4, h.5, is) (number_back c r (hidden_small c is))
          | inr isnt ↦ rw (h.0, h.1, h.2, h.3, h.4, h.5, isnt) (itself_back c r h.0)
        ]

some_same : (p q : ℕ × List ℕ) → ◌≡◌ {A = Read} (Some p) (Some q) → p ≡ q
some_same p q e = cc

none_left : (d : ℕ) (ds : List ℕ) → [] ≡ flat_map text_points (d ∷ ds) → ⊥
none_left d ds e = apart (d, flat_map text_points ds) (ap first_of e ∙ first_back d (flat_map text_points ds))
  where
    apart : (p : ℕ × List ℕ) → ◌≡◌ {A = Read} None (Some p) → ⊥
    apart p k = cc

points_same : (cs ds : List ℕ) → flat_map text_points cs ≡ flat_map text_points ds → cs ≡ ds
points_same [] [] e = refl
points_same [] (d ∷ ds) e = absurd (none_left d ds e)
points_same (c ∷ cs) [] e = absurd (none_left c cs (sym e))
points_same (c ∷ cs) (d ∷ ds) e =
    let same = some_same (c, flat_map text_points cs) (d, flat_map text_points ds) (sym (first_back c (flat_map text_points cs)) ∙ ap first_of e ∙ first_back d (flat_map text_points ds)) in
    ap₂ (λ (x : ℕ) (xs : List ℕ). x ∷ xs) (ap (λ (p : ℕ × List ℕ). p.0) same) (points_same cs ds (ap (λ (p : ℕ × List ℕ). p.1) same))

pub unlike_shown : UnlikeTextsAreShownUnlike
unlike_shown a b u v e =
    let back = λ (t : List ℕ) (w : IsUtf8 t). points_back is_hidden refl shown_char text_points text_encoded text_good (chars t) (scalars-chars t w) in
    let same = points_same (chars a) (chars b) (sym (back a u) ∙ ap chars e ∙ back b v) in
    sym (encodes-chars a u) ∙ ap encodes same ∙ encodes-chars b v
