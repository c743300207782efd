-- The content of a string in JSON text of UTF-8 is UTF-8.
use Rattle.std.proofs.Common.{◌≡◌, ◌<◌, ◌≤◌, ◌==◌, ◌&&◌, ◌||◌, ◌+◌, ◌*◌, ℕ, Bool, true, false, cond, List, [], ◌∷◌, ◌++◌, Option, Some, None, refl, sym, subst, arith, append_assoc, IsUtf8}
use Rattle.std.specs.Prelude.{nat_lt, nat_le, option_and_then, IfSome}
use Rattle.std.specs.Char.{encode_utf8, is_digit, digit_value, IsScalar}
use Rattle.std.proofs.lemmas.Bool.{and_parts, eqb-true, ltb-true, leb-true}
use Rattle.std.proofs.lemmas.Bool.Decides.{nat_tests}
use Rattle.std.proofs.lemmas.Str.{IsUtf8-append, IsUtf8-nil, IsUtf8-encode}
use Rattle.json.proofs.Printed.Utf8.{IsUtf8-are_ascii}
use Rattle.json.specs.Text.{Within, plain, after_backslash, after_u, after_high, content, prepend, code_unit, short_escape, is_high_surrogate, is_low_surrogate, surrogate_pair}
use Rattle.cm_compiled_good.proofs.Filling.{cut_utf8}

-- ---- escapes

-- a test that decides, and what holds where it holds
pub by_test : {X : Type 0} (P : X → Type 0) (b : Bool) (x y : X) → (b ≡ true → P x) → (b ≡ false → P y) → P (cond b x y)
by_test P true x y h k = h refl
by_test P false x y h k = k refl

-- what is escaped and what it stands for are ASCII
abbrev BothAscii : ℕ → Option ℕ → Type 0
BothAscii x o = IfSome o (λ c. (c < 128) × (x < 128))

both_ascii : (x c : ℕ) → (x == c) ≡ true → c < 128 → (n : ℕ) → n < 128 → BothAscii x (Some n)
both_ascii x c e small n few = let is = eqb-true x c e in (few, omega arith)

itself_ascii : (x : ℕ) → ((x == 34) || (x == 92) || (x == 47)) ≡ true → BothAscii x (Some x)
itself_ascii x e = let small : x < 128 = grind (arith, nat_tests) in (small, small)

short_ascii : (x : ℕ) → BothAscii x (short_escape x)
unfolding short_escape
short_ascii x =
    by_test (BothAscii x) _ _ _ (itself_ascii x) (λ n0. by_test (BothAscii x) (x == 98) _ _ (λ e. both_ascii x 98 e (omega arith) 8 (omega arith))
    (λ n1. by_test (BothAscii x) (x == 102) _ _ (λ e. both_ascii x 102 e (omega arith) 12 (omega arith))
    (λ n2. by_test (BothAscii x) (x == 110) _ _ (λ e. both_ascii x 110 e (omega arith) 10 (omega arith))
    (λ n3. by_test (BothAscii x) (x == 114) _ _ (λ e. both_ascii x 114 e (omega arith) 13 (omega arith))
    (λ n4. by_test (BothAscii x) (x == 116) _ _ (λ e. both_ascii x 116 e (omega arith) 9 (omega arith)) (λ n5. tt))))))

hex_ascii : (c : ℕ) → is_digit c 16 ≡ true → (c < 128) × (digit_value c < 16)
hex_ascii c e = let few : digit_value c < 16 = ltb-true (digit_value c) 16 e in (grind (arith, nat_tests), few)

abbrev UnitOfAscii : (a b c d : ℕ) → Option ℕ → Type 0
UnitOfAscii a b c d o = IfSome o (λ u. (u < 65536) × (a < 128) × (b < 128) × (c < 128) × (d < 128))

unit_ascii : (a b c d : ℕ) → UnitOfAscii a b c d (code_unit a b c d)
unfolding code_unit
unit_ascii a b c d =
    by_test (UnitOfAscii a b c d) _ (Some (digit_value a * 4096 + digit_value b * 256 + digit_value c * 16 + digit_value d)) None (λ e.
    let three = and_parts _ (is_digit d 16) e in
    let two = and_parts _ (is_digit c 16) three.0 in
    let one = and_parts (is_digit a 16) (is_digit b 16) two.0 in
    let ha = hex_ascii a one.0 in
    let hb = hex_ascii b one.1 in
    let hc = hex_ascii c two.1 in
    let hd = hex_ascii d three.1 in
    (omega arith, ha.0, hb.0, hc.0, hd.0)) (λ e. tt)

-- ---- the content of a string

-- what holds of the bytes so far and those that come
abbrev Stands : Within → (front rest : List ℕ) → Type 0
Stands plain p d = IsUtf8 (p ++ d)
Stands after_backslash p d = IsUtf8 p × IsUtf8 d
Stands after_u p d = IsUtf8 p × IsUtf8 d
Stands (after_high h) p d = IsUtf8 p × IsUtf8 d × (55296 ≤ h) × (h < 56320)

-- the content is UTF-8 after these bytes
abbrev Goes : (front : List ℕ) → Option (List ℕ) → Type 0
Goes p o = IfSome o (λ s. IsUtf8 (p ++ s))

prepended : (p b : List ℕ) (o : Option (List ℕ)) → Goes (p ++ b) o → Goes p (prepend b o)
prepended p b None h = tt
prepended p b (Some s) h = subst IsUtf8 (append_assoc p b s) h

tail_utf8 : (x : ℕ) (xs : List ℕ) → x < 128 → IsUtf8 (x ∷ xs) → IsUtf8 xs
tail_utf8 x xs small u = (cut_utf8 [] x xs small u).1

one_ascii : (c : ℕ) → c < 128 → IsUtf8 (c ∷ [])
one_ascii c small = IsUtf8-are_ascii (c ∷ []) (grind (arith, nat_tests))

-- a character that a code unit or a pair of them is
unit_scalar : (u : ℕ) → u < 65536 → is_high_surrogate u ≡ false → is_low_surrogate u ≡ false → IsScalar u
unit_scalar u few high low = grind (arith, nat_tests)

pair_scalar : (h l : ℕ) → 55296 ≤ h → h < 56320 → is_low_surrogate l ≡ true → IsScalar (surrogate_pair h l)
pair_scalar h l low few is = grind (arith, nat_tests)

-- what comes of the bytes after an escape
abbrev Continues : (rest : List ℕ) → Type 0
Continues xs = (q : List ℕ) → IsUtf8 (q ++ xs) → Goes q (content plain xs)

after_short : (p : List ℕ) (x : ℕ) (xs : List ℕ) (o : Option ℕ) → BothAscii x o → IsUtf8 p → IsUtf8 (x ∷ xs) → Continues xs → Goes p (option_and_then (λ c. prepend (c ∷ []) (content plain xs)) o)
after_short p x xs None both u v go = tt
after_short p x xs (Some c) both u v go =
    let front : IsUtf8 (p ++ c ∷ []) = IsUtf8-append p (c ∷ []) u (one_ascii c both.0) in
    prepended p (c ∷ []) (content plain xs) (go (p ++ c ∷ []) (IsUtf8-append (p ++ c ∷ []) xs front (tail_utf8 x xs both.1 v)))

encoded_then : (p xs : List ℕ) (c : ℕ) → IsScalar c → IsUtf8 p → IsUtf8 xs → Continues xs → Goes p (prepend (encode_utf8 c) (content plain xs))
encoded_then p xs c is u v go =
    let front : IsUtf8 (p ++ encode_utf8 c) = IsUtf8-append p (encode_utf8 c) u (IsUtf8-encode c is) in
    prepended p (encode_utf8 c) (content plain xs) (go (p ++ encode_utf8 c) (IsUtf8-append (p ++ encode_utf8 c) xs front v))

four_less : (a b c d : ℕ) (xs : List ℕ) → a < 128 → b < 128 → c < 128 → d < 128 → IsUtf8 (a ∷ b ∷ c ∷ d ∷ xs) → IsUtf8 xs
four_less a b c d xs ha hb hc hd u = tail_utf8 d xs hd (tail_utf8 c (d ∷ xs) hc (tail_utf8 b (c ∷ d ∷ xs) hb (tail_utf8 a (b ∷ c ∷ d ∷ xs) ha u)))

after_unit : (p : List ℕ) (a b c d : ℕ) (xs : List ℕ) (o : Option ℕ) → UnitOfAscii a b c d o → IsUtf8 p → IsUtf8 (a ∷ b ∷ c ∷ d ∷ xs) → Continues xs
    → ((n : ℕ) → Stands (after_high n) p xs → Goes p (content (after_high n) xs))
    → Goes p (option_and_then (λ u. cond (is_high_surrogate u) (content (after_high u) xs) (cond (is_low_surrogate u) None (prepend (encode_utf8 u) (content plain xs)))) o)
after_unit p a b c d xs None h u v go high_go = tt
after_unit p a b c d xs (Some n) h u v go high_go =
    let rest = four_less a b c d xs h.1 h.2 h.3 h.4 v in
    by_test (Goes p) (is_high_surrogate n) _ _ (λ e.
    let range = and_parts (nat_le 55296 n) _ e in
    high_go n (u, rest, leb-true 55296 n range.0, ltb-true n 56320 range.1)) (λ high. by_test (Goes p) (is_low_surrogate n) _ _ (λ e. tt) (λ low. encoded_then p xs n (unit_scalar n h.0 high low) u rest go))

after_pair : (p : List ℕ) (high : ℕ) (a b c d : ℕ) (xs : List ℕ) (o : Option ℕ) → 55296 ≤ high → high < 56320 → UnitOfAscii a b c d o → IsUtf8 p → IsUtf8 (a ∷ b ∷ c ∷ d ∷ xs) → Continues xs
    → Goes p (option_and_then (λ l. cond (is_low_surrogate l) (prepend (encode_utf8 (surrogate_pair high l)) (content plain xs)) None) o)
after_pair p high a b c d xs None least few h u v go = tt
after_pair p high a b c d xs (Some n) least few h u v go =
    by_test (Goes p) (is_low_surrogate n) _ _ (λ low. encoded_then p xs (surrogate_pair high n) (pair_scalar high n least few low) u (four_less a b c d xs h.1 h.2 h.3 h.4 v) go) (λ e. tt)

said : (w : Within) (p d : List ℕ) → Stands w p d → Goes p (content w d)
unfolding content
said plain p [] h = tt
said plain p (x ∷ xs) h =
    by_test (Goes p) (x == 34) _ _ (λ e. let is = eqb-true x 34 e in IsUtf8-append p [] (cut_utf8 p x xs (omega arith) h).0 IsUtf8-nil)
    (λ n0. by_test (Goes p) (x == 92) _ _ (λ e. let is = eqb-true x 92 e in said after_backslash p xs (cut_utf8 p x xs (omega arith) h))
    (λ n1. by_test (Goes p) (nat_lt x 32) _ _ (λ e. tt) (λ n2. prepended p (x ∷ []) (content plain xs) (said plain (p ++ x ∷ []) xs (subst IsUtf8 (sym (append_assoc p (x ∷ []) xs)) h)))))
said after_backslash p [] h = tt
said after_backslash p (x ∷ xs) h =
    by_test (Goes p) (x == 117) _ _ (λ e. let is = eqb-true x 117 e in said after_u p xs (h.0, tail_utf8 x xs (omega arith) h.1)) (λ n. after_short p x xs (short_escape x) (short_ascii x) h.0 h.1 (λ q u. said plain q xs u))
said after_u p [] h = tt
said after_u p (a ∷ []) h = tt
said after_u p (a ∷ b ∷ []) h = tt
said after_u p (a ∷ b ∷ c ∷ []) h = tt
said after_u p (a ∷ b ∷ c ∷ d ∷ xs) h = after_unit p a b c d xs (code_unit a b c d) (unit_ascii a b c d) h.0 h.1 (λ q u. said plain q xs u) (λ n k. said (after_high n) p xs k)
said (after_high n) p [] h = tt
said (after_high n) p (s ∷ []) h = tt
said (after_high n) p (s ∷ u ∷ []) h = tt
said (after_high n) p (s ∷ u ∷ a ∷ []) h = tt
said (after_high n) p (s ∷ u ∷ a ∷ b ∷ []) h = tt
said (after_high n) p (s ∷ u ∷ a ∷ b ∷ c ∷ []) h = tt
said (after_high n) p (s ∷ u ∷ a ∷ b ∷ c ∷ d ∷ xs) h =
    by_test (Goes p) ((s == 92) && (u == 117)) _ _ (λ e.
    let both = and_parts (s == 92) _ e in
    let slash = eqb-true s 92 both.0 in
    let letter = eqb-true u 117 both.1 in
    let rest : IsUtf8 (a ∷ b ∷ c ∷ d ∷ xs) = tail_utf8 u (a ∷ b ∷ c ∷ d ∷ xs) (omega arith) (tail_utf8 s (u ∷ a ∷ b ∷ c ∷ d ∷ xs) (omega arith) h.1) in
    after_pair p n a b c d xs (code_unit a b c d) h.2 h.3 (unit_ascii a b c d) h.0 rest (λ q v. said plain q xs v)) (λ e. tt)

pub content_utf8 : (text : List ℕ) → IsUtf8 text → IfSome (content plain text) IsUtf8
content_utf8 text u = said plain [] text u
