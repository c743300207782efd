-- The characters of a text's parts.
use Rattle.std.proofs.Common.{◌≡◌, ℕ, zero, suc, ◌+◌, ◌<◌, ◌≤◌, Bool, true, false, cond, List, [], ◌∷◌, ◌++◌, length, drop, Option, Some, None, sym, refl, ap, ◌∙◌, subst, arith}
use Rattle.std.specs.Prelude.{◌&&◌, ◌||◌, find, IfSome, OnOk, is_ok, Result, Ok, Err, ◌==◌, if◌then◌else◌, MatchOption}
use Rattle.std.specs.Char.{is_ascii, encode_utf8, IsScalar}
use Rattle.std.specs.List.{list_all, list_any}
use Rattle.std.specs.Option.{option_map}
use Rattle.std.proofs.lemmas.Slice.Eq.{bytes_eq-Decides}
use Rattle.std.proofs.lemmas.Bool.Decides.{same_from_decides}
use Rattle.std.specs.Str.Pattern.{FindsTextPrefix, StripsPrefix}
use Rattle.std.proofs.lemmas.Str.{IsUtf8-drop, chars_past_char, cons_from_encodes, IsUtf8-encode}
use Rattle.std.proofs.Common.{Bor, length-drop}
use Rattle.std.proofs.lemmas.List.{append-nil, append_assoc}
use Rattle.std.specs.Str.{chars, IsUtf8, all_scalars, encode_utf8_all, skip_leading_whitespace, trim_start, IsAscii, IsCharBoundary, bytes_eq}
use Rattle.std.proofs.lemmas.Str.{chars_from_encodes, encodes-chars, chars-nil, scalars-chars, chars-append, chars-IsAscii, encodes-append, encodes-IsAscii, IsUtf8-from_ascii}
use Rattle.std.proofs.lemmas.Grind.{common_steps}
use Rattle.gk_line.specs.Texts.{text_after_indent, after, TakesFirst}

pub and_true : (a b : Bool) → (a && b) ≡ true → (a ≡ true) × (b ≡ true)
and_true true b h = (refl, h)
and_true false b h = absurd (cc)

scalars-skip : (cs : List ℕ) → all_scalars cs ≡ true → all_scalars (skip_leading_whitespace cs) ≡ true
scalars-skip [] h = refl
scalars-skip (c ∷ cs) h = grind (arith, common_steps, scalars-skip cs)

-- the characters of what `trim_start` gives
pub chars-trim_start : (bs t : List ℕ) → IsUtf8 t → t ≡ trim_start bs → chars t ≡ text_after_indent (chars bs)
unfolding trim_start text_after_indent
chars-trim_start bs t u e = sym (chars_from_encodes (skip_leading_whitespace (chars bs)) t u (sym e))

-- a text of ASCII alone
pub ascii_bytes : (p : List ℕ) → list_all is_ascii p ≡ true → IsAscii p
ascii_bytes [] h i = grind (arith, common_steps)
ascii_bytes (b ∷ p) h zero = grind (arith, common_steps)
ascii_bytes (b ∷ p) h (suc i) = grind (arith, common_steps, ascii_bytes p)

after-append : (p cs : List ℕ) → after p (p ++ cs) ≡ Some cs
unfolding after
after-append [] cs = refl
after-append (b ∷ p) cs = grind (arith, common_steps, after-append p cs)

pub after-some : (p xs cs : List ℕ) → after p xs ≡ Some cs → xs ≡ p ++ cs
unfolding after
after-some [] xs cs e = grind (arith, common_steps)
after-some (b ∷ p) [] cs e = cc
after-some (b ∷ p) (x ∷ xs) cs e = grind (arith, common_steps, after-some p xs cs)

-- what `strip_prefix` gives at a front of ASCII alone
pub after-strip_prefix : (p bs : List ℕ) (r : Option (Bor (List ℕ))) → IsUtf8 bs → list_all is_ascii p ≡ true → MatchOption r (FindsTextPrefix p bs None) (λ x. StripsPrefix (FindsTextPrefix p) bs x.now) → option_map (λ x. chars x.now) r ≡ after p (chars bs)
after-strip_prefix p bs None u a lacks = none (after p (chars bs)) refl where
  none : (o : Option (List ℕ)) → after p (chars bs) ≡ o → None ≡ o
  none None e = refl
  none (Some cs) e =
      absurd (lacks (encode_utf8_all cs) (sym (encodes-chars bs u) ∙ ap encode_utf8_all (after-some p (chars bs) cs e) ∙ encodes-append p cs ∙ ap (λ q. q ++ encode_utf8_all cs) (encodes-IsAscii p (ascii_bytes p a))))
after-strip_prefix p bs (Some x) u a (n, (is_len, parts, at), is, len) =
    let ascii = ascii_bytes p a in
    sym (ap (after p) (ap chars parts ∙ chars-append p (drop n bs) (IsUtf8-from_ascii p ascii) ∙ ap (λ q. q ++ chars (drop n bs)) (chars-IsAscii p ascii)) ∙ after-append p (chars (drop n bs)) ∙ ap (λ q. Some (chars q)) (sym is))

-- a text is empty just where it has no character
pub is_empty_chars : (bs : List ℕ) → IsUtf8 bs → (length (chars bs) == 0) ≡ (length bs == 0)
is_empty_chars [] u = rw chars-nil refl
is_empty_chars (b ∷ bs) u = by_chars (chars (b ∷ bs)) (encodes-chars (b ∷ bs) u) where
  by_chars : (cs : List ℕ) → encode_utf8_all cs ≡ b ∷ bs → (length cs == 0) ≡ (length (b ∷ bs) == 0)
  by_chars [] e = absurd (cc)
  by_chars (c ∷ cs) e = grind (arith, common_steps)

pub nonempty-chars : (bs : List ℕ) → IsUtf8 bs → 0 < length bs → 0 < length (chars bs)
nonempty-chars bs u l = by_chars (chars bs) (encodes-chars bs u) where
  by_chars : (cs : List ℕ) → encode_utf8_all cs ≡ bs → 0 < length cs
  by_chars [] e = absurd (omega (arith, ap length e))
  by_chars (c ∷ cs) e = omega arith

-- a text is a word of ASCII alone just where its characters are
pub bytes_eq-chars : (w k : List ℕ) → IsUtf8 w → list_all is_ascii k ≡ true → bytes_eq w k ≡ bytes_eq (chars w) k
bytes_eq-chars w k u a =
    let ascii = ascii_bytes k a in
    let by_bytes = bytes_eq-Decides w k in
    let by_chars = bytes_eq-Decides (chars w) k in
    same_from_decides (bytes_eq w k) (bytes_eq (chars w) k)
    (λ h. ap chars (by_bytes.0 h) ∙ chars-IsAscii k ascii, λ e. by_bytes.1 (sym (encodes-chars w u) ∙ ap encode_utf8_all e ∙ encodes-IsAscii k ascii))
    by_chars

pub find-chars : {A : Type 0} (key : A → List ℕ) (xs : List A) (w : List ℕ) → IsUtf8 w → list_all (λ a. list_all is_ascii (key a)) xs ≡ true → find (λ a. bytes_eq w (key a)) xs ≡ find (λ a. bytes_eq (chars w) (key a)) xs
find-chars key [] w u h = refl
find-chars key (a ∷ xs) w u h =
    let both = and_true _ _ h in
    rw (bytes_eq-chars w (key a) u both.0) (ap (λ o. cond (bytes_eq (chars w) (key a)) (Some a) o) (find-chars key xs w u both.1))

pub list_any-chars : (ks : List (List ℕ)) (w : List ℕ) → IsUtf8 w → list_all (λ k. list_all is_ascii k) ks ≡ true → list_any (bytes_eq w) ks ≡ list_any (bytes_eq (chars w)) ks
list_any-chars [] w u h = refl
list_any-chars (k ∷ ks) w u h =
    let both = and_true _ _ h in
    rw (bytes_eq-chars w k u both.0) (ap (λ o. bytes_eq (chars w) k || o) (list_any-chars ks w u both.1))

pub nil_from_empty : (bs : List ℕ) → length bs ≡ 0 → bs ≡ []
nil_from_empty [] e = refl
nil_from_empty (b ∷ bs) e = absurd (omega arith)

-- one character off the front
pub TakesFirst-char : (text rest : List ℕ) (c : ℕ) → IsUtf8 text → IsUtf8 rest → text ≡ encode_utf8 c ++ rest → TakesFirst text rest
TakesFirst-char text rest c u ur parts =
    let scalar : IsUtf8 (encode_utf8 c) = IsUtf8-first (chars text) c rest (scalars-chars text u) (encodes-chars text u ∙ parts) in
    record {
      first = encode_utf8 c;
      character = c;
      parts = parts;
      is_text = scalar;
      is_one = chars_past_char (encode_utf8 c) [] c scalar (sym (append-nil (encode_utf8 c))) ∙ ap (λ q. c ∷ q) chars-nil;
      rest_is_text = ur;
    } where
      IsUtf8-first : (cs : List ℕ) (c : ℕ) (rest : List ℕ) → all_scalars cs ≡ true → encode_utf8_all cs ≡ encode_utf8 c ++ rest → IsUtf8 (encode_utf8 c)
      IsUtf8-first cs c rest all e =
          let split = cons_from_encodes cs rest c e in
          let scalars : all_scalars (c ∷ split.0) ≡ true = subst (λ q. all_scalars q ≡ true) split.1 all in
          IsUtf8-encode c (and_true _ _ scalars).0

-- a text that has grown by a character
pub grown_chars : (old new : List ℕ) (c : ℕ) → IsScalar c → IsUtf8 old → new ≡ old ++ encode_utf8 c → chars new ≡ chars old ++ c ∷ []
grown_chars old new c s u e =
    let one : chars (encode_utf8 c) ≡ c ∷ [] = chars_past_char (encode_utf8 c) [] c (IsUtf8-encode c s) (sym (append-nil (encode_utf8 c))) ∙ ap (λ q. c ∷ q) chars-nil in
    ap chars e ∙ chars-append old (encode_utf8 c) u ∙ ap (λ q. chars old ++ q) one

pub push_chars : {T E : Type 0} (r : Result T E) (old new : List ℕ) (c : ℕ) → IsScalar c → IsUtf8 old → new ≡ (if is_ok r then old ++ encode_utf8 c else old) → OnOk r (chars new ≡ chars old ++ c ∷ [])
push_chars (Ok v) old new c s u e = grown_chars old new c s u e
push_chars (Err v) old new c s u e = tt

pub push_twice : {T E : Type 0} (r : Result T E) (old mid new : List ℕ) (b c : ℕ) → IsScalar b → IsScalar c → IsUtf8 old → IsUtf8 mid → mid ≡ old ++ encode_utf8 b → new ≡ (if is_ok r then mid ++ encode_utf8 c else mid) → OnOk r (chars new ≡ chars old ++ b ∷ c ∷ [])
push_twice (Ok v) old mid new b c sb sc uo um first second =
    grown_chars mid new c sc um second ∙ ap (λ q. q ++ c ∷ []) (grown_chars old mid b sb uo first) ∙ append_assoc (chars old) (b ∷ []) (c ∷ [])
push_twice (Err v) old mid new b c sb sc uo um first second = tt

pub on_ok_same : {T E : Type 0} (r : Result T E) (new old p q : List ℕ) → p ≡ q → OnOk r (new ≡ old ++ p) → OnOk r (new ≡ old ++ q)
on_ok_same (Ok v) new old p q e h = h ∙ ap (λ x. old ++ x) e
on_ok_same (Err v) new old p q e h = tt

pub utf8-strip_prefix : (p bs : List ℕ) (r : Option (Bor (List ℕ))) → IsUtf8 bs → MatchOption r (FindsTextPrefix p bs None) (λ x. StripsPrefix (FindsTextPrefix p) bs x.now) → IfSome r (λ x. IsUtf8 x.now)
utf8-strip_prefix p bs None u h = tt
utf8-strip_prefix p bs (Some x) u (n, (is_len, parts, at), is, len) =
    rw is (IsUtf8-drop bs n u (subst (λ k. IsCharBoundary bs k) (sym is_len) at))

-- the characters of a text less its first
pub TakesFirst-chars : (text rest : List ℕ) (t : TakesFirst text rest) → chars text ≡ t.character ∷ chars rest
TakesFirst-chars text rest t = ap chars t.parts ∙ chars-append t.first rest t.is_text ∙ ap (λ q. q ++ chars rest) t.is_one

pub drop_next : (cs rest : List ℕ) (i c : ℕ) → c ∷ rest ≡ drop i cs → rest ≡ drop (i + 1) cs
drop_next cs rest zero c e = grind (arith, common_steps)
drop_next [] rest (suc i) c e = absurd (cc)
drop_next (d ∷ cs) rest (suc i) c e = drop_next cs rest i c e ∙ grind (arith, common_steps)

pub drop_none : (cs : List ℕ) (i n : ℕ) → [] ≡ drop i cs → i ≤ n → [] ≡ drop n cs
drop_none cs i n e l = grind (arith, common_steps, length-drop i cs, length-drop n cs, ap length e)

pub length-strip_prefix : (p bs : List ℕ) (r : Option (Bor (List ℕ))) → MatchOption r (FindsTextPrefix p bs None) (λ x. StripsPrefix (FindsTextPrefix p) bs x.now) → IfSome r (λ x. length x.now + length p ≡ length bs)
length-strip_prefix p bs None h = tt
length-strip_prefix p bs (Some x) (n, (is_len, parts, at), is, len) = omega (arith, is_len, len)
