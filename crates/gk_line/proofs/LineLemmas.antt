-- A text cut at its first line feed.
use Rattle.std.proofs.Common.{◌≡◌, ◌≢◌, ℕ, suc, ◌+◌, ◌-◌, ◌<◌, true, cond, List, [], ◌∷◌, ◌++◌, length, take, drop, get_or, drop-cons, add-one, lit<, Option, Some, None, Bor, sym, refl, ap, ◌∙◌, subst, arith, length-append}
use Rattle.std.specs.Prelude.{◌==◌, MatchOption, unwrap_or}
use Rattle.std.specs.List.{slice_split}
use Rattle.std.specs.Str.{chars, IsUtf8, NonePass, encode_utf8_all}
use Rattle.std.specs.Char.{encode_utf8}
use Rattle.std.specs.Str.Lines.{lines, lines_of_parts, strip_carriage_return}
use Rattle.std.specs.Str.Pattern.{FindsCharPrefix, StripsPrefix}
use Rattle.std.proofs.lemmas.Grind.{common_steps}
use Rattle.std.proofs.lemmas.Grind.{take_at_read}
use Rattle.std.proofs.lemmas.Bool.{ne_eqb, eqb-true, eq-eqb}
use Rattle.std.proofs.lemmas.List.{take-append-drop, get_or-append-add, get_or-take, length-take}
use Rattle.std.proofs.lemmas.List.Splits.{length-slice_split}
use Rattle.std.proofs.lemmas.Str.{encodes-chars, chars-append, chars-nil, chars_past_char, encodes-append, encodes-IsAscii, chars-IsAscii, encode_ascii, IsUtf8-take, IsUtf8-drop, IsCharBoundary-before_ascii, IsCharBoundary-after_ascii}
use Rattle.memchr.specs.Find.{IsFirstByte, is_byte}
use Rattle.gk_line.proofs.TextLemmas.{nonempty-chars, ascii_bytes}
use Rattle.gk_line.specs.Texts.{IsCutAt}
use Rattle.gk_line.specs.Lines.{without_mark, numbered_lines}
use Rattle.gk_line.specs.Characters.{byte_order_mark, carriage_return, line_feed}

-- a text without this byte has no such character
none_from_bytes : (b : ℕ) (cs : List ℕ) → b < 128 → ((k : ℕ) → k < length (encode_utf8_all cs) → get_or (encode_utf8_all cs) k 0 ≢ b) → NonePass (λ d. d == b) cs
none_from_bytes b [] a h = tt
none_from_bytes b (c ∷ cs) a h =
    let here : c ≡ b → ⊥ = λ e.
    let one : encode_utf8 c ≡ c ∷ [] = encode_ascii c (omega arith) in
    let whole : encode_utf8_all (c ∷ cs) ≡ c ∷ encode_utf8_all cs = ap (λ q. q ++ encode_utf8_all cs) one in
    h 0 (rw whole (omega arith)) (rw whole e) in
    (ne_eqb c b here, none_from_bytes b cs a (λ k l e. h (length (encode_utf8 c) + k) (omega (arith, length-append (encode_utf8 c) (encode_utf8_all cs))) (get_or-append-add (encode_utf8 c) (encode_utf8_all cs) k 0 ∙ e)))

lines_of_parts-cons : (x : List ℕ) (parts : List (List ℕ)) → 0 < length parts → lines_of_parts (x ∷ parts) ≡ strip_carriage_return x ∷ lines_of_parts parts
lines_of_parts-cons x [] l = absurd (omega arith)
lines_of_parts-cons x (y ∷ more) l = refl

pub split_at : (xs ys : List ℕ) (b : ℕ) → NonePass (λ d. d == b) xs → slice_split (λ d. d == b) (xs ++ b ∷ ys) ≡ xs ∷ slice_split (λ d. d == b) ys
split_at [] ys b h = grind (arith, common_steps)
split_at (x ∷ xs) ys b h = rw (h.0, split_at xs ys b h.1) refl

pub split_none : (xs : List ℕ) (b : ℕ) → NonePass (λ d. d == b) xs → slice_split (λ d. d == b) xs ≡ xs ∷ []
split_none [] b h = refl
split_none (x ∷ xs) b h = rw (h.0, split_none xs b h.1) refl

pub lines-first : (front rest : List ℕ) → NonePass (λ d. d == line_feed) front → lines (front ++ line_feed ∷ rest) ≡ strip_carriage_return front ∷ lines rest
lines-first front rest h =
    ap lines_of_parts (split_at front rest line_feed h)
    ∙ lines_of_parts-cons front (slice_split (λ d. d == line_feed) rest) (omega (arith, length-slice_split (λ d. d == line_feed) rest))

pub lines-last : (line : List ℕ) → 0 < length line → NonePass (λ d. d == line_feed) line → lines line ≡ line ∷ []
lines-last [] l h = absurd (omega arith)
lines-last (c ∷ cs) l h = ap lines_of_parts (split_none (c ∷ cs) line_feed h) ∙ grind (arith, common_steps)

pub stripped-append : (xs : List ℕ) → strip_carriage_return (xs ++ carriage_return ∷ []) ≡ xs
stripped-append xs = grind (arith, common_steps)

pub stripped-other : (l : List ℕ) → ((front : List ℕ) → l ≢ front ++ carriage_return ∷ []) → strip_carriage_return l ≡ l
stripped-other [] h = refl
stripped-other (c ∷ cs) h =
    let l : List ℕ = c ∷ cs in
    let other : get_or l (length l - 1) 0 ≡ carriage_return → ⊥ = λ e.
    let whole : l ≡ take (length l - 1) l ++ carriage_return ∷ [] = grind (arith, common_steps, e, take_at_read l (length l - 1) 0) in
    h (take (length l - 1) l) whole in
    ap (λ t. cond t (take (length l - 1) l) l) (ne_eqb _ carriage_return other)

-- a text without the byte of an ASCII character has no such character
pub none_from_text : (b : ℕ) (bs : List ℕ) → IsUtf8 bs → b < 128 → ((k : ℕ) → k < length bs → get_or bs k 0 ≢ b) → NonePass (λ d. d == b) (chars bs)
none_from_text b bs u a h =
    let is = encodes-chars bs u in
    none_from_bytes b (chars bs) a (λ k l e. h k (subst (λ q. k < length q) is l) (sym (ap (λ q. get_or q k 0) is) ∙ e))

-- a text cut at an ASCII byte
pub chars-cut : (text : List ℕ) (end b : ℕ) → IsUtf8 text → b < 128 → end < length text → get_or text end 0 ≡ b → (chars text ≡ chars (take end text) ++ b ∷ chars (drop (end + 1) text)) × IsUtf8 (take end text) × IsUtf8 (drop (end + 1) text)
chars-cut text end b u a inside at =
    let cut_at = IsCharBoundary-before_ascii text end inside (omega (arith, at)) in
    let front_utf8 = IsUtf8-take text end u cut_at in
    let back_utf8 = IsUtf8-drop text end u cut_at in
    let rest_utf8 = IsUtf8-drop text (end + 1) u (IsCharBoundary-after_ascii text end u inside (omega (arith, at))) in
    let split : drop end text ≡ b ∷ drop (end + 1) text = rw add-one (drop-cons text end 0 inside ∙ ap (λ q. q ∷ drop (suc end) text) at) in
    let back_chars : chars (drop end text) ≡ b ∷ chars (drop (end + 1) text) =
    chars_past_char (drop end text) (drop (end + 1) text) b back_utf8 (split ∙ ap (λ q. q ++ drop (end + 1) text) (sym (encode_ascii b a))) in
    (ap chars (sym (take-append-drop end text)) ∙ chars-append (take end text) (drop end text) front_utf8 ∙ ap (λ q. chars (take end text) ++ q) back_chars, front_utf8, rest_utf8)

-- a text cut at the first place of an ASCII character
pub cut-found : (at : ℕ) (text : List ℕ) (place : ℕ) → IsUtf8 text → at < 128 → IsFirstByte (is_byte at) text (Some place) → IsCutAt at (chars text) (chars (take place text)) (chars (drop (place + 1) text))
cut-found at text place u a h =
    let cut = chars-cut text place at u a h.0.high (eqb-true _ at h.1) in
    record {
      parts = cut.0;
      first = none_from_text at (take place text) cut.1 a (λ k l e. h.0.before k (omega arith) (omega (arith, length-take place text)) (eq-eqb _ at (sym (get_or-take place text k 0 (omega (arith, length-take place text))) ∙ e)));
    }

-- the first line ends at the first line feed
pub lines-found : (text : List ℕ) (end : ℕ) → IsUtf8 text → IsFirstByte (is_byte line_feed) text (Some end) → lines (chars text) ≡ strip_carriage_return (chars (take end text)) ∷ lines (chars (drop (end + 1) text))
lines-found text end u h =
    let cut = cut-found line_feed text end u (lit< tt) h in
    ap lines cut.parts ∙ lines-first (chars (take end text)) (chars (drop (end + 1) text)) cut.first

-- without a line feed the text is one line
pub lines-missed : (text : List ℕ) → IsUtf8 text → 0 < length text → IsFirstByte (is_byte line_feed) text None → lines (chars text) ≡ chars text ∷ lines (chars [])
lines-missed text u l h =
    let none = none_from_text line_feed text u (lit< tt) (λ k b e. h k (omega arith) b (eq-eqb _ line_feed e)) in
    let filled : 0 < length (chars text) = nonempty-chars text u l in
    lines-last (chars text) filled none ∙ ap (λ q. chars text ∷ lines q) (sym chars-nil)

-- what is left without one carriage return at the end
pub stripped-chars : (bs : List ℕ) (r : Option (Bor (List ℕ))) (d t : Bor (List ℕ)) → IsUtf8 bs → IsUtf8 t.now → d.now ≡ bs → MatchOption r ((front : List ℕ) → bs ≢ front ++ carriage_return ∷ []) (λ x. bs ≡ x.now ++ carriage_return ∷ []) → t ≡ unwrap_or r d → chars t.now ≡ strip_carriage_return (chars bs)
stripped-chars bs None d t u ut is lacks e =
    let same : t.now ≡ bs = ap (λ x. x.now) e ∙ is in
    let other : (front : List ℕ) → chars bs ≢ front ++ carriage_return ∷ [] = λ front h.
    lacks (encode_utf8_all front) (sym (encodes-chars bs u) ∙ ap encode_utf8_all h ∙ encodes-append front (carriage_return ∷ []) ∙ ap (λ q. encode_utf8_all front ++ q) (encodes-IsAscii (carriage_return ∷ []) (ascii_bytes (carriage_return ∷ []) refl))) in
    ap chars same ∙ sym (stripped-other (chars bs) other)
stripped-chars bs (Some x) d t u ut is parts e =
    let same : t.now ≡ x.now = ap (λ x. x.now) e in
    let xu : IsUtf8 x.now = subst IsUtf8 same ut in
    let whole : chars bs ≡ chars x.now ++ carriage_return ∷ [] = ap chars parts ∙ chars-append x.now (carriage_return ∷ []) xu ∙ ap (λ q. chars x.now ++ q) (chars-IsAscii (carriage_return ∷ []) (ascii_bytes (carriage_return ∷ []) refl)) in
    ap chars same ∙ sym (ap strip_carriage_return whole ∙ stripped-append (chars x.now))

-- the mark is passed over
pub without_mark-chars : (bs : List ℕ) (r : Option (Bor (List ℕ))) (d t : Bor (List ℕ)) → IsUtf8 bs → d.now ≡ bs → MatchOption r (FindsCharPrefix byte_order_mark bs None) (λ x. StripsPrefix (FindsCharPrefix byte_order_mark) bs x.now) → t ≡ unwrap_or r d → chars t.now ≡ without_mark (chars bs)
unfolding without_mark
without_mark-chars bs None d t u is lacks e =
    ap (λ x. chars x.now) e ∙ ap chars is ∙ sym (unmarked (chars bs) (λ cs h. lacks (encode_utf8_all cs) (sym (encodes-chars bs u) ∙ ap encode_utf8_all h))) where
      unmarked : (cs : List ℕ) → ((rest : List ℕ) → cs ≢ byte_order_mark ∷ rest) → without_mark cs ≡ cs
      unmarked [] h = refl
      unmarked (c ∷ cs) h = rw (ne_eqb c byte_order_mark (λ e. h cs (ap (λ q. q ∷ cs) e))) refl
without_mark-chars bs (Some x) d t u is (n, at, rest, len) e =
    let marked : chars bs ≡ byte_order_mark ∷ chars (drop n bs) = chars_past_char bs (drop n bs) byte_order_mark u at.split in
    ap (λ x. chars x.now) e ∙ ap chars rest ∙ sym (ap without_mark marked)

-- an empty text has no lines
pub lines_left-nil : (n : ℕ) (bs : List ℕ) → true ≡ (length bs == 0) → numbered_lines n (chars bs) ≡ []
unfolding numbered_lines
lines_left-nil n [] h = rw chars-nil refl
lines_left-nil n (b ∷ bs) h = absurd (grind (arith, common_steps))
