-- The search for the bar that ends a cell.
use Rattle.std.proofs.Common.{◌≡◌, ◌≢◌, ℕ, suc, ◌+◌, ◌-◌, ◌<◌, Bool, true, false, List, [], ◌∷◌, ◌++◌, length, take, drop, get_or, drop-cons, add-one, Some, None, sym, refl, ap, ◌∙◌, subst, arith, length-append, length-drop}
use Rattle.std.specs.Prelude.{◌==◌, ◌||◌, map, slice_range}
use Rattle.std.specs.Str.{chars, IsAscii, IsNotAscii, IsUtf8, NonePass}
use Rattle.std.specs.Bool.{MatchBool}
use Rattle.std.proofs.lemmas.Bool.{false≢true}
use Rattle.std.proofs.lemmas.List.{append_assoc, take-append-drop, get_or-take, length-take}
use Rattle.std.proofs.Math.Seq.{take-append_seam, drop-append_seam}
use Rattle.std.proofs.lemmas.Str.{chars-append, chars-nil, IsUtf8-append, IsUtf8-nil, IsUtf8-from_ascii, chars-IsAscii, IsAscii-take, IsAscii-drop}
use Rattle.std.proofs.lemmas.Grind.{common_steps}
use Rattle.memchr.specs.Find.{IsFirstByte, is_byte2}
use native.Mathlib.Nat.{sub-zero}
use Rattle.gk_line.specs.Texts.{TakesFirst, trimmed_text}
use Rattle.gk_line.proofs.PlaceLemmas.{trimmed-split}
use Rattle.gk_line.specs.Cells.{CellUnit, plain_unit, units, IsCutAtBar, NoBar}
use Rattle.gk_line.proofs.TextLemmas.{ascii_bytes}
use Rattle.gk_line.proofs.LineLemmas.{none_from_text, chars-cut}
use Rattle.gk_line.proofs.UnitLemmas.{after_backslash, Reads, Reads-nil, Reads-bar, Reads-end, Reads-last, Reads-pair}
use Rattle.gk_line.specs.Characters.{backslash, vertical_bar}

-- the first bar or backslash of a text
pub record Special (rest : List ℕ) (place b : ℕ) : Type 0 where
  pub inside : place < length rest
  pub small : b < 128
  pub bytes : rest ≡ take place rest ++ b ∷ drop (place + 1) rest
  pub split : chars rest ≡ chars (take place rest) ++ b ∷ chars (drop (place + 1) rest)
  pub front : IsUtf8 (take place rest)
  pub back : IsUtf8 (drop (place + 1) rest)
  pub no_bar : NonePass (λ c. c == vertical_bar) (chars (take place rest))
  pub no_backslash : NonePass (λ c. c == backslash) (chars (take place rest))

either_bar : (x : ℕ) → x ≡ vertical_bar → (x == vertical_bar || x == backslash) ≡ true
either_bar x e = grind (arith, common_steps)

either_back : (x : ℕ) → x ≡ backslash → (x == vertical_bar || x == backslash) ≡ true
either_back x e = grind (arith, common_steps)

pub either_small : (x : ℕ) → (x == vertical_bar || x == backslash) ≡ true → x < 128
either_small x h = grind (arith, common_steps)

pub special : (rest : List ℕ) (place b : ℕ) → IsUtf8 rest → IsFirstByte (is_byte2 vertical_bar backslash) rest (Some place) → get_or rest place 0 ≡ b → Special rest place b
special rest place b u h at =
    let inside : place < length rest = h.0.high in
    let small : b < 128 = subst (λ q. q < 128) at (either_small _ h.1) in
    let cut = chars-cut rest place b u small inside at in
    let other : (a : ℕ) → ((x : ℕ) → x ≡ a → (x == vertical_bar || x == backslash) ≡ true) → a < 128 → NonePass (λ c. c == a) (chars (take place rest)) = λ a is s.
    none_from_text a (take place rest) cut.1 s (λ k l e.
    h.0.before k (omega arith) (omega (arith, length-take place rest)) (is _ (sym (get_or-take place rest k 0 (omega (arith, length-take place rest))) ∙ e))) in
    record {
      inside = inside;
      small = small;
      bytes = sym (take-append-drop place rest) ∙ ap (λ q. take place rest ++ q) (rw add-one (drop-cons rest place 0 inside ∙ ap (λ q. q ∷ drop (suc place) rest) at));
      split = cut.0;
      front = cut.1;
      back = cut.2;
      no_bar = other vertical_bar (λ x e. grind (arith, common_steps)) (omega arith);
      no_backslash = other backslash (λ x e. grind (arith, common_steps)) (omega arith);
    }

-- the text up to rest was read
abbrev pub State : List ℕ → List ℕ → Type 0
State text rest = (front : List ℕ) × (us : List CellUnit) × (text ≡ front ++ rest) × IsUtf8 front × IsUtf8 rest × Reads (chars front) us

state_chars : (text rest front : List ℕ) (place b : ℕ) → IsUtf8 front → text ≡ front ++ rest → Special rest place b → chars text ≡ chars front ++ (chars (take place rest) ++ b ∷ chars (drop (place + 1) rest))
state_chars text rest front place b uf whole found =
    ap chars whole ∙ chars-append front rest uf ∙ ap (λ q. chars front ++ q) found.split

-- what is before the bar and what follows it, by their bytes
pub State-cut : (text rest part next : List ℕ) (place : ℕ) → State text rest → Special rest place vertical_bar → next ≡ drop (place + 1) rest → part ≡ slice_range text 0 (length text - length next - 1) → text ≡ part ++ vertical_bar ∷ next
State-cut text rest part next place (front, us, whole, uf, ur, reads) found is_next is_part =
    let pre = take place rest in
    let more = drop (place + 1) rest in
    let parts : text ≡ (front ++ pre) ++ vertical_bar ∷ more = whole ∙ ap (λ q. front ++ q) found.bytes ∙ sym (append_assoc front pre (vertical_bar ∷ more)) in
    let long : length text - length next - 1 ≡ length (front ++ pre) = omega (arith, ap length parts, length-append (front ++ pre) (vertical_bar ∷ more), ap length is_next) in
    let cut : part ≡ front ++ pre = is_part ∙ rw (sub-zero, long) (ap (take (length (front ++ pre))) parts ∙ take-append_seam (front ++ pre) (vertical_bar ∷ more)) in
    parts ∙ rw (cut, is_next) refl

pub State-bar : (text rest part next : List ℕ) (place : ℕ) → State text rest → Special rest place vertical_bar → next ≡ drop (place + 1) rest → part ≡ slice_range text 0 (length text - length next - 1) → IsCutAtBar (units (chars text)) (units (chars part)) (units (chars next))
State-bar text rest part next place (front, us, whole, uf, ur, reads) found is_next is_part =
    let pre = take place rest in
    let more = drop (place + 1) rest in
    let parts : text ≡ (front ++ pre) ++ vertical_bar ∷ more = whole ∙ ap (λ q. front ++ q) found.bytes ∙ sym (append_assoc front pre (vertical_bar ∷ more)) in
    let long : length text - length next - 1 ≡ length (front ++ pre) = omega (arith, ap length parts, length-append (front ++ pre) (vertical_bar ∷ more), ap length is_next) in
    let cut : part ≡ front ++ pre = is_part ∙ rw (sub-zero, long) (ap (take (length (front ++ pre))) parts ∙ take-append_seam (front ++ pre) (vertical_bar ∷ more)) in
    rw (state_chars text rest front place vertical_bar uf whole found, cut, chars-append front pre uf, is_next)
    (Reads-bar (chars front) (chars pre) (chars more) us reads found.no_backslash found.no_bar)

-- where the search found the bar at once, no backslash is before it
pub State-plain : (text rest part next : List ℕ) (place : ℕ) → rest ≡ text → Special rest place vertical_bar → next ≡ drop (place + 1) rest → part ≡ slice_range text 0 (length text - length next - 1) → NonePass (λ c. c == backslash) (chars part)
State-plain text rest part next place same found is_next is_part =
    let long : length text - length next - 1 ≡ place = omega (arith, ap length same, ap length is_next, length-drop (place + 1) rest, found.inside) in
    let cut : part ≡ take place rest = is_part ∙ rw (sub-zero, long, same) refl in
    subst (λ q. NonePass (λ c. c == backslash) (chars q)) (sym cut) found.no_backslash

none-append : (at : ℕ) (xs ys : List ℕ) → NonePass (λ c. c == at) (xs ++ ys) → NonePass (λ c. c == at) xs × NonePass (λ c. c == at) ys
none-append at [] ys h = (tt, h)
none-append at (x ∷ xs) ys h = let more = none-append at xs ys h.1 in ((h.0, more.0), more.1)

-- a part of a text without backslashes has none
pub trimmed-plain : (text : List ℕ) → NonePass (λ c. c == backslash) text → NonePass (λ c. c == backslash) (trimmed_text text)
trimmed-plain text h =
    let split = trimmed-split text in
    let whole = subst (NonePass (λ c. c == backslash)) split.2 h in
    (none-append backslash (trimmed_text text) split.1 (none-append backslash split.0 (trimmed_text text ++ split.1) whole).1).0

pub State-end : (text rest : List ℕ) → State text rest → IsFirstByte (is_byte2 vertical_bar backslash) rest None → NoBar (units (chars text))
State-end text rest (front, us, whole, uf, ur, reads) none =
    let bar = none_from_text vertical_bar rest ur (omega arith) (λ k l e. none k (omega arith) l (either_bar _ e)) in
    let back = none_from_text backslash rest ur (omega arith) (λ k l e. none k (omega arith) l (either_back _ e)) in
    let text_chars : chars text ≡ chars front ++ chars rest = ap chars whole ∙ chars-append front rest uf in
    rw text_chars (Reads-end (chars front) (chars rest) us reads back bar)

pub State-last : (text rest : List ℕ) (place : ℕ) → State text rest → Special rest place backslash → drop (place + 1) rest ≡ [] → NoBar (units (chars text))
State-last text rest place (front, us, whole, uf, ur, reads) found is_end =
    let text_chars : chars text ≡ chars front ++ (chars (take place rest) ++ backslash ∷ []) =
    state_chars text rest front place backslash uf whole found ∙ ap (λ q. chars front ++ (chars (take place rest) ++ backslash ∷ q)) (ap chars is_end ∙ chars-nil) in
    rw text_chars (Reads-last (chars front) (chars (take place rest)) us reads found.no_backslash found.no_bar)

pub State-pair : (text rest next : List ℕ) (place : ℕ) → State text rest → Special rest place backslash → TakesFirst (drop (place + 1) rest) next → State text next
State-pair text rest next place (front, us, whole, uf, ur, reads) found taken =
    let pre = take place rest in
    let slash : IsUtf8 (backslash ∷ []) = IsUtf8-from_ascii (backslash ∷ []) (ascii_bytes (backslash ∷ []) refl) in
    let pair_text : IsUtf8 (backslash ∷ taken.first) = IsUtf8-append (backslash ∷ []) taken.first slash taken.is_text in
    let parts : text ≡ (front ++ (pre ++ backslash ∷ taken.first)) ++ next =
    whole ∙ ap (λ q. front ++ q) (found.bytes ∙ ap (λ q. pre ++ backslash ∷ q) taken.parts ∙ sym (append_assoc pre (backslash ∷ taken.first) next)) ∙ sym (append_assoc front (pre ++ backslash ∷ taken.first) next) in
    let pair_chars : chars (backslash ∷ taken.first) ≡ backslash ∷ taken.character ∷ [] =
    chars-append (backslash ∷ []) taken.first slash ∙ ap (λ q. q ++ chars taken.first) (chars-IsAscii (backslash ∷ []) (ascii_bytes (backslash ∷ []) refl)) ∙ ap (λ q. backslash ∷ q) taken.is_one in
    let front_chars : chars (front ++ (pre ++ backslash ∷ taken.first)) ≡ chars front ++ (chars pre ++ backslash ∷ taken.character ∷ []) =
    chars-append front (pre ++ backslash ∷ taken.first) uf ∙ ap (λ q. chars front ++ q) (chars-append pre (backslash ∷ taken.first) found.front ∙ ap (λ q. chars pre ++ q) pair_chars) in (
      front ++ (pre ++ backslash ∷ taken.first),
      us ++ (map plain_unit (chars pre) ++ after_backslash taken.character),
      parts,
      IsUtf8-append front (pre ++ backslash ∷ taken.first) uf (IsUtf8-append pre (backslash ∷ taken.first) found.front pair_text),
      taken.rest_is_text,
      rw front_chars (Reads-pair (chars front) (chars pre) taken.character us reads found.no_backslash found.no_bar),
    )

pub State-nil : (text : List ℕ) → IsUtf8 text → State text text
State-nil text u = ([], [], refl, IsUtf8-nil, u, rw chars-nil Reads-nil)

-- the byte that was found is a backslash where it is no bar
pub other_is_backslash : (rest : List ℕ) (place : ℕ) → IsFirstByte (is_byte2 vertical_bar backslash) rest (Some place) → get_or rest place 0 ≢ vertical_bar → get_or rest place 0 ≡ backslash
other_is_backslash rest place h other = by_value (get_or rest place 0) h.1 other where
  by_value : (x : ℕ) → (x == vertical_bar || x == backslash) ≡ true → x ≢ vertical_bar → x ≡ backslash
  by_value x e n = grind (arith, common_steps)

-- parts of a text of ASCII alone
pub ascii_parts : (text part next : List ℕ) → text ≡ part ++ vertical_bar ∷ next → IsAscii text → IsAscii part × IsAscii next
ascii_parts text part next parts a =
    let front : take (length part) text ≡ part = ap (take (length part)) parts ∙ take-append_seam part (vertical_bar ∷ next) in
    let whole : text ≡ (part ++ vertical_bar ∷ []) ++ next = parts ∙ sym (append_assoc part (vertical_bar ∷ []) next) in
    let back : drop (length (part ++ vertical_bar ∷ [])) text ≡ next = ap (drop (length (part ++ vertical_bar ∷ []))) whole ∙ drop-append_seam (part ++ vertical_bar ∷ []) next in
    (subst IsAscii front (IsAscii-take text (length part) a), subst IsAscii back (IsAscii-drop text (length (part ++ vertical_bar ∷ [])) a))

pub ascii_told : (b : Bool) (text : List ℕ) → MatchBool b (IsAscii text) (IsNotAscii text) → b ≡ true → IsAscii text
ascii_told true text h e = h
ascii_told false text h e = absurd (false≢true e)
