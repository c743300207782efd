-- A text of UTF-8 that is filled is one.
use Rattle.std.proofs.Common.{◌≡◌, ℕ, suc, ◌+◌, ◌<◌, List, [], ◌∷◌, ◌++◌, length, take, drop, get_or, IsUtf8, refl, sym, ap, ◌∙◌, subst, arith, append_assoc, length-append}
use Rattle.std.specs.List.{AllByRecursion}
use Rattle.std.proofs.lemmas.Str.{IsUtf8-append, IsUtf8-take, IsUtf8-drop, IsCharBoundary-before_ascii, IsCharBoundary-after_ascii}
use Rattle.gk_document.specs.declared.tree.Cell.{Cell}
use Rattle.gk_pickle.specs.Cut.{IsCut, joined_parts}
use Rattle.gk_pickle.specs.Fill.{placeholder, replaced_text, filled_text}
use Rattle.gk_pickle.proofs.Cutting.{replaced_is_joined}

-- ---- a text cut at an ASCII character

at_front : (x : List ℕ) (b : ℕ) (y : List ℕ) → get_or (x ++ b ∷ y) (length x) 0 ≡ b
at_front [] b y = refl
at_front (c ∷ x) b y = at_front x b y

front_of : (x y : List ℕ) → take (length x) (x ++ y) ≡ x
front_of [] y = refl
front_of (c ∷ x) y = ap (λ z. c ∷ z) (front_of x y)

past : (x : List ℕ) (b : ℕ) (y : List ℕ) → drop (suc (length x)) (x ++ b ∷ y) ≡ y
past [] b y = refl
past (c ∷ x) b y = past x b y

pub cut_utf8 : (x : List ℕ) (b : ℕ) (y : List ℕ) → b < 128 → IsUtf8 (x ++ b ∷ y) → IsUtf8 x × IsUtf8 y
cut_utf8 x b y small u =
    let whole = x ++ b ∷ y in
    let here = at_front x b y in
    let inside : length x < length whole = omega (arith, length-append x (b ∷ y)) in
    let before : IsUtf8 (take (length x) whole) = IsUtf8-take whole (length x) u (IsCharBoundary-before_ascii whole (length x) inside (omega arith)) in
    let after : IsUtf8 (drop (length x + 1) whole) = IsUtf8-drop whole (length x + 1) u (IsCharBoundary-after_ascii whole (length x) u inside (omega arith)) in
    let next : length x + 1 ≡ suc (length x) = omega arith in
    (subst IsUtf8 (front_of x (b ∷ y)) before, subst IsUtf8 (ap (λ i. drop i whole) next ∙ past x b y) after)

-- ---- replacing

cut_at_placeholder : (part name rest : List ℕ) → IsUtf8 (part ++ (placeholder name ++ rest)) → IsUtf8 part × IsUtf8 rest
cut_at_placeholder part name rest u =
    let opened = cut_utf8 part 60 ((name ++ 62 ∷ []) ++ rest) (omega arith) u in
    let closed : IsUtf8 (name ++ 62 ∷ rest) = subst IsUtf8 (append_assoc name (62 ∷ []) rest) opened.1 in
    (opened.0, (cut_utf8 name 62 rest (omega arith) closed).1)

joined_utf8 : (name cell text part : List ℕ) (others : List (List ℕ)) → IsUtf8 cell → IsUtf8 text → IsCut (placeholder name) text part others → IsUtf8 (joined_parts cell part others)
joined_utf8 name cell text part [] c u h = subst IsUtf8 h.0 u
joined_utf8 name cell text part (next ∷ others) c u h =
    let parts = cut_at_placeholder part name h.0 (subst IsUtf8 h.1 u) in
    IsUtf8-append part (cell ++ joined_parts cell next others) parts.0 (IsUtf8-append cell (joined_parts cell next others) c (joined_utf8 name cell h.0 next others c parts.1 h.3))

replaced_utf8 : (name cell text : List ℕ) → IsUtf8 cell → IsUtf8 text → IsUtf8 (replaced_text (placeholder name) cell text)
replaced_utf8 name cell text c u =
    let w = replaced_is_joined (placeholder name) cell text (omega arith) in
    subst IsUtf8 (sym w.3) (joined_utf8 name cell text w.0 w.1 c u w.2)

pub filled_utf8 : (text : List ℕ) (header cells : List Cell) → IsUtf8 text → AllByRecursion (λ (c : Cell). IsUtf8 c.value) cells → IsUtf8 (filled_text text header cells)
filled_utf8 text [] cells u h = u
filled_utf8 text (name ∷ names) [] u h = u
filled_utf8 text (name ∷ names) (cell ∷ cells) u h = filled_utf8 (replaced_text (placeholder name.value) cell.value text) names cells (replaced_utf8 name.value cell.value text h.0 u) h.1
