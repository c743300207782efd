-- Filling by bytes is filling by characters.
use Rattle.std.proofs.Common.{◌≡◌, ℕ, ◌<◌, ◌≤◌, List, [], ◌∷◌, ◌++◌, length, take, drop, get_or, map, refl, sym, ap, ◌∙◌, ⊎_elim, subst, arith, length-append, length-drop, take-append-drop}
use Rattle.std.specs.List.{AllByRecursion}
use Rattle.std.specs.Str.{IsUtf8, chars}
use Rattle.std.proofs.lemmas.Bool.{cases_lt}
use Rattle.std.proofs.lemmas.List.{get_or_at, take_at, drop_at, take-take}
use Rattle.std.proofs.lemmas.Str.{IsUtf8-append, IsUtf8-take, IsUtf8-drop, IsCharBoundary-before_ascii, IsCharBoundary-from_take, encodes-append, encodes-chars, chars-append, length-le-encodes}
use lib.Utf8.{encode, encodes}
use Rattle.gk_pickle.specs.Fill.{placeholder, replaced_text, filled_text}
use Rattle.gk_pickle.specs.Cut.{Lacks, IsFirst, IsCut, joined_parts}
use Rattle.gk_pickle.specs.Characters.{by_characters, FillsCharacters}
use Rattle.gk_pickle.proofs.Cutting.{replaced_is_joined, joined_is_replaced}

opening : IsUtf8 (60 ∷ [])
unfolding encode
opening = (60 ∷ [], (refl, refl))

closing : IsUtf8 (62 ∷ [])
unfolding encode
closing = (62 ∷ [], (refl, refl))

opening_chars : chars (60 ∷ []) ≡ 60 ∷ []
unfolding chars
opening_chars = refl

closing_chars : chars (62 ∷ []) ≡ 62 ∷ []
unfolding chars
closing_chars = refl

placeholder_utf8 : (name : List ℕ) → IsUtf8 name → IsUtf8 (placeholder name)
placeholder_utf8 name u = IsUtf8-append (60 ∷ []) (name ++ 62 ∷ []) opening (IsUtf8-append name (62 ∷ []) u closing)

placeholder_chars : (name : List ℕ) → IsUtf8 name → chars (placeholder name) ≡ placeholder (chars name)
placeholder_chars name u =
    chars-append (60 ∷ []) (name ++ 62 ∷ []) opening ∙ ap (λ x. x ++ chars (name ++ 62 ∷ [])) opening_chars
    ∙ ap (λ x. 60 ∷ x) (chars-append name (62 ∷ []) u ∙ ap (λ x. chars name ++ x) closing_chars)

spelled : (name : List ℕ) → IsUtf8 name → encodes (placeholder (chars name)) ≡ placeholder name
unfolding encode
spelled name u = ap (λ x. 60 ∷ x) (encodes-append (chars name) (62 ∷ []) ∙ ap (λ x. x ++ 62 ∷ []) (encodes-chars name u))

-- what stands before and after a placeholder
before_utf8 : (text before name rest : List ℕ) → IsUtf8 text → text ≡ before ++ (placeholder name ++ rest) → IsUtf8 before
before_utf8 text before name rest u e =
    let long : length before < length text = omega (arith, ap length e, length-append before (placeholder name ++ rest)) in
    let byte : get_or text (length before) 0 ≡ 60 = ap (λ t. get_or t (length before) 0) e ∙ get_or_at before 60 ((name ++ 62 ∷ []) ++ rest) 0 (length before) refl in
    let P : List ℕ → Type 0 = IsUtf8 in
    subst P (ap (take (length before)) e ∙ take_at before (placeholder name ++ rest) (length before) refl)
    (IsUtf8-take text (length before) u (IsCharBoundary-before_ascii text (length before) long (omega arith)))

rest_utf8 : (text front rest : List ℕ) → IsUtf8 text → IsUtf8 front → text ≡ front ++ rest → IsUtf8 rest
rest_utf8 text front rest u v e =
    let P : List ℕ → Type 0 = IsUtf8 in
    let fits : length front ≤ length text = omega (arith, ap length e, length-append front rest) in
    let here : take (length front) text ≡ front = ap (take (length front)) e ∙ take_at front rest (length front) refl in
    let there : drop (length front) text ≡ rest = ap (drop (length front)) e ∙ drop_at front rest (length front) refl in
    subst P there (IsUtf8-drop text (length front) u (IsCharBoundary-from_take text (length front) u fits (subst P (sym here) v)))

after_utf8 : (text before name rest : List ℕ) → IsUtf8 text → IsUtf8 name → text ≡ before ++ (placeholder name ++ rest) → IsUtf8 rest
after_utf8 text before name rest u n e =
    rest_utf8 (placeholder name ++ rest) (placeholder name) rest
    (rest_utf8 text before (placeholder name ++ rest) u (before_utf8 text before name rest u e) e) (placeholder_utf8 name n) refl

-- a placeholder in the bytes, and in the characters
in_chars : (text before name rest : List ℕ) → IsUtf8 text → IsUtf8 name → text ≡ before ++ (placeholder name ++ rest)
    → chars text ≡ chars before ++ (placeholder (chars name) ++ chars rest)
in_chars text before name rest u n e =
    ap chars e ∙ chars-append before (placeholder name ++ rest) (before_utf8 text before name rest u e)
    ∙ ap (λ x. chars before ++ x) (chars-append (placeholder name) rest (placeholder_utf8 name n) ∙ ap (λ x. x ++ chars rest) (placeholder_chars name n))

in_bytes : (text name before rest : List ℕ) → IsUtf8 text → IsUtf8 name → chars text ≡ before ++ (placeholder (chars name) ++ rest)
    → text ≡ encodes before ++ (placeholder name ++ encodes rest)
in_bytes text name before rest u n e =
    sym (encodes-chars text u) ∙ ap encodes e ∙ encodes-append before (placeholder (chars name) ++ rest)
    ∙ ap (λ x. encodes before ++ x) (encodes-append (placeholder (chars name)) rest ∙ ap (λ x. x ++ encodes rest) (spelled name n))

lacks_chars : (text name : List ℕ) → IsUtf8 text → IsUtf8 name → Lacks (placeholder name) text → Lacks (placeholder (chars name)) (chars text)
lacks_chars text name u n lacks before rest e = lacks (encodes before) (encodes rest) (in_bytes text name before rest u n e)

-- of two fronts of a text the one with fewer characters has fewer bytes
shorter : (part before : List ℕ) → IsUtf8 part → length before < length (chars part) → take (length before) (chars part) ≡ before
    → length (encodes before) < length part
shorter part before u l e =
    let rest : List ℕ = drop (length before) (chars part) in
    let whole : chars part ≡ before ++ rest = sym (take-append-drop (length before) (chars part)) ∙ ap (λ x. x ++ rest) e in
    let bytes : part ≡ encodes before ++ encodes rest = sym (encodes-chars part u) ∙ ap encodes whole ∙ encodes-append before rest in
    let more = length-le-encodes rest in
    omega (arith, ap length bytes, length-append (encodes before) (encodes rest), length-drop (length before) (chars part))

first_chars : (text name part rest : List ℕ) → IsUtf8 text → IsUtf8 name → text ≡ part ++ (placeholder name ++ rest) → IsFirst (placeholder name) text part
    → IsFirst (placeholder (chars name)) (chars text) (chars part)
first_chars text name part rest u n e first before after f =
    let part_utf8 = before_utf8 text part name rest u e in
    let low = first (encodes before) (encodes after) (in_bytes text name before after u n f) in
    let front : take (length before) (chars text) ≡ before = ap (take (length before)) f ∙ take_at before _ (length before) refl in
    let whole : take (length (chars part)) (chars text) ≡ chars part = ap (take (length (chars part))) (in_chars text part name rest u n e) ∙ take_at (chars part) _ (length (chars part)) refl in
    ⊎_elim
    (λ l.
    let same : take (length before) (chars part) ≡ before =
    ap (take (length before)) (sym whole) ∙ take-take (length before) (length (chars part)) (chars text) (omega arith) ∙ front in
    let less = shorter part before part_utf8 l same in
    absurd (omega arith))
    (λ l. l)
    (cases_lt (length before) (length (chars part)))

record CutByCharacters (name text part : List ℕ) (others : List (List ℕ)) : Type 0 where
  cut : IsCut (placeholder (chars name)) (chars text) (chars part) (map chars others)
  part_utf8 : IsUtf8 part
  others_utf8 : AllByRecursion IsUtf8 others

cut_chars : (name text part : List ℕ) (others : List (List ℕ)) → IsUtf8 name → IsUtf8 text → IsCut (placeholder name) text part others → CutByCharacters name text part others
cut_chars name text part [] n u cut =
    let P : List ℕ → Type 0 = IsUtf8 in
    record { cut = (ap chars cut.0, lacks_chars text name u n cut.1); part_utf8 = subst P cut.0 u; others_utf8 = tt }
cut_chars name text part (next ∷ others) n u cut =
    let more = cut_chars name cut.0 next others n (after_utf8 text part name cut.0 u n cut.1) cut.3 in
    record {
      cut = (chars cut.0, in_chars text part name cut.0 u n cut.1, first_chars text name part cut.0 u n cut.1 cut.2, more.cut);
      part_utf8 = before_utf8 text part name cut.0 u cut.1;
      others_utf8 = (more.part_utf8, more.others_utf8);
    }

joined_utf8 : (cell part : List ℕ) (others : List (List ℕ)) → IsUtf8 cell → IsUtf8 part → AllByRecursion IsUtf8 others → IsUtf8 (joined_parts cell part others)
joined_utf8 cell part [] c p o = p
joined_utf8 cell part (next ∷ others) c p o = IsUtf8-append part (cell ++ joined_parts cell next others) p (IsUtf8-append cell (joined_parts cell next others) c (joined_utf8 cell next others c o.0 o.1))

joined_chars : (cell part : List ℕ) (others : List (List ℕ)) → IsUtf8 cell → IsUtf8 part → AllByRecursion IsUtf8 others
    → chars (joined_parts cell part others) ≡ joined_parts (chars cell) (chars part) (map chars others)
joined_chars cell part [] c p o = refl
joined_chars cell part (next ∷ others) c p o =
    chars-append part (cell ++ joined_parts cell next others) p
    ∙ ap (λ x. chars part ++ x) (chars-append cell (joined_parts cell next others) c ∙ ap (λ x. chars cell ++ x) (joined_chars cell next others c o.0 o.1))

pub replaced_utf8 : (name cell text : List ℕ) → IsUtf8 name → IsUtf8 cell → IsUtf8 text → IsUtf8 (replaced_text (placeholder name) cell text)
replaced_utf8 name cell text n c u =
    let cut = replaced_is_joined (placeholder name) cell text (omega arith) in
    let parts = cut_chars name text cut.0 cut.1 n u cut.2 in
    let P : List ℕ → Type 0 = IsUtf8 in
    subst P (sym cut.3) (joined_utf8 cell cut.0 cut.1 c parts.part_utf8 parts.others_utf8)

pub replaced_chars : (name cell text : List ℕ) → IsUtf8 name → IsUtf8 cell → IsUtf8 text
    → chars (replaced_text (placeholder name) cell text) ≡ replaced_text (placeholder (chars name)) (chars cell) (chars text)
replaced_chars name cell text n c u =
    let cut = replaced_is_joined (placeholder name) cell text (omega arith) in
    let parts = cut_chars name text cut.0 cut.1 n u cut.2 in
    ap chars cut.3 ∙ joined_chars cell cut.0 cut.1 c parts.part_utf8 parts.others_utf8
    ∙ sym (joined_is_replaced (placeholder (chars name)) (chars cell) (chars text) (chars cut.0) (map chars cut.1) (omega arith) parts.cut)

pub fills_characters : FillsCharacters
fills_characters text [] row u h r = refl
fills_characters text (name ∷ names) [] u h r = refl
fills_characters text (name ∷ names) (cell ∷ cells) u h r =
    fills_characters (replaced_text (placeholder name.value) cell.value text) names cells (replaced_utf8 name.value cell.value text h.0 r.0 u) h.1 r.1
    ∙ ap (λ t. filled_text t (map by_characters names) (map by_characters cells)) (replaced_chars name.value cell.value text h.0 r.0 u)
