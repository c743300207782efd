-- The text after a search: what is replaced at, before and after the first occurrence of a pattern.
use Rattle.std.proofs.Common.{◌≡◌, ℕ, zero, suc, ◌+◌, ◌-◌, ◌<◌, ◌≤◌, Bool, true, false, not, Option, Some, None, is_some, List, [], ◌∷◌, ◌++◌, length, take, drop, get_or, refl, sym, ap, ◌∙◌, append_assoc, arith, length-append, length-take, subst, eq-eqb}
use Rattle.std.specs.Bool.{OnTrue}
use Rattle.std.specs.List.{starts_with}
use Rattle.std.proofs.lemmas.Bool.{cond-true, cond-false, false_from_ne_true, false≢true}
use Rattle.std.proofs.lemmas.Slice.Eq.{bytes_eq-Decides}
use Rattle.std.proofs.lemmas.Str.{IsCharBoundary-after_ascii}
use Rattle.std.proofs.Math.Seq.{get_or-append_right}
use Rattle.std.specs.Str.{IsUtf8, IsCharBoundary}
use Rattle.std.specs.Prelude.{nat_eq}
use Rattle.memchr.specs.Find.{OccursAt, Nowhere, NoneBefore, Passes, IsFirstByte, is_byte}
use Rattle.memchr.proofs.lemmas.MatchLemmas.{OccursAt-part, OccursAt-from_part}
use Rattle.gk_document.specs.declared.tree.Cell.{Cell}
use Rattle.gk_pickle.specs.Fill.{replaced_after, replaced_text, placeholder, filled_text}

-- a pattern that occurs at the front is what the text starts with
pub starts : (t p : List ℕ) → OccursAt t p 0 → starts_with nat_eq t p ≡ true
starts t p h = (bytes_eq-Decides p (take (length p) t)).1 (sym (OccursAt-part t p 0 h))

pub occurs : (t p : List ℕ) → length p ≤ length t → starts_with nat_eq t p ≡ true → OccursAt t p 0
occurs t p fits e = OccursAt-from_part t p 0 (omega arith) (sym ((bytes_eq-Decides p (take (length p) t)).0 e))

module _ (p : List ℕ) where
  -- a place after the first byte
  pub later : (b : ℕ) (bs : List ℕ) (k : ℕ) → OccursAt bs p k → OccursAt (b ∷ bs) p (suc k)
  later b bs k h = OccursAt-from_part (b ∷ bs) p (suc k) (let fits = h.fits in omega arith) (OccursAt-part bs p k h)

  pub earlier : (b : ℕ) (bs : List ℕ) (k : ℕ) → OccursAt (b ∷ bs) p (suc k) → OccursAt bs p k
  earlier b bs k h = OccursAt-from_part bs p k (let fits = h.fits in omega arith) (OccursAt-part (b ∷ bs) p (suc k) h)

  pub fits_of : (t : List ℕ) → starts_with nat_eq t p ≡ true → length p ≤ length t
  fits_of t e =
      let same : p ≡ take (length p) t = (bytes_eq-Decides p (take (length p) t)).0 e in
      omega (arith, ap length same, length-take (length p) t)

module _ (p cell : List ℕ) where
  -- bytes that an occurrence covers
  pub covered : (n : ℕ) (t : List ℕ) → replaced_after n p cell t ≡ replaced_text p cell (drop n t)
  unfolding replaced_after
  covered zero t = refl
  covered (suc n) [] = refl
  covered (suc n) (b ∷ bs) = covered n bs

  at_front : (b : ℕ) (bs : List ℕ) → OccursAt (b ∷ bs) p 0 → replaced_text p cell (b ∷ bs) ≡ cell ++ replaced_text p cell (drop (length p - 1) bs)
  unfolding replaced_after
  at_front b bs h = cond-true _ _ _ (starts (b ∷ bs) p h) ∙ ap (λ x. cell ++ x) (covered (length p - 1) bs)

  pub not_at_front : (b : ℕ) (bs : List ℕ) → (OccursAt (b ∷ bs) p 0 → ⊥) → replaced_text p cell (b ∷ bs) ≡ b ∷ replaced_text p cell bs
  unfolding replaced_after
  not_at_front b bs h = cond-false _ _ _ (false_from_ne_true _ (λ e. h (occurs (b ∷ bs) p (fits_of p (b ∷ bs) e) e)))

  pub nowhere : (t : List ℕ) → ((k : ℕ) → OccursAt t p k → ⊥) → replaced_text p cell t ≡ t
  unfolding replaced_after
  nowhere [] h = refl
  nowhere (b ∷ bs) h = not_at_front b bs (h 0) ∙ ap (λ x. b ∷ x) (nowhere bs (λ k o. h (suc k) (later p b bs k o)))

  after : (n : ℕ) (b : ℕ) (bs : List ℕ) → 0 < n → drop (n - 1) bs ≡ drop (0 + n) (b ∷ bs)
  after zero b bs some = absurd (omega arith)
  after (suc n) b bs some =
      let less : suc n - 1 ≡ n = omega arith in
      let same : suc n ≡ 0 + suc n = omega arith in
      ap (λ m. drop m bs) less ∙ ap (λ m. drop m (b ∷ bs)) same

  pub first : (t : List ℕ) (k : ℕ) → 0 < length p → OccursAt t p k → ((j : ℕ) → j < k → OccursAt t p j → ⊥)
      → replaced_text p cell t ≡ take k t ++ (cell ++ replaced_text p cell (drop (k + length p) t))
  first [] k some h none = let fits = h.fits in absurd (omega arith)
  first (b ∷ bs) zero some h none = at_front b bs h ∙ ap (λ x. cell ++ replaced_text p cell x) (after (length p) b bs some)
  first (b ∷ bs) (suc k) some h none =
      let place : suc (k + length p) ≡ suc k + length p = omega arith in
      not_at_front b bs (none 0 (omega arith))
      ∙ ap (λ x. b ∷ x) (first bs k some (earlier p b bs k h) (λ j l o. none (suc j) (omega arith) (later p b bs j o)))
      ∙ ap (λ m. b ∷ take k bs ++ (cell ++ replaced_text p cell (drop m (b ∷ bs)))) place

pub length-placeholder : (name : List ℕ) → length (placeholder name) ≡ length name + 2
length-placeholder name = omega (arith, length-append name (62 ∷ []))

last_byte : (name : List ℕ) → get_or (placeholder name) (length name + 1) 0 ≡ 62
last_byte name = let place : length name + 1 ≡ suc (length name) = omega arith in rw place (get_or-append_right name (62 ∷ []) (length name) 0 (omega arith) ∙ (let none : length name - length name ≡ 0 = omega arith in ap (λ i. get_or (62 ∷ []) i 0) none))

-- a search that found nothing
pub none_found : (hay needle text name cell : List ℕ) → hay ≡ text → needle ≡ placeholder name → Nowhere (OccursAt hay needle) 0 (length hay + 1)
    → replaced_text (placeholder name) cell text ≡ text
none_found hay needle text name cell h n none =
    let clear : (k : ℕ) → OccursAt hay needle k → ⊥ = λ k o. let fits = o.fits in none k (omega arith) (omega arith) o in
    rw (← h, ← n) (nowhere needle cell hay clear)

-- a search that found the first one
pub one_found : (hay needle text name cell : List ℕ) (k end : ℕ) → hay ≡ text → needle ≡ placeholder name → NoneBefore (OccursAt hay needle) 0 (length hay + 1) k
    → OccursAt hay needle k → end ≡ k + length name + 2 → replaced_text (placeholder name) cell text ≡ take (k - 0) text ++ (cell ++ replaced_text (placeholder name) cell (drop end text))
one_found hay needle text name cell k end h n none found e =
    let some : 0 < length needle = rw n (omega arith) in
    let stop : k + length needle ≡ end = omega (arith, ap length n, length-placeholder name) in
    let front : k - 0 ≡ k = omega arith in
    rw (front, ← h, ← n, ← stop) (first needle cell hay k some found (λ j l o. none.before j (omega arith) l o))

-- a placeholder ends in an ASCII byte, so the text may be cut after it
pub cut_after : (hay needle text name : List ℕ) (k : ℕ) → hay ≡ text → needle ≡ placeholder name → OccursAt hay needle k → IsUtf8 text
    → IsCharBoundary text (k + length name + 2)
cut_after hay needle text name k h n found u =
    let o : OccursAt text (placeholder name) k = rw (← h, ← n) found in
    let fits = o.fits in
    let long = length-placeholder name in
    let last : get_or text (k + (length name + 1)) 0 ≡ 62 = o.reads (length name + 1) (omega arith) ∙ last_byte name in
    let place : k + (length name + 1) + 1 ≡ k + length name + 2 = omega arith in
    let P : ℕ → Type 0 = IsCharBoundary text in
    subst P place (IsCharBoundary-after_ascii text (k + (length name + 1)) u (omega arith) (omega arith))

-- what is before it and the cell are written
pub one_replaced : (out first second before cell left rest whole : List ℕ) → first ≡ out ++ before → second ≡ first ++ cell → rest ≡ before ++ (cell ++ left)
    → out ++ rest ≡ whole → second ++ left ≡ whole
one_replaced out first second before cell left rest whole f s r h =
    ap (λ x. x ++ left) (s ∙ ap (λ x. x ++ cell) f) ∙ append_assoc (out ++ before) cell left ∙ append_assoc out before (cell ++ left) ∙ ap (λ x. out ++ x) (sym r) ∙ h

-- with no column left
pub no_names : (text : List ℕ) (names cells : List Cell) → length names ≡ 0 → filled_text text names cells ≡ text
no_names text [] cells h = refl
no_names text (n ∷ ns) cells h = absurd (omega arith)

pub no_cells : (text : List ℕ) (names cells : List Cell) → length cells ≡ 0 → filled_text text names cells ≡ text
no_cells text [] cells h = refl
no_cells text (n ∷ ns) [] h = refl
no_cells text (n ∷ ns) (c ∷ cs) h = absurd (omega arith)

-- a text without `<` has no placeholder
no_opening : (text name : List ℕ) → Nowhere (Passes (is_byte 60) text) 0 (length text) → (k : ℕ) → OccursAt text (placeholder name) k → ⊥
no_opening text name none k o =
    let fits = o.fits in
    let long = length-placeholder name in
    let start : k + 0 ≡ k = omega arith in
    let P : ℕ → Type 0 = λ i. get_or text i 0 ≡ 60 in
    none k (omega arith) (omega arith) (eq-eqb (get_or text k 0) 60 (subst P start (o.reads 0 (omega arith))))

pub nothing_filled : (text : List ℕ) (names cells : List Cell) → Nowhere (Passes (is_byte 60) text) 0 (length text) → filled_text text names cells ≡ text
nothing_filled text [] cells none = refl
nothing_filled text (n ∷ ns) [] none = refl
nothing_filled text (n ∷ ns) (c ∷ cs) none =
    ap (λ t. filled_text t ns cs) (nowhere (placeholder n.value) c.value text (no_opening text n.value none)) ∙ nothing_filled text ns cs none

pub nothing_to_fill : (hay text : List ℕ) (found : Option ℕ) (b : Bool) → hay ≡ text → IsFirstByte (is_byte 60) hay found → is_some found ≡ not b
    → OnTrue b ((header row : List Cell) → filled_text text header row ≡ text)
nothing_to_fill hay text None true h none same = λ header row. nothing_filled text header row (rw h at none)
nothing_to_fill hay text (Some k) true h found same = absurd (false≢true (sym same))
nothing_to_fill hay text found false h none same = tt
