-- Replacing cuts a text and joins its parts.
use Rattle.std.proofs.Common.{◌≡◌, ℕ, zero, suc, ◌+◌, ◌<◌, ◌≤◌, false, List, [], ◌∷◌, ◌++◌, length, take, drop, refl, sym, ap, ◌∙◌, ◌⊎◌, inl, inr, ⊎_elim, arith, append_assoc, length-append, length-drop, length-take-le, take-append-drop, le_refl}
use Rattle.std.proofs.lemmas.Bool.{cases_Bool, cases_lt, both_ways}
use Rattle.std.proofs.lemmas.List.Prefix.{front_rest}
use Rattle.std.specs.List.{starts_with}
use Rattle.std.specs.Prelude.{nat_eq}
use Rattle.memchr.specs.Find.{OccursAt}
use Rattle.memchr.proofs.lemmas.MatchLemmas.{OccursAt-split, OccursAt-from_part}
use Rattle.gk_pickle.specs.Fill.{replaced_text}
use Rattle.gk_pickle.specs.Cut.{IsFirst, IsCut, ReplacedIsJoined, JoinedIsReplaced}
use Rattle.gk_pickle.proofs.Replacing.{nowhere, first, later, earlier, starts, occurs, fits_of}

module _ (p : List ℕ) where
  -- an occurrence at a place, as a split of the text
  pub split_at : (t : List ℕ) (k : ℕ) → OccursAt t p k → t ≡ take k t ++ (p ++ drop (k + length p) t)
  split_at t k h = sym (take-append-drop k t) ∙ ap (λ x. take k t ++ x) (OccursAt-split t p k h)

  before_at : (t : List ℕ) (k : ℕ) → OccursAt t p k → length (take k t) ≡ k
  before_at t k h = let fits = h.fits in length-take-le k t (omega arith)

  take_front : (x y : List ℕ) → take (length x) (x ++ y) ≡ x
  take_front [] y = refl
  take_front (b ∷ x) y = ap (λ z. b ∷ z) (take_front x y)

  -- a split of the text, as an occurrence
  pub place_of : (t x r : List ℕ) → t ≡ x ++ (p ++ r) → OccursAt t p (length x)
  place_of t x r e =
      let long : length t ≡ length x + (length p + length r) = ap length e ∙ length-append x (p ++ r) ∙ ap (λ n. length x + n) (length-append p r) in
      OccursAt-from_part t p (length x) (omega arith) (ap (take (length p)) (front_rest t x (p ++ r) e) ∙ take_front p r)

  after_of : (t x r : List ℕ) → t ≡ x ++ (p ++ r) → drop (length x + length p) t ≡ r
  after_of t x r e = rw (sym (length-append x p)) (front_rest t (x ++ p) r (e ∙ sym (append_assoc x p r)))

  -- nowhere, or at a first place
  First : List ℕ → Type 0
  First t = (k : ℕ) × OccursAt t p k × ((j : ℕ) → j < k → OccursAt t p j → ⊥)

  not_at : (b : ℕ) (bs : List ℕ) → starts_with nat_eq (b ∷ bs) p ≡ false → ((k : ℕ) → OccursAt bs p k → ⊥) → (k : ℕ) → OccursAt (b ∷ bs) p k → ⊥
  not_at b bs miss none zero o = both_ways _ miss (starts (b ∷ bs) p o)
  not_at b bs miss none (suc k) o = none k (earlier p b bs k o)

  not_before : (b : ℕ) (bs : List ℕ) (n : ℕ) → starts_with nat_eq (b ∷ bs) p ≡ false → ((j : ℕ) → j < n → OccursAt bs p j → ⊥) → (j : ℕ) → j < suc n
      → OccursAt (b ∷ bs) p j → ⊥
  not_before b bs n miss none zero l o = both_ways _ miss (starts (b ∷ bs) p o)
  not_before b bs n miss none (suc j) l o = none j (omega arith) (earlier p b bs j o)

  place_in : 0 < length p → (t : List ℕ) → ((k : ℕ) → OccursAt t p k → ⊥) ⊎ ((k : ℕ) × OccursAt t p k × ((j : ℕ) → j < k → OccursAt t p j → ⊥))
  place_in some [] = inl (λ k o. let fits = o.fits in absurd (omega arith))
  place_in some (b ∷ bs) =
      ⊎_elim (λ hit. inr (0, occurs (b ∷ bs) p (fits_of p (b ∷ bs) hit) hit, λ j l o. absurd (omega arith)))
      (λ miss.
      ⊎_elim (λ none. inl (not_at b bs miss none)) (λ w. inr (suc w.0, later p b bs w.0 w.1, not_before b bs w.0 miss w.2)) (place_in some bs))
      (cases_Bool (starts_with nat_eq (b ∷ bs) p))

  first_part : (t : List ℕ) (k : ℕ) → OccursAt t p k → ((j : ℕ) → j < k → OccursAt t p j → ⊥) → IsFirst p t (take k t)
  first_part t k o before x r e =
      let long = before_at t k o in
      ⊎_elim (λ l. absurd (before (length x) l (place_of t x r e))) (λ l. omega arith) (cases_lt (length x) k)

  pub cut_exists : 0 < length p → (n : ℕ) (t : List ℕ) → length t ≤ n → (part : List ℕ) × (others : List (List ℕ)) × IsCut p t part others
  cut_exists some zero t le = (t, [], (refl, λ x r e. let o = place_of t x r e in let fits = o.fits in absurd (omega arith)))
  cut_exists some (suc n) t le =
      ⊎_elim (λ none. (t, [], (refl, λ x r e. none (length x) (place_of t x r e))))
      (λ w.
      let o = w.1 in
      let fits = o.fits in
      let rest = cut_exists some n (drop (w.0 + length p) t) (omega (arith, length-drop (w.0 + length p) t)) in
      (take w.0 t, rest.0 ∷ rest.1, (drop (w.0 + length p) t, split_at t w.0 o, first_part t w.0 o w.2, rest.2)))
      (place_in some t)

pub joined_is_replaced : JoinedIsReplaced
joined_is_replaced p cell t part [] some cut = nowhere p cell t (λ k o. cut.1 (take k t) (drop (k + length p) t) (split_at p t k o)) ∙ cut.0
joined_is_replaced p cell t part (next ∷ others) some cut =
    let rest = cut.0 in
    let e = cut.1 in
    let front : take (length part) t ≡ part = ap (take (length part)) e ∙ take_front p part (p ++ rest) in
    first p cell t (length part) some (place_of p t part rest e)
    (λ j l o.
    let long = before_at p t j o in
    let low = cut.2 (take j t) (drop (j + length p) t) (split_at p t j o) in
    omega arith)
    ∙ ap (λ x. x ++ (cell ++ replaced_text p cell (drop (length part + length p) t))) front
    ∙ ap (λ x. part ++ (cell ++ replaced_text p cell x)) (after_of p t part rest e)
    ∙ ap (λ x. part ++ (cell ++ x)) (joined_is_replaced p cell rest next others some cut.3)

pub replaced_is_joined : ReplacedIsJoined
replaced_is_joined p cell t some =
    let cut = cut_exists p some (length t) t (le_refl (length t)) in
    (cut.0, cut.1, cut.2, joined_is_replaced p cell t cut.0 cut.1 some cut.2)
