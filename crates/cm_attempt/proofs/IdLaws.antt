-- What the changes of a table do to its ids.
use Rattle.std.proofs.Common.{◌≡◌, ◌∙◌, ap, refl, Bool, true, false, List, [], ◌∷◌, ◌++◌, ◌||◌, map, None, Some}
use Rattle.std.specs.Prelude.{find}
use Rattle.std.specs.Str.{bytes_eq}
use Rattle.std.proofs.lemmas.List.{map_push}
use Rattle.cm_attempt.specs.Table.{Utf8, change_first, has_repeat, has_text}
use Rattle.cm_refs.proofs.RepeatLemmas.{has_repeat-push}

module _ {X : Type 0} (id : X → Utf8) where
  -- a change that keeps the id of its row keeps all
  ids-change_first : (p : X → Bool) (f : X → X) → ((x : X) → id (f x) ≡ id x) → (xs : List X) → map id (change_first p f xs) ≡ map id xs
  ids-change_first p f same [] = refl
  ids-change_first p f same (x ∷ xs) = by (p x) refl (ids-change_first p f same xs)
    where
      by : (b : Bool) → p x ≡ b → map id (change_first p f xs) ≡ map id xs → map id (change_first p f (x ∷ xs)) ≡ map id (x ∷ xs)
      by true e rest = rw (e, same x) refl
      by false e rest = rw e (ap (λ ids. id x ∷ ids) rest)

  pub distinct_after_change : (p : X → Bool) (f : X → X) → ((x : X) → id (f x) ≡ id x) → (xs ys : List X) → ys ≡ change_first p f xs
      → has_repeat (map id xs) ≡ false → has_repeat (map id ys) ≡ false
  distinct_after_change p f same xs ys changed h =
      ap (λ l. has_repeat (map id l)) changed ∙ ap has_repeat (ids-change_first p f same xs) ∙ h

  not_among : (q : Utf8) (xs : List X) → find (λ x. bytes_eq q (id x)) xs ≡ None → has_text q (map id xs) ≡ false
  not_among q [] h = refl
  not_among q (x ∷ xs) h = by (bytes_eq q (id x)) refl (not_among q xs)
    where
      by : (b : Bool) → bytes_eq q (id x) ≡ b → (find (λ y. bytes_eq q (id y)) xs ≡ None → has_text q (map id xs) ≡ false)
          → has_text q (map id (x ∷ xs)) ≡ false
      by true e rest = let bad : Some x ≡ None = rw e at h in cc
      by false e rest = let less : find (λ y. bytes_eq q (id y)) xs ≡ None = rw e at h in rw e (rest less)

  -- a new row whose id no row has
  pub distinct_after_push : (x : X) (xs ys : List X) → ys ≡ xs ++ x ∷ [] → find (λ y. bytes_eq (id x) (id y)) xs ≡ None
      → has_repeat (map id xs) ≡ false → has_repeat (map id ys) ≡ false
  distinct_after_push x xs ys pushed new h =
      ap (λ l. has_repeat (map id l)) pushed
      ∙ ap has_repeat (map_push id xs x)
      ∙ has_repeat-push (map id xs) (id x)
      ∙ (λ j. not_among (id x) xs new j || h j)
