-- Texts in order, and each once.
use Rattle.std.proofs.Common.{◌≡◌, ◌∙◌, ℕ, ◌+◌, ◌<◌, Bool, true, false, List, [], ◌∷◌, ◌++◌, length, map, refl, sym, ap, arith, if◌then◌else◌}
use Rattle.std.proofs.lemmas.List.{get_or-map, length-map, map-append}
use Rattle.std.proofs.lemmas.List.Sums.{fold-append}
use Rattle.std.specs.Cmp.Lexicographic.{slice_cmp}
use Rattle.std.specs.List.{list_any}
use Rattle.std.specs.List.Sorted.{IsSorted, IsSortedBy}
use Rattle.std.specs.Ordering.{is_lt, nat_cmp}
use Rattle.std.specs.Str.{bytes_eq}
use Rattle.indexmap.specs.IndexSet.{insert_key}
use Rattle.feature_paths.specs.FeaturePaths.{add_new, each_once}

module _ {X : Type 0} (f : X → List ℕ) where
  -- things in the order of their texts have texts in order
  pub sorted_texts : (xs : List X) → IsSortedBy (λ x y. is_lt (slice_cmp nat_cmp (f x) (f y))) xs
      → IsSorted (slice_cmp nat_cmp) (map f xs)
  sorted_texts [] s k d low high = absurd (omega arith)
  sorted_texts (x ∷ xs) s k d low high =
      let short : k + 1 < length (x ∷ xs) = omega (arith, length-map (x ∷ xs) f) in
      let upper = get_or-map f (x ∷ xs) (k + 1) x d short in
      let lower = get_or-map f (x ∷ xs) k x d (omega arith) in
      (λ i. is_lt (slice_cmp nat_cmp (upper i) (lower i))) ∙ s k x low short

  abbrev same : X → X → Bool
  same x y = bytes_eq (f x) (f y)

  any_same : (x : X) (xs : List X) → list_any (same x) xs ≡ list_any (bytes_eq (f x)) (map f xs)
  any_same x [] = refl
  any_same x (y ∷ ys) = rw (any_same x ys) refl

  inserted : (b : Bool) (xs : List X) (x : X) → map f (if b then xs else xs ++ x ∷ [])
      ≡ (if b then map f xs else map f xs ++ f x ∷ [])
  inserted true xs x = refl
  inserted false xs x = map-append f xs (x ∷ [])

  added : (xs : List X) (x : X) → map f (insert_key same xs x) ≡ add_new (map f xs) (f x)
  added xs x =
      inserted (list_any (same x) xs) xs x
      ∙ ap (λ b. if b then map f xs else map f xs ++ f x ∷ []) (any_same x xs)

  -- one thing more in a set of things that are the same where their texts are
  pub once_more : (seen next xs : List X) (x : X) → map f seen ≡ each_once (map f xs) → next ≡ insert_key same seen x
      → map f next ≡ each_once (map f (xs ++ x ∷ []))
  once_more seen next xs x so_far e =
      ap (map f) e ∙ added seen x ∙ ap (λ texts. add_new texts (f x)) so_far
      ∙ sym (ap each_once (map-append f xs (x ∷ [])) ∙ fold-append add_new [] (map f xs) (f x ∷ []))
