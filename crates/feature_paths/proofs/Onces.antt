-- Each text is there once.
use Rattle.std.proofs.Common.{◌≡◌, ◌⊎◌, ℕ, Bool, true, false, List, [], ◌∷◌, ◌++◌, refl, sym, subst, inl, inr, Contains, fold, if◌then◌else◌}
use Rattle.std.proofs.lemmas.Cmp.{nat_list_eq_equiv}
use Rattle.std.proofs.lemmas.List.{append-nil, append_assoc}
use Rattle.std.proofs.lemmas.List.Elements.{Contains-append_cases, Contains-append_left, Contains-append_right, Contains-push_cases}
use Rattle.std.proofs.lemmas.Map.Keys.{IsDistinct-push}
use Rattle.std.proofs.lemmas.Map.Views.{Contains-from_any}
use Rattle.std.proofs.lemmas.Slice.Eq.{bytes_eq-Decides}
use Rattle.std.specs.List.{IsDistinct, list_any}
use Rattle.std.specs.Str.{bytes_eq}
use Rattle.feature_paths.specs.FeaturePaths.{add_new}
use Rattle.feature_paths.specs.Laws.{EachIsThereOnce}

same_text : (x y : List ℕ) → bytes_eq x y ≡ true → x ≡ y
same_text x y = (bytes_eq-Decides x y).0

-- what one more text leaves
kept : (seen : List (List ℕ)) (x t : List ℕ) → Contains (add_new seen x) t → Contains (seen ++ x ∷ []) t
kept seen x t = by (list_any (bytes_eq x) seen)
  where
    by : (b : Bool) → Contains (if b then seen else seen ++ x ∷ []) t → Contains (seen ++ x ∷ []) t
    by true h = Contains-append_left seen (x ∷ []) t h
    by false h = h

there : (seen : List (List ℕ)) (x t : List ℕ) → Contains (seen ++ x ∷ []) t → Contains (add_new seen x) t
there seen x t h = by (list_any (bytes_eq x) seen) refl
  where
    old : list_any (bytes_eq x) seen ≡ true → Contains seen t ⊎ (x ≡ t) → Contains seen t
    old e (inl in_seen) = in_seen
    old e (inr is) = subst (Contains seen) is (Contains-from_any same_text x seen e)

    by : (b : Bool) → list_any (bytes_eq x) seen ≡ b → Contains (if b then seen else seen ++ x ∷ []) t
    by true e = old e (Contains-push_cases seen x t h)
    by false e = h

distinct : (seen : List (List ℕ)) (x : List ℕ) → IsDistinct bytes_eq seen → IsDistinct bytes_eq (add_new seen x)
distinct seen x d = by (list_any (bytes_eq x) seen) refl
  where
    by : (b : Bool) → list_any (bytes_eq x) seen ≡ b → IsDistinct bytes_eq (if b then seen else seen ++ x ∷ [])
    by true e = d
    by false e = IsDistinct-push nat_list_eq_equiv seen x d e

all_kept : (seen texts : List (List ℕ)) (t : List ℕ) → Contains (fold add_new seen texts) t → Contains (seen ++ texts) t
all_kept seen [] t h = subst (λ (ts : List (List ℕ)). Contains ts t) (sym (append-nil seen)) h
all_kept seen (x ∷ texts) t h =
    subst (λ (ts : List (List ℕ)). Contains ts t) (append_assoc seen (x ∷ []) texts)
    (by (Contains-append_cases (add_new seen x) texts t (all_kept (add_new seen x) texts t h)))
  where
    by : Contains (add_new seen x) t ⊎ Contains texts t → Contains ((seen ++ x ∷ []) ++ texts) t
    by (inl old) = Contains-append_left (seen ++ x ∷ []) texts t (kept seen x t old)
    by (inr new) = Contains-append_right (seen ++ x ∷ []) texts t new

all_there : (seen texts : List (List ℕ)) (t : List ℕ) → Contains (seen ++ texts) t → Contains (fold add_new seen texts) t
all_there seen [] t h = subst (λ (ts : List (List ℕ)). Contains ts t) (append-nil seen) h
all_there seen (x ∷ texts) t h =
    all_there (add_new seen x) texts t
    (by (Contains-append_cases (seen ++ x ∷ []) texts t
    (subst (λ (ts : List (List ℕ)). Contains ts t) (sym (append_assoc seen (x ∷ []) texts)) h)))
  where
    by : Contains (seen ++ x ∷ []) t ⊎ Contains texts t → Contains (add_new seen x ++ texts) t
    by (inl old) = Contains-append_left (add_new seen x) texts t (there seen x t old)
    by (inr new) = Contains-append_right (add_new seen x) texts t new

all_distinct : (seen texts : List (List ℕ)) → IsDistinct bytes_eq seen → IsDistinct bytes_eq (fold add_new seen texts)
all_distinct seen [] d = d
all_distinct seen (x ∷ texts) d = all_distinct (add_new seen x) texts (distinct seen x d)

pub are_once : EachIsThereOnce
unfolding IsDistinct
are_once texts = record {
  same = λ t. (all_kept [] texts t, all_there [] texts t);
  distinct = all_distinct [] texts tt;
}
