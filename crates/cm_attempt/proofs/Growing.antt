-- Lists that grow at their end, and what is found in them by an id.
use Rattle.std.proofs.Common.{◌≡◌, refl, sym, ap, ◌∙◌, List, [], ◌∷◌, ◌++◌, Option, Some, None, true, false, Bool, ◌||◌, cond, append-nil, subst, length, map}
use Rattle.std.specs.Prelude.{find, slice_get, option_map, filter, filter_map}
use Rattle.std.specs.List.{AllByRecursion}
use Rattle.std.specs.Option.{option_or}
use Rattle.std.specs.Str.{bytes_eq}
use Rattle.std.proofs.lemmas.Slice.Eq.{bytes_eq-Decides}
use Rattle.std.proofs.lemmas.List.Elements.{filter_map-append}
use Rattle.std.proofs.lemmas.List.Folds.{find-append}
use Rattle.cm_attempt.specs.Table.{Utf8, change_first}

pub bytes_same : (a : Utf8) → bytes_eq a a ≡ true
bytes_same a = (bytes_eq-Decides a a).1 refl

pub bytes_are : (a b : Utf8) → bytes_eq a b ≡ true → a ≡ b
bytes_are a b h = (bytes_eq-Decides a b).0 h

pub by_id : {P : Type 0} (a b : Utf8) → (bytes_eq a b ≡ false → P) → (a ≡ b → P) → P
by_id {P} a b differ same = go (bytes_eq a b) refl
  where
    go : (x : Bool) → bytes_eq a b ≡ x → P
    go true k = same (bytes_are a b k)
    go false k = differ k

pub or_false : (a b : Bool) → (a || b) ≡ false → (a ≡ false) × (b ≡ false)
or_false true b h = cc
or_false false b h = (refl, h)

-- ---- what a map keeps of a list with one more

pub found_more : {X Y : Type 0} (h : X → Option Y) (xs : List X) (x : X) → h x ≡ None → filter_map h (xs ++ x ∷ []) ≡ filter_map h xs
found_more h xs x e = filter_map-append h xs (x ∷ []) ∙ rw e (append-nil (filter_map h xs))

pub found_push : {X Y : Type 0} (h : X → Option Y) (xs : List X) (x : X) (y : Y) → h x ≡ Some y → filter_map h (xs ++ x ∷ []) ≡ filter_map h xs ++ y ∷ []
found_push h xs x y e = filter_map-append h xs (x ∷ []) ∙ rw e refl

pub found_cut : {X Y : Type 0} (h : X → Option Y) (xs : List X) (x : X) (ys : List X) (y : Y) → h x ≡ Some y → filter_map h (xs ++ x ∷ ys) ≡ filter_map h xs ++ y ∷ filter_map h ys
found_cut h xs x ys y e = filter_map-append h xs (x ∷ ys) ∙ rw e refl

pub all_weaker : {X : Type 0} (P Q : X → Type 0) → ((x : X) → P x → Q x) → (xs : List X) → AllByRecursion P xs → AllByRecursion Q xs
all_weaker P Q f [] h = tt
all_weaker P Q f (x ∷ xs) h = (f x h.0, all_weaker P Q f xs h.1)

pub all_push : {X : Type 0} (P : X → Type 0) (xs : List X) (x : X) → AllByRecursion P xs → P x → AllByRecursion P (xs ++ x ∷ [])
all_push P [] x h k = (k, tt)
all_push P (y ∷ xs) x h k = (h.0, all_push P xs x h.1 k)

pub at_end : {X : Type 0} (xs ys : List X) → slice_get (xs ++ ys) (length xs) ≡ slice_get ys 0
at_end [] ys = refl
at_end (x ∷ xs) ys = at_end xs ys

-- ---- what is found

pub still_found : {X : Type 0} (p : X → Bool) (xs ys : List X) (y : X) → find p xs ≡ Some y → find p (xs ++ ys) ≡ Some y
still_found p xs ys y e = rw (find-append p xs ys, e) refl

or_none : {X : Type 0} (o : Option X) → option_or o None ≡ o
or_none None = refl
or_none (Some x) = refl

pub found_new : {X : Type 0} (p : X → Bool) (xs : List X) (x : X) → find p xs ≡ None → p x ≡ true → find p (xs ++ x ∷ []) ≡ Some x
found_new p xs x none here = rw (find-append p xs (x ∷ []), none, here) refl

pub found_past : {X : Type 0} (p : X → Bool) (xs : List X) (x : X) → p x ≡ false → find p (xs ++ x ∷ []) ≡ find p xs
found_past p xs x e = rw (find-append p xs (x ∷ []), e) (or_none (find p xs))

-- what is found passes the test
pub find_passes : {X : Type 0} (p : X → Bool) (xs : List X) (x : X) → find p xs ≡ Some x → p x ≡ true
find_passes p [] x h = cc
find_passes {X} p (y ∷ xs) x h = go (p y) refl (find_passes p xs x)
  where
    go : (b : Bool) → p y ≡ b → (find p xs ≡ Some x → p x ≡ true) → p x ≡ true
    go true e rec =
        let here : Some y ≡ Some x = rw e at h in
        let same : y ≡ x = cc in
        ap p (sym same) ∙ e
    go false e rec = rec (rw e at h)

-- what holds of each element holds of the one that is found
pub find_all : {X : Type 0} (P : X → Type 0) (p : X → Bool) (xs : List X) (x : X) → find p xs ≡ Some x → AllByRecursion P xs → P x
find_all P p [] x h all = cc
find_all {X} P p (y ∷ xs) x h all = go (p y) refl (find_all P p xs x)
  where
    turn : (y ≡ x) → P y → P x
    turn e k = subst P e k

    go : (b : Bool) → p y ≡ b → (find p xs ≡ Some x → AllByRecursion P xs → P x) → P x
    go true e rec =
        let here : Some y ≡ Some x = rw e at h in
        let same : y ≡ x = cc in
        turn same all.0
    go false e rec = rec (rw e at h) all.1

-- what is found of a list is found of those that pass a test which it passes
pub find_kept : {X : Type 0} (p q : X → Bool) (xs : List X) (y : X) → find q xs ≡ Some y → p y ≡ true → find q (filter p xs) ≡ Some y
find_kept p q [] y found k = cc
find_kept {X} p q (x ∷ xs) y found k = go (q x) refl (p x) refl (find_kept p q xs y)
  where
    go : (b : Bool) → q x ≡ b → (c : Bool) → p x ≡ c → (find q xs ≡ Some y → p y ≡ true → find q (filter p xs) ≡ Some y) → find q (filter p (x ∷ xs)) ≡ Some y
    go true e true d rec = let here : Some x ≡ Some y = rw e at found in rw (d, e) here
    go true e false d rec =
        let here : Some x ≡ Some y = rw e at found in
        let same : x ≡ y = cc in
        let yes_too : p x ≡ true = ap p same ∙ k in
        cc
    go false e true d rec = rw (d, e) (rec (rw e at found) k)
    go false e false d rec = rw d (rec (rw e at found) k)

-- ---- a change of the first element with an id

module _ {X : Type 0} (id : X → Utf8) (f : X → X) (same : (x : X) → id (f x) ≡ id x) where
  pub found_changed : (q : Utf8) (xs : List X) → find (λ x. bytes_eq q (id x)) (change_first (λ x. bytes_eq q (id x)) f xs) ≡ option_map f (find (λ x. bytes_eq q (id x)) xs)
  found_changed q [] = refl
  found_changed q (x ∷ xs) = go (bytes_eq q (id x)) refl (found_changed q xs)
    where
      go : (b : Bool) → bytes_eq q (id x) ≡ b → find (λ x. bytes_eq q (id x)) (change_first (λ x. bytes_eq q (id x)) f xs) ≡ option_map f (find (λ x. bytes_eq q (id x)) xs)
          → find (λ x. bytes_eq q (id x)) (change_first (λ x. bytes_eq q (id x)) f (x ∷ xs)) ≡ option_map f (find (λ x. bytes_eq q (id x)) (x ∷ xs))
      go true e rec = let here : bytes_eq q (id (f x)) ≡ true = ap (bytes_eq q) (same x) ∙ e in rw (e, here) refl
      go false e rec = rw (e, e) rec

  pub found_elsewhere : (q p : Utf8) → bytes_eq q p ≡ false → (xs : List X) → find (λ x. bytes_eq q (id x)) (change_first (λ x. bytes_eq p (id x)) f xs) ≡ find (λ x. bytes_eq q (id x)) xs
  found_elsewhere q p differ [] = refl
  found_elsewhere q p differ (x ∷ xs) = go (bytes_eq p (id x)) refl (found_elsewhere q p differ xs)
    where
      go : (b : Bool) → bytes_eq p (id x) ≡ b → find (λ x. bytes_eq q (id x)) (change_first (λ x. bytes_eq p (id x)) f xs) ≡ find (λ x. bytes_eq q (id x)) xs
          → find (λ x. bytes_eq q (id x)) (change_first (λ x. bytes_eq p (id x)) f (x ∷ xs)) ≡ find (λ x. bytes_eq q (id x)) (x ∷ xs)
      go true e rec =
          let no : bytes_eq q (id x) ≡ false = ap (bytes_eq q) (sym (bytes_are p (id x) e)) ∙ differ in
          let no_too : bytes_eq q (id (f x)) ≡ false = ap (bytes_eq q) (same x) ∙ no in
          rw (e, no, no_too) refl
      go false e rec = rw e (ap (λ o. cond (bytes_eq q (id x)) (Some x) o) rec)

  pub same_ids : (p : X → Bool) (xs : List X) → map id (change_first p f xs) ≡ map id xs
  same_ids p [] = refl
  same_ids p (x ∷ xs) = go (p x) refl (same_ids p xs)
    where
      go : (b : Bool) → p x ≡ b → map id (change_first p f xs) ≡ map id xs → map id (change_first p f (x ∷ xs)) ≡ map id (x ∷ xs)
      go true e rec = rw e (ap (λ i. i ∷ map id xs) (same x))
      go false e rec = rw e (ap (λ ids. id x ∷ ids) rec)
