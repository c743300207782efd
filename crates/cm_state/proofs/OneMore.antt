-- What one more line adds to what the lines so far say.
use Rattle.std.proofs.Common.{◌≡◌, suc, ◌+◌, refl, sym, ap, ◌∙◌, List, [], ◌∷◌, ◌++◌, Option, Some, None, true, false, Bool, map, length, arith}
use Rattle.std.specs.Prelude.{nat_lt, find, count_by}
use Rattle.std.specs.List.{AllByRecursion, list_any, filter, filter_map}
use Rattle.std.specs.Option.{option_map, option_map_or}
use Rattle.std.specs.Str.{bytes_eq}
use Rattle.std.proofs.lemmas.List.Sums.{length-filter}
use Rattle.std.proofs.lemmas.List.{map-append}
use Rattle.cm_stream.specs.Texts.{Utf8}
use Rattle.cm_stream.specs.References.{Name, declares_it, times_declared, refers}
use Rattle.cm_envelope.specs.declared.envelope.Envelope.{Envelope}
use Rattle.cm_stream.proofs.Lists.{none_any, found_more, found_push}
use Rattle.cm_stream.proofs.Found.{each_found, still_found, by_id, none_found}
use Rattle.cm_stream.proofs.Declared.{declarer, same_any}
use Rattle.cm_stream.proofs.Passing.{AllPass}
use Rattle.cm_stream.proofs.Distinct.{all_refer, not_counted}
use Rattle.cm_stream.proofs.Sourced.{kept_count, same_kept}

-- ---- lists

-- the list, and this after it if it is there
abbrev pub push_if : {X : Type 0} → List X → Option X → List X
push_if xs None = xs
push_if xs (Some x) = xs ++ x ∷ []

pub found_after : {X Y : Type 0} (h : X → Option Y) (xs : List X) (x : X) → filter_map h (xs ++ x ∷ []) ≡ push_if (filter_map h xs) (h x)
found_after {X} {Y} h xs x = go (h x) refl
  where
    go : (o : Option Y) → h x ≡ o → filter_map h (xs ++ x ∷ []) ≡ push_if (filter_map h xs) o
    go None e = found_more h xs x e
    go (Some y) e = found_push h xs x y e

pub map_after : {X Y : Type 0} (f : X → Y) (xs : List X) (o : Option X) → map f (push_if xs o) ≡ push_if (map f xs) (option_map f o)
map_after f xs None = refl
map_after f xs (Some x) = map-append f xs (x ∷ [])

-- ---- counts

pub same_count : {X : Type 0} (p q : X → Bool) → ((x : X) → p x ≡ q x) → (xs : List X) → count_by p xs ≡ count_by q xs
same_count p q h xs = sym (length-filter p xs) ∙ ap length (same_kept p q h xs) ∙ length-filter q xs

-- what one test keeps is what another keeps, and what a third keeps
pub kept_apart : {X : Type 0} (p q away : X → Bool) → ((x : X) → away x ≡ true → (p x ≡ true) × (q x ≡ false)) → ((x : X) → away x ≡ false → p x ≡ q x)
    → (xs : List X) → length (filter p xs) ≡ length (filter q xs) + length (filter away xs)
kept_apart p q away hit other [] = omega arith
kept_apart {X} p q away hit other (x ∷ xs) = go (away x) refl (kept_apart p q away hit other xs)
  where
    at : (b : Bool) → q x ≡ b → away x ≡ false → length (filter p xs) ≡ length (filter q xs) + length (filter away xs)
        → length (filter p (x ∷ xs)) ≡ length (filter q (x ∷ xs)) + length (filter away (x ∷ xs))
    at true k e rec =
        let yes_too : p x ≡ true = other x e ∙ k in
        let all : length (filter p (x ∷ xs)) ≡ suc (length (filter p xs)) = rw yes_too refl in
        let some : length (filter q (x ∷ xs)) ≡ suc (length (filter q xs)) = rw k refl in
        let same : length (filter away (x ∷ xs)) ≡ length (filter away xs) = rw e refl in
        omega (arith, all, some, same, rec)
    at false k e rec =
        let no_too : p x ≡ false = other x e ∙ k in
        let all : length (filter p (x ∷ xs)) ≡ length (filter p xs) = rw no_too refl in
        let some : length (filter q (x ∷ xs)) ≡ length (filter q xs) = rw k refl in
        let same : length (filter away (x ∷ xs)) ≡ length (filter away xs) = rw e refl in
        omega (arith, all, some, same, rec)

    go : (b : Bool) → away x ≡ b → length (filter p xs) ≡ length (filter q xs) + length (filter away xs)
        → length (filter p (x ∷ xs)) ≡ length (filter q (x ∷ xs)) + length (filter away (x ∷ xs))
    go true e rec =
        let k = hit x e in
        let all : length (filter p (x ∷ xs)) ≡ suc (length (filter p xs)) = rw k.0 refl in
        let same : length (filter q (x ∷ xs)) ≡ length (filter q xs) = rw k.1 refl in
        let some : length (filter away (x ∷ xs)) ≡ suc (length (filter away xs)) = rw e refl in
        omega (arith, all, same, some, rec)
    go false e rec = at (q x) refl e rec

-- ---- names

-- how many declare a name, by what is kept
pub kept_named : {Y : Type 0} (name : Name) (h : Envelope → Option Y) (p : Y → Bool) → ((e : Envelope) → declares_it name e ≡ option_map_or p (h e) false) → (es : List Envelope)
    → length (filter p (filter_map h es)) ≡ times_declared name es
kept_named name h p same es = kept_count h p es ∙ ap length (sym (same_kept (declares_it name) (λ e. option_map_or p (h e) false) same es)) ∙ length-filter (declares_it name) es

-- what no line declares isn't found
pub not_found : {Y : Type 0} (name : Name) (h : Envelope → Option Y) (p : Y → Bool) → ((e : Envelope) → declares_it name e ≡ option_map_or p (h e) false) → (es : List Envelope)
    → nat_lt 0 (times_declared name es) ≡ false → find p (filter_map h es) ≡ None
not_found name h p same es new = none_found h p es (sym (same_any (declares_it name) (λ e. option_map_or p (h e) false) same es) ∙ not_counted (declares_it name) es new)

-- no line refers to what no line declares
pub none_refers : {D Y : Type 0} (es : List Envelope) → AllPass es → (name : Utf8 → Name) (d : Envelope → Option D) (id : D → Utf8)
    → ((u : Utf8) (e : Envelope) → declares_it (name u) e ≡ option_map_or (λ x. bytes_eq u (id x)) (d e) false)
    → (h : Envelope → Option Y) (of : Y → Utf8)
    → ((front : List Envelope) (here : Envelope) (y : Y) → h here ≡ Some y → AllByRecursion (λ n. times_declared n front ≡ 1) (refers front here) → times_declared (name (of y)) front ≡ 1)
    → (u : Utf8) → find (λ x. bytes_eq u (id x)) (filter_map d es) ≡ None → list_any (λ y. bytes_eq u (of y)) (filter_map h es) ≡ false
none_refers {D} {Y} es pass name d id declares h of refer u none = none_any (λ y. bytes_eq u (of y)) (filter_map h es) (each_found h (λ y. bytes_eq u (of y) ≡ false) es each)
  where
    each : (front : List Envelope) (here : Envelope) (back : List Envelope) (y : Y) → es ≡ front ++ here ∷ back → h here ≡ Some y → bytes_eq u (of y) ≡ false
    each front here back y cut is =
        by_id u (of y) (λ k. k) (λ k.
        let one : times_declared (name u) front ≡ 1 = ap (λ v. times_declared (name v) front) k ∙ refer front here y is (all_refer es pass front here back cut) in
        let at = declarer (name u) d (λ x. bytes_eq u (id x)) (declares u) front one in
        let found : find (λ x. bytes_eq u (id x)) (filter_map d es) ≡ Some at.value = ap (λ xs. find (λ (x : D). bytes_eq u (id x)) (filter_map d xs)) cut ∙ still_found d (λ x. bytes_eq u (id x)) front (here ∷ back) at.value at.found in
        let no_way : Some at.value ≡ None = sym found ∙ none in
        cc)
