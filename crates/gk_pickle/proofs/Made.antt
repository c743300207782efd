-- One value more of a list, and all of them once no value is left.
use Rattle.std.proofs.Common.{◌≡◌, ◌∙◌, ℕ, ◌+◌, ◌<◌, ◌≤◌, List, [], ◌∷◌, ◌++◌, ap, append-nil, append_assoc, drop, get_or, length, map, sym}
use Rattle.std.proofs.lemmas.List.{at_drop_all, drop_more}

-- the next value, made of what comes first in what is left
pub next_made : {Y : Type 0} (values new left rest all : List Y) (v : Y) → new ≡ values ++ v ∷ [] → left ≡ v ∷ rest → values ++ left ≡ all → new ++ rest ≡ all
next_made values new left rest all v n e h = ap (λ ys. ys ++ rest) n ∙ append_assoc values (v ∷ []) rest ∙ ap (λ ys. values ++ ys) (sym e) ∙ h

pub one_made : {X Y : Type 0} (f : X → Y) (values new : List Y) (v : Y) (xs : List X) (i : ℕ) (x : X) (all : List Y)
    → new ≡ values ++ v ∷ [] → v ≡ f x → i < length xs → x ≡ get_or xs i x → values ++ map f (drop i xs) ≡ all → new ++ map f (drop (i + 1) xs) ≡ all
one_made f values new v xs i x all n is l e h =
    next_made values new (map f (drop i xs)) (map f (drop (i + 1) xs)) all v n
    (ap (map f) (drop_more xs i x l) ∙ ap (λ y. y ∷ map f (drop (i + 1) xs)) (ap f (sym e) ∙ sym is)) h

-- a value of the list may make several
pub more_made : {X Y : Type 0} (f : List X → List Y) (more values new all : List Y) (xs : List X) (i : ℕ) (x : X)
    → ((rest : List X) → f (x ∷ rest) ≡ more ++ f rest) → new ≡ values ++ more → i < length xs → x ≡ get_or xs i x
    → values ++ f (drop i xs) ≡ all → new ++ f (drop (i + 1) xs) ≡ all
more_made f more values new all xs i x first n l e h =
    let rest = drop (i + 1) xs in
    let next : x ∷ rest ≡ drop i xs = sym (drop_more xs i x l ∙ ap (λ y. y ∷ rest) (sym e)) in
    ap (λ ys. ys ++ f rest) n ∙ append_assoc values more (f rest) ∙ ap (λ ys. values ++ ys) (sym (first rest)) ∙ ap (λ ys. values ++ f ys) next ∙ h

pub all_made : {X Y : Type 0} (f : List X → List Y) (values : List Y) (xs : List X) (i : ℕ) (all : List Y)
    → f [] ≡ [] → length xs ≤ i → values ++ f (drop i xs) ≡ all → values ≡ all
all_made f values xs i all none l h = sym (ap (λ ys. values ++ ys) (at_drop_all f xs i l ∙ none) ∙ append-nil values) ∙ h
