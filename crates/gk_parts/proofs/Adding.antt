-- What one value more of a list adds, and all of them once no value is left.
use Rattle.std.proofs.Common.{◌≡◌, ◌∙◌, ℕ, ◌+◌, ◌<◌, ◌≤◌, List, [], ◌∷◌, ◌++◌, ap, append-nil, append_assoc, drop, get_or, length, sym}
use Rattle.std.proofs.lemmas.List.{at_drop_all, drop_more}

pub one_added : {X Y : Type 0} (f : List X → List Y) (part : List Y) (made new all : List Y) (xs : List X) (i : ℕ) (x : X)
    → ((rest : List X) → f (x ∷ rest) ≡ part ++ f rest) → new ≡ made ++ part → i < length xs → x ≡ get_or xs i x
    → made ++ f (drop i xs) ≡ all → new ++ f (drop (i + 1) xs) ≡ all
one_added f part made new all xs i x first n l e h =
    let rest = drop (i + 1) xs in
    let next : x ∷ rest ≡ drop i xs = sym (drop_more xs i x l ∙ ap (λ y. y ∷ rest) (sym e)) in
    ap (λ ys. ys ++ f rest) n ∙ append_assoc made part (f rest) ∙ ap (λ ys. made ++ ys) (sym (first rest)) ∙ ap (λ ys. made ++ f ys) next ∙ h

pub all_added : {X Y : Type 0} (f : List X → List Y) (made all : List Y) (xs : List X) (i : ℕ)
    → f [] ≡ [] → length xs ≤ i → made ++ f (drop i xs) ≡ all → made ≡ all
all_added f made all xs i none l h = sym (ap (λ ys. made ++ ys) (at_drop_all f xs i l ∙ none) ∙ append-nil made) ∙ h
