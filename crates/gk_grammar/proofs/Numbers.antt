-- Nodes that are in order have the numbers 0, 1, .. exactly if each has the number of those before it.
use Rattle.std.proofs.Common.{◌≡◌, ℕ, ◌+◌, Bool, true, false, List, [], ◌∷◌, refl, ap, ◌∙◌, arith, count_by, cond}
use Rattle.std.proofs.lemmas.List.Sums.{sum_by-cons}
use Rattle.std.specs.List.{AllByRecursion}
use Rattle.gk_grammar.specs.Tree.{Location}
use Rattle.gk_grammar.specs.Grammar.{Node, stands_before, AreNumbered}
use Rattle.gk_grammar.proofs.Complete.{Counts}

-- each is before all after it, and none of those before it
abbrev pub InOrder : List Node → Type 0
InOrder [] = Unit {0}
InOrder (x ∷ xs) = (stands_before x.0 x.0 ≡ false) × AllByRecursion (λ (y : Node). (stands_before x.0 y.0 ≡ true) × (stands_before y.0 x.0 ≡ false)) xs × InOrder xs

-- how many are before this place
count-cons : (x : Node) (xs : List Node) (p : Location) (b : Bool) → stands_before x.0 p ≡ b → count_by (λ (y : Node). stands_before y.0 p) (x ∷ xs) ≡ cond b 1 0 + count_by (λ (y : Node). stands_before y.0 p) xs
count-cons x xs p b e = sum_by-cons (λ (y : Node). cond (stands_before y.0 p) 1 0) x xs ∙ ap (λ (c : Bool). cond c 1 0 + count_by (λ (y : Node). stands_before y.0 p) xs) e

none_before : (x : Node) (xs : List Node) → AllByRecursion (λ (y : Node). (stands_before x.0 y.0 ≡ true) × (stands_before y.0 x.0 ≡ false)) xs → count_by (λ (y : Node). stands_before y.0 x.0) xs ≡ 0
none_before x [] h = refl
none_before x (y ∷ ys) h = let c = count-cons y ys x.0 false h.0.1 in let r = none_before x ys h.1 in omega arith

-- the numbers from n on, where n nodes are before all
abbrev Shifted : ℕ → List Node → List Node → Type 0
Shifted n all xs = AllByRecursion (λ (x : Node). x.1 ≡ n + count_by (λ (y : Node). stands_before y.0 x.0) all) xs

one_more : (x : Node) (n : ℕ) (all xs : List Node) → AllByRecursion (λ (y : Node). (stands_before x.0 y.0 ≡ true) × (stands_before y.0 x.0 ≡ false)) xs → Shifted (n + 1) all xs → Shifted n (x ∷ all) xs
one_more x n all [] h s = tt
one_more x n all (y ∷ ys) h s = (s.0 ∙ (let c = count-cons x all y.0 true h.0.0 in omega arith), one_more x n all ys h.1 s.1)

one_less : (x : Node) (n : ℕ) (all xs : List Node) → AllByRecursion (λ (y : Node). (stands_before x.0 y.0 ≡ true) × (stands_before y.0 x.0 ≡ false)) xs → Shifted n (x ∷ all) xs → Shifted (n + 1) all xs
one_less x n all [] h s = tt
one_less x n all (y ∷ ys) h s = (s.0 ∙ (let c = count-cons x all y.0 true h.0.0 in omega arith), one_less x n all ys h.1 s.1)

shifted_counts : (n : ℕ) (xs : List Node) → InOrder xs → Shifted n xs xs → Counts n xs
shifted_counts n [] o s = tt
shifted_counts n (x ∷ xs) o s = (s.0 ∙ (let c = count-cons x xs x.0 false o.0 in let r = none_before x xs o.1 in omega arith), shifted_counts (n + 1) xs o.2 (one_less x n xs xs o.1 s.1))

counts_shifted : (n : ℕ) (xs : List Node) → InOrder xs → Counts n xs → Shifted n xs xs
counts_shifted n [] o s = tt
counts_shifted n (x ∷ xs) o s = (s.0 ∙ (let c = count-cons x xs x.0 false o.0 in let r = none_before x xs o.1 in omega arith), one_more x n xs xs o.1 (counts_shifted (n + 1) xs o.2 s.1))

numbers_from : (all xs : List Node) → Shifted 0 all xs → AllByRecursion (λ (x : Node). x.1 ≡ count_by (λ (y : Node). stands_before y.0 x.0) all) xs
numbers_from all [] h = tt
numbers_from all (x ∷ xs) h = (h.0 ∙ omega arith, numbers_from all xs h.1)

numbers_to : (all xs : List Node) → AllByRecursion (λ (x : Node). x.1 ≡ count_by (λ (y : Node). stands_before y.0 x.0) all) xs → Shifted 0 all xs
numbers_to all [] h = tt
numbers_to all (x ∷ xs) h = (h.0 ∙ omega arith, numbers_to all xs h.1)

-- nodes in order have the numbers 0, 1, .. exactly if each has the number of those that are before it
pub numbered : (xs : List Node) → InOrder xs → Counts 0 xs → AreNumbered xs
numbered xs o h = numbers_from xs xs (counts_shifted 0 xs o h)

pub counted : (xs : List Node) → InOrder xs → AreNumbered xs → Counts 0 xs
counted xs o h = shifted_counts 0 xs o (numbers_to xs xs h)
