-- Places in order: a list of nodes that are at places of a list, in its order.
use Rattle.std.proofs.Common.{◌≡◌, ◌≤◌, ◌<◌, Bool, true, false, List, [], ◌∷◌, ◌++◌, length, refl, sym, ap, subst, ◌∙◌, arith, inl, inr}
use Rattle.std.proofs.lemmas.Bool.{ltb-true, lt-ltb, le-ltb, eqb-true, eq-eqb}
use Rattle.std.specs.Prelude.{nat_lt, ◌==◌, ◌||◌, ◌&&◌, ◌⊎◌}
use Rattle.std.specs.List.{AllByRecursion}
use Rattle.gk_grammar.specs.Tree.{Location}
use Rattle.gk_grammar.specs.Grammar.{Node, stands_before}
use Rattle.gk_grammar.proofs.Numbers.{InOrder}

-- ---- by line and column

after_false : (p q r : Bool) → p ≡ false → r ≡ false → (p || (q && r)) ≡ false
after_false false true false e f = refl
after_false false false false e f = refl
after_false true q r e f = absurd cc
after_false false q true e f = absurd cc

pub not_before_itself : (a : Location) → stands_before a a ≡ false
not_before_itself a = after_false (nat_lt a.line a.line) (a.line == a.line) (nat_lt a.column a.column) (le-ltb _ _ (omega arith)) (le-ltb _ _ (omega arith))

either : (p q r : Bool) → (p || (q && r)) ≡ true → (p ≡ true) ⊎ ((q ≡ true) × (r ≡ true))
either true q r e = inl refl
either false true true e = inr (refl, refl)
either false true false e = absurd cc
either false false r e = absurd cc

neither : (p q r : Bool) → p ≡ false → (q ≡ true → r ≡ false) → (p || (q && r)) ≡ false
neither false true r e f = f refl
neither false false r e f = refl
neither true q r e f = absurd cc

pub not_both_before : (a b : Location) → stands_before a b ≡ true → stands_before b a ≡ false
not_both_before a b e = go (either (nat_lt a.line b.line) (a.line == b.line) (nat_lt a.column b.column) e)
  where
    go : (nat_lt a.line b.line ≡ true) ⊎ (((a.line == b.line) ≡ true) × (nat_lt a.column b.column ≡ true)) → stands_before b a ≡ false
    go (inl h) =
        let lower : a.line < b.line = ltb-true _ _ h in
        neither (nat_lt b.line a.line) (b.line == a.line) (nat_lt b.column a.column) (le-ltb _ _ (omega arith)) (λ q. let same : b.line ≡ a.line = eqb-true _ _ q in le-ltb _ _ (omega arith))
    go (inr h) =
        let same : a.line ≡ b.line = eqb-true _ _ h.0 in
        let lower : a.column < b.column = ltb-true _ _ h.1 in
        neither (nat_lt b.line a.line) (b.line == a.line) (nat_lt b.column a.column) (le-ltb _ _ (omega arith)) (λ q. le-ltb _ _ (omega arith))

by_line : (p q r : Bool) → p ≡ true → (p || (q && r)) ≡ true
by_line true q r e = refl
by_line false q r e = absurd cc

pub before_by_line : (a b : Location) → a.line < b.line → stands_before a b ≡ true
before_by_line a b h = by_line (nat_lt a.line b.line) (a.line == b.line) (nat_lt a.column b.column) (lt-ltb _ _ h)

by_column : (p q r : Bool) → q ≡ true → r ≡ true → (p || (q && r)) ≡ true
by_column true true true e f = refl
by_column false true true e f = refl
by_column p false r e f = absurd cc
by_column p true false e f = absurd cc

pub before_by_column : (a b : Location) → a.line ≡ b.line → a.column < b.column → stands_before a b ≡ true
before_by_column a b e h = by_column (nat_lt a.line b.line) (a.line == b.line) (nat_lt a.column b.column) (eq-eqb _ _ e) (lt-ltb _ _ h)

-- ---- places that rise

-- each is before all after it
abbrev pub Rise : List Location → Type 0
Rise [] = Unit {0}
Rise (p ∷ ps) = AllByRecursion (λ (q : Location). stands_before p q ≡ true) ps × Rise ps

pub all_both : {A : Type 0} (P : A → Type 0) (xs ys : List A) → AllByRecursion P xs → AllByRecursion P ys → AllByRecursion P (xs ++ ys)
all_both P [] ys a b = b
all_both P (x ∷ xs) ys a b = (a.0, all_both P xs ys a.1 b)

pub all_weaker : {A : Type 0} (P Q : A → Type 0) → ((x : A) → P x → Q x) → (xs : List A) → AllByRecursion P xs → AllByRecursion Q xs
all_weaker P Q f [] a = tt
all_weaker P Q f (x ∷ xs) a = (f x a.0, all_weaker P Q f xs a.1)

pub rise_both : (ps qs : List Location) → Rise ps → Rise qs → AllByRecursion (λ (p : Location). AllByRecursion (λ (q : Location). stands_before p q ≡ true) qs) ps → Rise (ps ++ qs)
rise_both [] qs a b h = b
rise_both (p ∷ ps) qs a b h = (all_both (λ (q : Location). stands_before p q ≡ true) ps qs a.0 h.0, rise_both ps qs a.1 b h.1)

-- ---- nodes at places

-- the nodes are at places of the list, in its order
abbrev pub StandAt : List Node → List Location → Type 0
StandAt [] ps = Unit {0}
StandAt (x ∷ xs) [] = ⊥
StandAt (x ∷ xs) (p ∷ ps) = ((x.0 ≡ p) × StandAt xs ps) ⊎ StandAt (x ∷ xs) ps

pub stand_after : (xs : List Node) (ps qs : List Location) → StandAt xs qs → StandAt xs (ps ++ qs)
stand_after [] ps qs h = tt
stand_after (x ∷ xs) [] qs h = h
stand_after (x ∷ xs) (p ∷ ps) qs h = inr (stand_after (x ∷ xs) ps qs h)

pub stand_both : (xs ys : List Node) (ps qs : List Location) → StandAt xs ps → StandAt ys qs → StandAt (xs ++ ys) (ps ++ qs)
stand_both [] ys ps qs a b = stand_after ys ps qs b
stand_both (x ∷ xs) ys [] qs a b = absurd a
stand_both (x ∷ xs) ys (p ∷ ps) qs (inl a) b = inl (a.0, stand_both xs ys ps qs a.1 b)
stand_both (x ∷ xs) ys (p ∷ ps) qs (inr a) b = inr (stand_both (x ∷ xs) ys ps qs a b)

-- there are as many places at least
pub stand_length : (xs : List Node) (ps : List Location) → StandAt xs ps → length xs ≤ length ps
stand_length [] ps h = omega arith
stand_length (x ∷ xs) [] h = absurd h
stand_length (x ∷ xs) (p ∷ ps) (inl h) = let r = stand_length xs ps h.1 in omega arith
stand_length (x ∷ xs) (p ∷ ps) (inr h) = let r = stand_length (x ∷ xs) ps h in omega arith

stand_all : (P : Location → Type 0) (xs : List Node) (ps : List Location) → AllByRecursion P ps → StandAt xs ps → AllByRecursion (λ (x : Node). P x.0) xs
stand_all P [] ps a h = tt
stand_all P (x ∷ xs) [] a h = absurd h
stand_all P (x ∷ xs) (p ∷ ps) a (inl h) = (subst P (sym h.0) a.0, stand_all P xs ps a.1 h.1)
stand_all P (x ∷ xs) (p ∷ ps) a (inr h) = stand_all P (x ∷ xs) ps a.1 h

-- nodes at places that rise are in order
pub stand_in_order : (xs : List Node) (ps : List Location) → Rise ps → StandAt xs ps → InOrder xs
stand_in_order [] ps r h = tt
stand_in_order (x ∷ xs) [] r h = absurd h
stand_in_order (x ∷ xs) (p ∷ ps) r (inl h) = (
  not_before_itself x.0,
  all_weaker (λ (y : Node). stands_before p y.0 ≡ true) (λ (y : Node). (stands_before x.0 y.0 ≡ true) × (stands_before y.0 x.0 ≡ false))
      (λ y e. let f : stands_before x.0 y.0 ≡ true = ap (λ (z : Location). stands_before z y.0) h.0 ∙ e in (f, not_both_before x.0 y.0 f)) xs (stand_all (λ (q : Location). stands_before p q ≡ true) xs ps r.0 h.1),
  stand_in_order xs ps r.1 h.1,
)
stand_in_order (x ∷ xs) (p ∷ ps) r (inr h) = stand_in_order (x ∷ xs) ps r.1 h
