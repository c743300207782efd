-- At most one element of a list that passes a test, and the one row that a change is about.
use Rattle.std.proofs.Common.{◌≡◌, suc, ◌≤◌, refl, sym, ap, ◌∙◌, List, [], ◌∷◌, ◌++◌, Some, true, false, Bool, map, length, arith}
use Rattle.std.specs.Prelude.{find}
use Rattle.std.specs.List.{list_any, filter}
use Rattle.std.specs.Option.{option_map_or}
use Rattle.std.specs.Str.{bytes_eq}
use Rattle.std.proofs.lemmas.List.Sums.{length-filter}
use Rattle.cm_stream.specs.Texts.{Utf8}
use Rattle.cm_attempt.specs.Table.{change_first}
use Rattle.cm_stream.specs.References.{Case, PickleNamed, times_declared, declares_it, as_case, as_pickle, cases, pickles}
use Rattle.cm_envelope.specs.declared.envelope.Envelope.{Envelope}
use Rattle.cm_stream.proofs.Lists.{or_false, any_here}
use Rattle.cm_stream.proofs.Declared.{declares_case, declares_pickle}
use Rattle.cm_stream.proofs.Passing.{AllPass}
use Rattle.cm_stream.proofs.Distinct.{all_distinct, at_most_once}
use Rattle.cm_stream.proofs.Sourced.{kept_count, same_kept}

-- at most one element passes
abbrev pub OnlyOne : {X : Type 0} → (X → Bool) → List X → Type 0
OnlyOne q [] = Unit {0}
OnlyOne q (x ∷ xs) = (q x ≡ true → list_any q xs ≡ false) × OnlyOne q xs

pub only_one : {X : Type 0} (q : X → Bool) (xs : List X) → length (filter q xs) ≤ 1 → OnlyOne q xs
only_one q [] few = tt
only_one {X} q (x ∷ xs) few = (λ e. none xs (short e), only_one q xs (rest (q x) refl))
  where
    none : (ys : List X) → length (filter q ys) ≡ 0 → list_any q ys ≡ false
    none [] k = refl
    none (y ∷ ys) k = go (q y) refl (none ys)
      where
        go : (b : Bool) → q y ≡ b → (length (filter q ys) ≡ 0 → list_any q ys ≡ false) → list_any q (y ∷ ys) ≡ false
        go true e rec = let long : length (filter q (y ∷ ys)) ≡ suc (length (filter q ys)) = rw e refl in absurd (omega (arith, long, k))
        go false e rec = let same : length (filter q (y ∷ ys)) ≡ length (filter q ys) = rw e refl in rw e (rec (sym same ∙ k))

    short : q x ≡ true → length (filter q xs) ≡ 0
    short e = let long : length (filter q (x ∷ xs)) ≡ suc (length (filter q xs)) = rw e refl in omega (arith, long, few)

    rest : (b : Bool) → q x ≡ b → length (filter q xs) ≤ 1
    rest true e = let long : length (filter q (x ∷ xs)) ≡ suc (length (filter q xs)) = rw e refl in omega (arith, long, few)
    rest false e = let same : length (filter q (x ∷ xs)) ≡ length (filter q xs) = rw e refl in omega (arith, same, few)

pub unchanged : {X Y : Type 0} (q : X → Bool) (g h : X → Y) → ((x : X) → q x ≡ false → h x ≡ g x) → (xs : List X) → list_any q xs ≡ false → map g xs ≡ map h xs
unchanged q g h other [] none = refl
unchanged q g h other (x ∷ xs) none = let k = or_false (q x) (list_any q xs) none in λ i. sym (other x k.0) i ∷ unchanged q g h other xs k.1 i

pub change_one : {X Y : Type 0} (p : Y → Bool) (f : Y → Y) (q : X → Bool) (g h : X → Y) → ((x : X) → p (g x) ≡ q x) → ((x : X) → q x ≡ true → h x ≡ f (g x)) → ((x : X) → q x ≡ false → h x ≡ g x)
    → (xs : List X) → OnlyOne q xs → change_first p f (map g xs) ≡ map h xs
change_one p f q g h test hit other [] one = refl
change_one {X} {Y} p f q g h test hit other (x ∷ xs) one = go (q x) refl (change_one p f q g h test hit other xs one.1)
  where
    go : (b : Bool) → q x ≡ b → change_first p f (map g xs) ≡ map h xs → change_first p f (map g (x ∷ xs)) ≡ map h (x ∷ xs)
    go true e rec = rw (test x, e) (λ i. sym (hit x e) i ∷ unchanged q g h other xs (one.0 e) i)
    go false e rec = rw (test x, e) (λ i. sym (other x e) i ∷ rec i)

pub one_pickle : (es : List Envelope) → AllPass es → (id : Utf8) → OnlyOne (λ p. bytes_eq id p.id) (pickles es)
one_pickle es pass id =
    let counted : length (filter (λ p. bytes_eq id p.id) (pickles es)) ≡ times_declared (PickleNamed id) es =
    kept_count as_pickle (λ p. bytes_eq id p.id) es ∙ ap length (sym (same_kept (declares_it (PickleNamed id)) (λ x. option_map_or (λ p. bytes_eq id p.id) (as_pickle x) false) (declares_pickle id) es)) ∙ length-filter (declares_it (PickleNamed id)) es in
    only_one (λ p. bytes_eq id p.id) (pickles es) (omega (arith, counted, at_most_once (PickleNamed id) es (all_distinct es pass)))

pub one_case : (es : List Envelope) → AllPass es → (a : Utf8) → OnlyOne (λ c. bytes_eq a c.id) (cases es)
one_case es pass a =
    let counted : length (filter (λ c. bytes_eq a c.id) (cases es)) ≡ times_declared (Case a) es =
    kept_count as_case (λ c. bytes_eq a c.id) es ∙ ap length (sym (same_kept (declares_it (Case a)) (λ x. option_map_or (λ c. bytes_eq a c.id) (as_case x) false) (declares_case a) es)) ∙ length-filter (declares_it (Case a)) es in
    only_one (λ c. bytes_eq a c.id) (cases es) (omega (arith, counted, at_most_once (Case a) es (all_distinct es pass)))

-- an element that passes is the one that is found
pub only_here : {X : Type 0} (q : X → Bool) (front : List X) (x : X) (back : List X) → OnlyOne q (front ++ x ∷ back) → q x ≡ true → find q (front ++ x ∷ back) ≡ Some x
only_here q [] x back one e = rw e refl
only_here {X} q (y ∷ front) x back one e = go (q y) refl (only_here q front x back one.1 e)
  where
    go : (b : Bool) → q y ≡ b → find q (front ++ x ∷ back) ≡ Some x → find q (y ∷ front ++ x ∷ back) ≡ Some x
    go true k rec = let no_way = any_here q front x back (one.0 k) in cc
    go false k rec = rw k rec
