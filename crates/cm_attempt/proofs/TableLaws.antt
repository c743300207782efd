-- What the changes of a table do to the number of open attempts.
use Rattle.std.proofs.Common.{◌≡◌, ap, refl, ℕ, ◌+◌, Bool, true, false, cond, List, [], ◌∷◌, Option, None, Some, arith, Result, Err, MatchOption, IsOk, is_ok}
use Rattle.std.specs.Prelude.{count_by, find, fold, is_some, option_map, unwrap_or}
use Rattle.cm_attempt.specs.Table.{AttemptRow, Table, change_first, ended_attempt, finish_fault_at}
use Rattle.cm_attempt.specs.declared.track.Cursor.{Cursor}
use Rattle.cm_attempt.specs.declared.fault.TrackFault.{TrackFault}
use Rattle.cm_attempt.specs.declared.fault.TrackFault.TheVariants as fault

abbrev pub is_open : AttemptRow → Bool
is_open a = is_some a.cursor

count_from : (p : AttemptRow → Bool) (n : ℕ) (xs : List AttemptRow) → fold (λ k x. k + cond (p x) 1 0) n xs ≡ n + count_by p xs
count_from p n [] = omega arith
count_from p n (x ∷ xs) =
    let one = count_from p (n + cond (p x) 1 0) xs in
    let two = count_from p (0 + cond (p x) 1 0) xs in
    omega (arith, one, two)

-- the count, from the front
count_cons : (p : AttemptRow → Bool) (x : AttemptRow) (xs : List AttemptRow) → count_by p (x ∷ xs) ≡ cond (p x) 1 0 + count_by p xs
count_cons p x xs = let one = count_from p (0 + cond (p x) 1 0) xs in omega (arith, one)

-- a change that keeps the test keeps the count
pub count_kept : (p q : AttemptRow → Bool) (f : AttemptRow → AttemptRow) → ((a : AttemptRow) → q (f a) ≡ q a) → (xs : List AttemptRow)
    → count_by q (change_first p f xs) ≡ count_by q xs
count_kept p q f same [] = refl
count_kept p q f same (x ∷ xs) = go (p x) refl (count_kept p q f same xs)
  where
    go : (b : Bool) → p x ≡ b → count_by q (change_first p f xs) ≡ count_by q xs → count_by q (change_first p f (x ∷ xs)) ≡ count_by q (x ∷ xs)
    go true e rec = rw (e, count_cons q (f x) xs, count_cons q x xs, same x) refl
    go false e rec = rw (e, count_cons q x (change_first p f xs), count_cons q x xs, rec) refl

-- a change of the cursor that is there leaves the attempt open
pub open_kept : (f : Cursor → Cursor) (cursor : Option Cursor) → is_some (option_map f cursor) ≡ is_some cursor
open_kept f None = refl
open_kept f (Some c) = refl

-- the end of an open attempt takes one from the count
pub count_ended : (p : AttemptRow → Bool) (a : AttemptRow) (xs : List AttemptRow) → find p xs ≡ Some a → is_open a ≡ true
    → count_by is_open (change_first p ended_attempt xs) + 1 ≡ count_by is_open xs
count_ended p a [] h live = cc
count_ended p a (x ∷ xs) h live = go (p x) refl (λ r. count_ended p a xs r live)
  where
    go : (b : Bool) → p x ≡ b → (find p xs ≡ Some a → count_by is_open (change_first p ended_attempt xs) + 1 ≡ count_by is_open xs)
        → count_by is_open (change_first p ended_attempt (x ∷ xs)) + 1 ≡ count_by is_open (x ∷ xs)
    go true e rec =
        let here : Some x ≡ Some a = rw e at h in
        let same : x ≡ a = ap (λ o. unwrap_or o a) here in
        let was : is_open x ≡ true = rw same live in
        rw (e, count_cons is_open (ended_attempt x) xs, count_cons is_open x xs, was) (omega arith)
    go false e rec =
        let rest : find p xs ≡ Some a = rw e at h in
        let one = rec rest in
        rw (e, count_cons is_open x (change_first p ended_attempt xs), count_cons is_open x xs) (omega (arith, one))

-- an attempt that may end is open
pub open_before_end : {X : Type 0} (t : Table) (a : AttemptRow) (r : Result X TrackFault)
    → MatchOption (finish_fault_at t (Some a)) (IsOk r) (λ f. r ≡ Err f) → IsOk r → is_open a ≡ true
open_before_end t a r h ok = go a.cursor refl
  where
    go : (o : Option Cursor) → a.cursor ≡ o → is_some a.cursor ≡ true
    go (Some c) k = rw k refl
    go None k =
        let bad : r ≡ Err fault.StepOrder = rw k at h in
        let yes : is_ok r ≡ true = ok in
        let no : is_ok r ≡ false = rw bad refl in
        cc
