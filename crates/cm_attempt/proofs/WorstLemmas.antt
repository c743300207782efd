-- The worst of a list is one of its statuses, and none comes after it.
use Rattle.std.proofs.Common.{◌≡◌, refl, ap, ◌∙◌, ℕ, ◌<◌, ◌≤◌, suc, zero, Bool, true, false, ◌&&◌, if◌then◌else◌, List, [], ◌∷◌, Some, All, Contains, length, slice_index_or, nat_lt, arith}
use Rattle.std.specs.Prelude.{fold, unwrap_or}
use Rattle.std.specs.List.{list_all}
use Rattle.std.proofs.lemmas.Bool.Decides.{nat_tests}
use Rattle.std.proofs.lemmas.Bool.{and_parts}
use Rattle.std.proofs.lemmas.List.Elements.{All-cons, All-nil}
use Rattle.cm_attempt.specs.Worst.{rank, with_status, worst_of}
use Rattle.cm_attempt.specs.Table.{is_good_status}
use Rattle.cm_attempt.specs.declared.status.Policy.{Policy}
use Rattle.cm_attempt.specs.declared.status.Policy.TheVariants.{Strict, PendingPasses}
use Rattle.cm_attempt.specs.declared.status.Status.{Status}
use Rattle.cm_attempt.specs.declared.status.Status.TheVariants.{Unknown, Passed, Skipped, Pending, Undefined, Ambiguous, Failed}

-- the worst of a status and those after it
record WorstFrom (s : Status) (ss : List Status) : Type 0 where
  top : Status
  found : fold with_status (Some s) ss ≡ Some top
  above : rank s ≤ rank top
  bound : All (λ x. rank x ≤ rank top) ss
  member : Contains (s ∷ ss) top

later_member : (s : Status) (ss : List Status) (x : Status) → Contains ss x → Contains (s ∷ ss) x
later_member s ss x h = (suc h.0, let lt = h.1 in omega (arith, lt), h.2)

-- one more status after the first leaves a member
wider_member : (s t : Status) (ss : List Status) (x : Status) (k : ℕ) → k < length (s ∷ ss) → slice_index_or (s ∷ ss) k x ≡ x
    → Contains (s ∷ t ∷ ss) x
wider_member s t ss x zero lt e = (0, omega arith, e)
wider_member s t ss x (suc k) lt e = (suc (suc k), omega (arith, lt), e)

worst_from : (s : Status) (ss : List Status) → WorstFrom s ss
worst_from s [] = record {
  top = s;
  found = refl;
  above = omega arith;
  bound = All-nil (λ x. rank x ≤ rank s);
  member = (0, omega arith, refl);
}
worst_from s (t ∷ ss) = by (nat_lt (rank s) (rank t)) refl (worst_from t ss) (worst_from s ss)
  where
    by : (b : Bool) → nat_lt (rank s) (rank t) ≡ b → WorstFrom t ss → WorstFrom s ss → WorstFrom s (t ∷ ss)
    by true e later same =
        let less : rank s < rank t = grind (arith, nat_tests) in
        let over = later.above in
        record {
          top = later.top;
          found = rw e later.found;
          above = omega (arith, less, over);
          bound = All-cons (λ x. rank x ≤ rank later.top) t ss over later.bound;
          member = later_member s (t ∷ ss) later.top later.member;
        }
    by false e later same =
        let less : rank t ≤ rank s = grind (arith, nat_tests) in
        let over = same.above in
        record {
          top = same.top;
          found = rw e same.found;
          above = over;
          bound = All-cons (λ x. rank x ≤ rank same.top) t ss (omega (arith, less, over)) same.bound;
          member = wider_member s t ss same.top same.member.0 same.member.1 same.member.2;
        }

pub worst_member : (ss : List Status) → 0 < length ss → Contains ss (worst_of ss)
worst_member [] h = absurd (omega (arith, h))
worst_member (s ∷ ss) h = let w = worst_from s ss in rw (w.found) w.member

pub worst_bound : (ss : List Status) → All (λ s. rank s ≤ rank (worst_of ss)) ss
worst_bound [] = All-nil _
worst_bound (s ∷ ss) =
    let w = worst_from s ss in
    rw (w.found) (All-cons (λ x. rank x ≤ rank w.top) s ss w.above w.bound)

-- ---- the worst of known statuses is good where each of them is

abbrev pub is_known : Status → Bool
is_known Unknown = false
is_known _ = true

-- the place in the order of the first known status that isn't good
abbrev first_bad : Policy → ℕ
first_bad Strict = 3
first_bad PendingPasses = 4

good_by_rank : (policy : Policy) (s : Status) → is_known s ≡ true → is_good_status policy s ≡ nat_lt (rank s) (first_bad policy)
good_by_rank policy Unknown h = cc
good_by_rank Strict Passed h = refl
good_by_rank Strict Skipped h = refl
good_by_rank Strict Pending h = refl
good_by_rank Strict Undefined h = refl
good_by_rank Strict Ambiguous h = refl
good_by_rank Strict Failed h = refl
good_by_rank PendingPasses Passed h = refl
good_by_rank PendingPasses Skipped h = refl
good_by_rank PendingPasses Pending h = refl
good_by_rank PendingPasses Undefined h = refl
good_by_rank PendingPasses Ambiguous h = refl
good_by_rank PendingPasses Failed h = refl

less_later : (a b n : ℕ) → nat_lt a b ≡ true → nat_lt b n ≡ (nat_lt a n && nat_lt b n)
less_later a b n less = go (nat_lt a n) refl (nat_lt b n) refl
  where
    go : (x : Bool) → nat_lt a n ≡ x → (y : Bool) → nat_lt b n ≡ y → nat_lt b n ≡ (nat_lt a n && nat_lt b n)
    go true e y k = rw e refl
    go false e false k = rw (e, k) refl
    go false e true k = let yes_too : nat_lt a n ≡ true = grind (arith, nat_tests, less, k) in cc

not_less_later : (a b n : ℕ) → nat_lt a b ≡ false → nat_lt a n ≡ (nat_lt a n && nat_lt b n)
not_less_later a b n less = go (nat_lt a n) refl (nat_lt b n) refl
  where
    go : (x : Bool) → nat_lt a n ≡ x → (y : Bool) → nat_lt b n ≡ y → nat_lt a n ≡ (nat_lt a n && nat_lt b n)
    go false e y k = rw e refl
    go true e true k = rw (e, k) refl
    go true e false k = let yes_too : nat_lt a b ≡ true = grind (arith, nat_tests, e, k) in cc

abbrev later : Status → Status → Status
later w s = if nat_lt (rank w) (rank s) then s else w

good_later : (policy : Policy) (w s : Status) → is_known w ≡ true → is_known s ≡ true → is_good_status policy (later w s) ≡ (is_good_status policy w && is_good_status policy s)
good_later policy w s h k = go (nat_lt (rank w) (rank s)) refl
  where
    go : (b : Bool) → nat_lt (rank w) (rank s) ≡ b → is_good_status policy (later w s) ≡ (is_good_status policy w && is_good_status policy s)
    go true e = rw (e, good_by_rank policy w h, good_by_rank policy s k) (less_later (rank w) (rank s) (first_bad policy) e)
    go false e = rw (e, good_by_rank policy w h, good_by_rank policy s k) (not_less_later (rank w) (rank s) (first_bad policy) e)

known_later : (w s : Status) → is_known w ≡ true → is_known s ≡ true → is_known (later w s) ≡ true
known_later w s h k = go (nat_lt (rank w) (rank s)) refl
  where
    go : (b : Bool) → nat_lt (rank w) (rank s) ≡ b → is_known (later w s) ≡ true
    go true e = rw e k
    go false e = rw e h

and_yes : (b : Bool) → b ≡ (b && true)
and_yes true = refl
and_yes false = refl

and_both : (a b c : Bool) → ((a && b) && c) ≡ (a && (b && c))
and_both true b c = refl
and_both false b c = refl

good_from : (policy : Policy) (w : Status) (ss : List Status) → is_known w ≡ true → list_all is_known ss ≡ true
    → is_good_status policy (unwrap_or (fold with_status (Some w) ss) Passed) ≡ (is_good_status policy w && list_all (is_good_status policy) ss)
good_from policy w [] h all = and_yes (is_good_status policy w)
good_from policy w (s ∷ ss) h all =
    let k = and_parts (is_known s) (list_all is_known ss) all in
    good_from policy (later w s) ss (known_later w s h k.0) k.1
    ∙ ap (λ b. b && list_all (is_good_status policy) ss) (good_later policy w s h k.0)
    ∙ and_both (is_good_status policy w) (is_good_status policy s) (list_all (is_good_status policy) ss)

pub good_worst : (policy : Policy) (ss : List Status) → list_all is_known ss ≡ true → is_good_status policy (worst_of ss) ≡ list_all (is_good_status policy) ss
good_worst policy [] h = refl
good_worst policy (s ∷ ss) h = let k = and_parts (is_known s) (list_all is_known ss) h in good_from policy s ss k.0 k.1
