-- What maps find is what is found in what is kept.
use Rattle.std.proofs.Common.{◌≡◌, ◌∙◌, ap, sym, refl, ℕ, ◌+◌, ◌<◌, Bool, true, false, cond, List, [], ◌∷◌, ◌++◌, ◌&&◌, ◌||◌, take, get_or, length, map, not, Option, None, Some, Bor, Result, Ok, Err, arith, add-zero, append-nil, ⊎_elim, zero, suc, ◌==◌}
use Rattle.std.specs.Prelude.{IfOk, count_by, find, if◌then◌else◌, is_some, nat_lt, option_map}
use Rattle.std.specs.List.{filter, flat_map, list_any}
use Rattle.std.specs.Option.{option_and_then, option_map_or}
use Rattle.std.specs.Str.{bytes_eq}
use Rattle.std.proofs.lemmas.Bool.{cases_Bool}
use Rattle.std.proofs.lemmas.Bool.Decides.{nat_tests}
use Rattle.std.proofs.lemmas.List.{map-append, take_more}
use Rattle.std.proofs.lemmas.List.Elements.{filter-append}
use Rattle.std.proofs.lemmas.List.Folds.{list_any-append}
use Rattle.std.proofs.lemmas.List.Sums.{sum_by_more}
use Rattle.std.proofs.lemmas.Slice.Eq.{bytes_eq-Decides}
use Rattle.indexmap.specs.IndexMap.{IndexMap}
use Rattle.indexmap.specs.IndexSet.{insert_key}
use Rattle.cm_attempt.specs.Calls.{last_of}
use Rattle.cm_attempt.specs.declared.status.Policy.{Policy}
use Rattle.cm_cases.specs.Firsts.{HasFirsts, value_at}
use Rattle.cm_cases.proofs.FirstLemmas.{has_any}
use Rattle.cm_reasons.specs.Reasons.{StepIds}
use Rattle.cm_reasons.specs.declared.reasons.CaseStep.{CaseStep}
use Rattle.cm_stream.specs.Release.{Conditions}
use Rattle.cm_stream.specs.Texts.{Utf8}
use Rattle.cm_stream.proofs.Declared.{same_any}
use Rattle.cm_stream.proofs.Found.{eq_back}
use Rattle.cm_stream.proofs.Lists.{and_true, keeps_none, or_no}
use Rattle.cm_stream.proofs.Steps.{never}
use Rattle.cm_release.specs.Counts.{attempts_in, case_in, case_of_attempt, has_skip_in, has_step, is_attempt_in, is_end_by, is_end_in, is_missed_in, is_retried_in, is_stepless_in, is_undefined_by, is_undefined_in, last_start, may_stay, missed_in, passes_in, passes_undefined_in, retried_in, skipped_in, some_or_more, stepless_in, steps_passing, texts_of, undefined_steps_in}
use Rattle.cm_release.specs.declared.tally.CaseEntry.{CaseEntry}
use Rattle.cm_release.specs.declared.tally.FinishEntry.{FinishEntry}
use Rattle.cm_release.specs.declared.tally.Kept.{Kept}
use Rattle.cm_release.specs.declared.tally.PickleEntry.{PickleEntry}
use Rattle.cm_release.specs.declared.tally.StartEntry.{StartEntry}

-- ---- tests of lists

any_none : {X : Type 0} (xs : List X) → list_any (λ x. false) xs ≡ false
any_none [] = refl
any_none (x ∷ xs) = any_none xs

pub same_count : {X : Type 0} (p q : X → Bool) → ((x : X) → p x ≡ q x) → (xs : List X) → count_by p xs ≡ count_by q xs
same_count p q h xs = λ j. count_by (λ x. h x j) xs

or_turned : (a b c d : Bool) → ((a || c) || (b || d)) ≡ ((a || b) || (c || d))
or_turned true b c d = refl
or_turned false b true d = ⊎_elim (λ yes. rw yes refl) (λ no. rw no refl) (cases_Bool b)
or_turned false b false d = refl

any_or : {X : Type 0} (p q : X → Bool) (xs : List X) → (list_any p xs || list_any q xs) ≡ list_any (λ x. p x || q x) xs
any_or p q [] = refl
any_or p q (x ∷ xs) = or_turned (p x) (q x) (list_any p xs) (list_any q xs) ∙ ap (λ b. (p x || q x) || b) (any_or p q xs)

any_swap : {X Y : Type 0} (r : X → Y → Bool) (xs : List X) (ys : List Y) → list_any (λ x. list_any (r x) ys) xs ≡ list_any (λ y. list_any (λ x. r x y) xs) ys
any_swap r [] ys = sym (any_none ys)
any_swap r (x ∷ xs) ys = ap (λ b. list_any (r x) ys || b) (any_swap r xs ys) ∙ any_or (r x) (λ y. list_any (λ z. r z y) xs) ys

pub any_map : {X Y : Type 0} (p : Y → Bool) (f : X → Y) (xs : List X) → list_any p (map f xs) ≡ list_any (λ x. p (f x)) xs
any_map p f [] = refl
any_map p f (x ∷ xs) = ap (λ b. p (f x) || b) (any_map p f xs)

none_of : {X : Type 0} (p : X → Bool) → ((x : X) → p x ≡ false) → (xs : List X) → filter p xs ≡ []
none_of p h xs = keeps_none p xs (same_any p (λ x. false) h xs ∙ any_none xs)

-- ---- results

pub if_ok : {A E : Type 0} (P Q : A → Type 0) (r : Result A E) → IfOk r P → ((a : A) → P a → Q a) → IfOk r Q
if_ok P Q (Ok a) p f = f a p
if_ok P Q (Err e) p f = p

-- ---- what passes a test

pub same_picked : {X Y : Type 0} (f : X → Y) (p q : X → Bool) → ((x : X) → p x ≡ q x) → (xs : List X) → map f (filter p xs) ≡ map f (filter q xs)
same_picked f p q h xs = λ j. map f (filter (λ x. h x j) xs)

-- one more
picked_more : {X Y : Type 0} (f : X → Y) (p : X → Bool) (xs : List X) (i : ℕ) (x : X) → i < length xs → x ≡ get_or xs i x
    → map f (filter p (take (i + 1) xs)) ≡ map f (filter p (take i xs)) ++ map f (filter p (x ∷ []))
picked_more f p xs i x lt at =
    ap (λ l. map f (filter p l)) (take_more xs i x lt ∙ ap (λ y. take i xs ++ y ∷ []) (sym at))
    ∙ ap (map f) (filter-append p (take i xs) (x ∷ []))
    ∙ map-append f (filter p (take i xs)) (filter p (x ∷ []))

pub picked_in : {X : Type 0} (f : X → Utf8) (p : X → Bool) (xs : List X) (i : ℕ) (x : X) (b : Bor Utf8) (old new : List (Bor Utf8)) → i < length xs → x ≡ get_or xs i x
    → p x ≡ true → b.now ≡ f x → new ≡ old ++ b ∷ [] → texts_of old ≡ map f (filter p (take i xs)) → texts_of new ≡ map f (filter p (take (i + 1) xs))
picked_in f p xs i x b old new lt at passes same pushed before =
    ap texts_of pushed ∙ map-append (λ t. t.now) old (b ∷ []) ∙ (λ j. before j ++ same j ∷ [])
    ∙ ap (λ l. map f (filter p (take i xs)) ++ l) (let one : f x ∷ [] ≡ map f (filter p (x ∷ [])) = rw passes refl in one)
    ∙ sym (picked_more f p xs i x lt at)

pub picked_out : {X : Type 0} (f : X → Utf8) (p : X → Bool) (xs : List X) (i : ℕ) (x : X) (old : List Utf8) → i < length xs → x ≡ get_or xs i x
    → p x ≡ false → old ≡ map f (filter p (take i xs)) → old ≡ map f (filter p (take (i + 1) xs))
picked_out f p xs i x old lt at fails before =
    before ∙ sym (append-nil (map f (filter p (take i xs))))
    ∙ ap (λ l. map f (filter p (take i xs)) ++ l) (let none : [] ≡ map f (filter p (x ∷ [])) = rw fails refl in none)
    ∙ sym (picked_more f p xs i x lt at)

-- ---- options

same_option : {X : Type 0} (o : Option X) → option_map (λ x. x) o ≡ o
same_option None = refl
same_option (Some x) = refl

pub or_of_map : {X Y Z : Type 0} (g : Y → Z) (f : X → Y) (o : Option X) (d : Z) → option_map_or (λ x. g (f x)) o d ≡ option_map_or g (option_map f o) d
or_of_map g f None d = refl
or_of_map g f (Some x) d = refl

then_of_map : {X Y Z : Type 0} (g : Y → Option Z) (f : X → Y) (o : Option X) → option_and_then (λ x. g (f x)) o ≡ option_and_then g (option_map f o)
then_of_map g f None = refl
then_of_map g f (Some x) = refl

map_of_then : {X Y Z : Type 0} (g : Y → Z) (f : X → Option Y) (o : Option X) → option_and_then (λ x. option_map g (f x)) o ≡ option_map g (option_and_then f o)
map_of_then g f None = refl
map_of_then g f (Some x) = refl

then_same : {X Y : Type 0} (f g : X → Option Y) → ((x : X) → f x ≡ g x) → (o : Option X) → option_and_then f o ≡ option_and_then g o
then_same f g h None = refl
then_same f g h (Some x) = h x

-- ---- missed

-- of a part, or where any may be without a case
not_missed : (is_part allows named may : Bool) → (is_part || allows) ≡ true → (not is_part && not named && not (allows || may)) ≡ false
not_missed true allows named may e = refl
not_missed false true named may e = never (not named)
not_missed false false named may e = cc

pub none_missed : (asked : Conditions) (kept : Kept) → (asked.is_part || asked.allows_unrun) ≡ true → [] ≡ missed_in asked kept
none_missed asked kept e =
    sym (ap (map (λ p. p.id)) (none_of (is_missed_in asked kept)
    (λ p. not_missed asked.is_part asked.allows_unrun (list_any (λ c. bytes_eq p.id c.pickle_id) kept.cases) (list_any (λ tag. list_any (bytes_eq tag) p.tags) asked.allowed_tags) e) kept.pickles))

tags_allowed : (tags : List (Bor Utf8)) (names : List Utf8) → list_any (λ t. list_any (λ (x : Bor Utf8). bytes_eq t x.now) tags) names ≡ list_any (λ tag. list_any (bytes_eq tag) names) (map (λ t. t.now) tags)
tags_allowed tags names =
    any_swap (λ t (x : Bor Utf8). bytes_eq t x.now) names tags
    ∙ same_any (λ (x : Bor Utf8). list_any (λ t. bytes_eq t x.now) names) (λ (x : Bor Utf8). list_any (bytes_eq x.now) names) (λ x. same_any (λ t. bytes_eq t x.now) (bytes_eq x.now) (λ t. eq_back t x.now) names) tags
    ∙ sym (any_map (λ tag. list_any (bytes_eq tag) names) (λ (t : Bor Utf8). t.now) tags)

module _ {S T : Type 0} where
  pub missed_found : (ids : List Utf8) (asked : Conditions) (kept : Kept) (tags : List (Bor Utf8)) (cs : List CaseEntry) (ps : List PickleEntry) (named : IndexMap (Bor Utf8) (Bor CaseEntry) S) (allowed : IndexMap (Bor Utf8) (Bor (Bor Utf8)) T)
      → asked.is_part ≡ false → asked.allows_unrun ≡ false → asked.allowed_tags ≡ map (λ t. t.now) tags → cs ≡ kept.cases → ps ≡ kept.pickles
      → HasFirsts (λ x. x.now) (λ x. x) (λ c. c.pickle_id) cs named
      → HasFirsts (λ x. x.now) (λ x. x) (λ t. t.now) tags allowed
      → ids ≡ map (λ p. p.id) (filter (λ p. not (is_some (value_at named p.id)) && not (list_any (λ t. is_some (value_at allowed t)) p.tags)) ps)
      → ids ≡ missed_in asked kept
  missed_found ids asked kept tags cs ps named allowed whole no_unrun are same_cases same_pickles h k found =
      found ∙ same_picked (λ p. p.id) (λ p. not (is_some (value_at named p.id)) && not (list_any (λ t. is_some (value_at allowed t)) p.tags)) (is_missed_in asked kept)
      (λ p.
      let name : is_some (value_at named p.id) ≡ list_any (λ c. bytes_eq p.id c.pickle_id) kept.cases =
      has_any (λ x. x.now) (λ x. x) (λ (c : CaseEntry). c.pickle_id) cs named p.id h ∙ ap (list_any (λ c. bytes_eq p.id c.pickle_id)) same_cases in
      let tag : list_any (λ t. is_some (value_at allowed t)) p.tags ≡ list_any (λ tag. list_any (bytes_eq tag) p.tags) asked.allowed_tags =
      same_any (λ t. is_some (value_at allowed t)) (λ t. list_any (λ (x : Bor Utf8). bytes_eq t x.now) tags) (λ t. has_any (λ x. x.now) (λ x. x) (λ (x : Bor Utf8). x.now) tags allowed t k) p.tags
      ∙ tags_allowed tags p.tags ∙ ap (list_any (λ tag. list_any (bytes_eq tag) p.tags)) (sym are) in
      let may : list_any (λ tag. list_any (bytes_eq tag) p.tags) asked.allowed_tags ≡ may_stay asked p = ap (λ b. b || list_any (λ tag. list_any (bytes_eq tag) p.tags) asked.allowed_tags) (sym no_unrun) in
      (λ j. not (sym whole j) && not (name j) && not ((tag ∙ may) j)))
      ps ∙ ap (λ l. map (λ p. p.id) (filter (is_missed_in asked kept) l)) same_pickles

-- ---- retried

again_if : (b v w : Bool) (o : Option Bool) → (b ≡ true → v ≡ w) → cond b (Some v) o ≡ (if b then Some w else o)
again_if true v w o h = ap Some (h refl)
again_if false v w o h = refl

module _ {S : Type 0} where
  -- a text that is noted has been noted before, or is there now
  pub again_noted : (old new : IndexMap (Bor Utf8) Bool S) (text : Utf8) (v : Bool) → v ≡ is_some (value_at old text)
      → ((q : Bor Utf8) → value_at new q.now ≡ cond (bytes_eq text q.now) (Some v) (value_at old q.now))
      → (other : Utf8) → value_at new other ≡ (if bytes_eq other text then Some (is_some (value_at old other)) else value_at old other)
  again_noted old new text v is all other =
      let q : Bor Utf8 = record { ref_ptr = (0, 0); now = other } in
      all q ∙ ap (λ b. cond b (Some v) (value_at old other)) (eq_back text other)
      ∙ again_if (bytes_eq other text) v (is_some (value_at old other)) (value_at old other) (λ yes. is ∙ ap (λ (t : Utf8). is_some (value_at old t)) (sym ((bytes_eq-Decides other text).0 yes)))

pub one_attempt_more : (b : Bool) (n : ℕ) (o : Option Bool) → o ≡ some_or_more n → (if b then Some (is_some o) else o) ≡ some_or_more (n + cond b 1 0)
one_attempt_more true zero o e = rw e refl
one_attempt_more true (suc n) o e =
    let no : (suc n == 0) ≡ false = grind (arith, nat_tests) in
    let no_more : (suc n + 1 == 0) ≡ false = grind (arith, nat_tests) in
    let more : nat_lt 1 (suc n + 1) ≡ true = grind (arith, nat_tests) in
    rw e (rw (no, no_more, more) refl)
one_attempt_more false n o e = e ∙ ap some_or_more (sym (add-zero n))

count_more : {X : Type 0} (p : X → Bool) (xs : List X) (i : ℕ) (x : X) → i < length xs → x ≡ get_or xs i x → count_by p (take (i + 1) xs) ≡ count_by p (take i xs) + cond (p x) 1 0
count_more p xs i x lt at = sum_by_more (λ y. cond (p y) 1 0) xs i x lt ∙ ap (λ y. count_by p (take i xs) + cond (p y) 1 0) (sym at)

module _ {S : Type 0} where
  -- an attempt at a case that is there
  pub attempt_noted : (cases : List CaseEntry) (starts : List StartEntry) (i : ℕ) (s : StartEntry) (c : CaseEntry) (text : Utf8) (old new : IndexMap (Bor Utf8) Bool S)
      → i < length starts → s ≡ get_or starts i s → Some c ≡ case_in cases s.case_id → text ≡ c.pickle_id
      → ((p : Utf8) → value_at old p ≡ some_or_more (attempts_in cases p (take i starts)))
      → ((p : Utf8) → value_at new p ≡ (if bytes_eq p text then Some (is_some (value_at old p)) else value_at old p))
      → (p : Utf8) → value_at new p ≡ some_or_more (attempts_in cases p (take (i + 1) starts))
  attempt_noted cases starts i s c text old new lt at found same before after p =
      let is : is_attempt_in cases p s ≡ bytes_eq p text = ap (λ o. option_map_or (λ c. bytes_eq p c.pickle_id) o false) (sym found) ∙ ap (bytes_eq p) (sym same) in
      after p ∙ one_attempt_more (bytes_eq p text) (attempts_in cases p (take i starts)) (value_at old p) (before p)
      ∙ ap (λ b. some_or_more (attempts_in cases p (take i starts) + cond b 1 0)) (sym is)
      ∙ ap some_or_more (sym (count_more (is_attempt_in cases p) starts i s lt at))

  -- an attempt at a case that isn't
  pub attempt_passed : (cases : List CaseEntry) (starts : List StartEntry) (i : ℕ) (s : StartEntry) (old : IndexMap (Bor Utf8) Bool S)
      → i < length starts → s ≡ get_or starts i s → None ≡ case_in cases s.case_id
      → ((p : Utf8) → value_at old p ≡ some_or_more (attempts_in cases p (take i starts)))
      → (p : Utf8) → value_at old p ≡ some_or_more (attempts_in cases p (take (i + 1) starts))
  attempt_passed cases starts i s old lt at none before p =
      let is : is_attempt_in cases p s ≡ false = ap (λ o. option_map_or (λ c. bytes_eq p c.pickle_id) o false) (sym none) in
      before p ∙ ap some_or_more (sym (count_more (is_attempt_in cases p) starts i s lt at ∙ ap (λ b. attempts_in cases p (take i starts) + cond b 1 0) is ∙ add-zero _))

some_or_false : (n : ℕ) → option_map_or (λ b. b) (some_or_more n) false ≡ nat_lt 1 n
some_or_false zero = refl
some_or_false (suc n) = let no : (suc n == 0) ≡ false = grind (arith, nat_tests) in rw no refl

module _ {S : Type 0} where
  pub retried_found : (ids : List Utf8) (kept : Kept) (ps : List PickleEntry) (seen : IndexMap (Bor Utf8) Bool S) → ps ≡ kept.pickles → ((p : Utf8) → value_at seen p ≡ some_or_more (attempts_in kept.cases p kept.starts))
      → ids ≡ map (λ p. p.id) (filter (λ p. option_map_or (λ again. again) (value_at seen p.id) false) ps) → ids ≡ retried_in kept
  retried_found ids kept ps seen same h found =
      found
      ∙ same_picked (λ p. p.id) (λ p. option_map_or (λ again. again) (value_at seen p.id) false) (is_retried_in kept)
      (λ p. ap (λ o. option_map_or (λ again. again) o false) (h p.id) ∙ some_or_false (attempts_in kept.cases p.id kept.starts)) ps
      ∙ ap (λ l. map (λ p. p.id) (filter (is_retried_in kept) l)) same

-- ---- skipped

last_push : {X : Type 0} (xs : List X) (x : X) → last_of (xs ++ x ∷ []) ≡ Some x
last_push [] x = refl
last_push (y ∷ []) x = refl
last_push (y ∷ z ∷ xs) x = last_push (z ∷ xs) x

last_more : {X : Type 0} (p : X → Bool) (xs : List X) (x : X) → last_of (filter p (xs ++ x ∷ [])) ≡ (if p x then Some x else last_of (filter p xs))
last_more p xs x =
    ap last_of (filter-append p xs (x ∷ []))
    ∙ ⊎_elim (λ yes. rw yes (last_push (filter p xs) x)) (λ no. rw no (ap last_of (append-nil (filter p xs)))) (cases_Bool (p x))

module _ {S : Type 0} where
  pub last_noted : (starts : List StartEntry) (i : ℕ) (s : StartEntry) (b : Bor StartEntry) (text : Utf8) (old new : IndexMap (Bor Utf8) (Bor StartEntry) S)
      → i < length starts → s ≡ get_or starts i s → text ≡ s.case_id → b.now ≡ s
      → ((c : Utf8) → option_map (λ x. x.now) (value_at old c) ≡ last_start (take i starts) c)
      → ((q : Bor Utf8) → value_at new q.now ≡ cond (bytes_eq text q.now) (Some b) (value_at old q.now))
      → (c : Utf8) → option_map (λ x. x.now) (value_at new c) ≡ last_start (take (i + 1) starts) c
  last_noted starts i s b text old new lt at same is before all c =
      let q : Bor Utf8 = record { ref_ptr = (0, 0); now = c } in
      let more : take (i + 1) starts ≡ take i starts ++ s ∷ [] = take_more starts i s lt ∙ ap (λ y. take i starts ++ y ∷ []) (sym at) in
      let after : last_start (take (i + 1) starts) c ≡ (if bytes_eq c s.case_id then Some s else last_start (take i starts) c) = ap (λ l. last_start l c) more ∙ last_more (λ x. bytes_eq c x.case_id) (take i starts) s in
      let turned : bytes_eq text c ≡ bytes_eq c s.case_id = eq_back text c ∙ ap (bytes_eq c) same in
      ap (option_map (λ x. x.now)) (all q)
      ∙ ⊎_elim (λ yes. rw (turned, yes) (ap Some is)) (λ no. rw (turned, no) (before c)) (cases_Bool (bytes_eq c s.case_id))
      ∙ sym after

module _ {S : Type 0} where
  pub skipped_found : (ids : List Utf8) (kept : Kept) (attempts : List Utf8) (cs : List CaseEntry) (lasts : IndexMap (Bor Utf8) (Bor StartEntry) S) → cs ≡ kept.cases → attempts ≡ kept.skips
      → ((c : Utf8) → option_map (λ s. s.now) (value_at lasts c) ≡ last_start kept.starts c)
      → ids ≡ map (λ c. c.id) (filter (λ c. option_map_or (λ s. list_any (bytes_eq s.now.id) attempts) (value_at lasts c.id) false) cs)
      → ids ≡ skipped_in kept
  skipped_found ids kept attempts cs lasts same_cases same_skips h found =
      found
      ∙ same_picked (λ c. c.id) (λ c. option_map_or (λ s. list_any (bytes_eq s.now.id) attempts) (value_at lasts c.id) false) (has_skip_in kept)
      (λ c. or_of_map (λ (s : StartEntry). list_any (bytes_eq s.id) attempts) (λ (s : Bor StartEntry). s.now) (value_at lasts c.id) false
      ∙ (λ j. option_map_or (λ (s : StartEntry). list_any (bytes_eq s.id) (same_skips j)) (h c.id j) false))
      cs ∙ ap (λ l. map (λ c. c.id) (filter (has_skip_in kept) l)) same_cases

-- ---- stepless

module _ {S : Type 0} where
  pub stepless_found : (ids : List Utf8) (kept : Kept) (ps : List PickleEntry) (cs : List CaseEntry) (pickles : IndexMap (Bor Utf8) (Bor PickleEntry) S) → ps ≡ kept.pickles → cs ≡ kept.cases
      → HasFirsts (λ x. x.now) (λ x. x) (λ p. p.id) ps pickles
      → ids ≡ map (λ c. c.id) (filter (λ c. option_map_or (λ p. p.now.is_stepless) (value_at pickles c.pickle_id) false) cs)
      → ids ≡ stepless_in kept
  stepless_found ids kept ps cs pickles same_pickles same_cases h found =
      found ∙ same_picked (λ c. c.id) (λ c. option_map_or (λ p. p.now.is_stepless) (value_at pickles c.pickle_id) false) (is_stepless_in kept)
      (λ c. or_of_map (λ (p : PickleEntry). p.is_stepless) (λ (p : Bor PickleEntry). p.now) (value_at pickles c.pickle_id) false
      ∙ ap (λ o. option_map_or (λ p. p.is_stepless) o false) (h c.pickle_id ∙ same_option _)
      ∙ ap (λ l. option_map_or (λ p. p.is_stepless) (find (λ p. bytes_eq c.pickle_id p.id) l) false) same_pickles)
      cs ∙ ap (λ l. map (λ c. c.id) (filter (is_stepless_in kept) l)) same_cases

-- ---- undefined

module _ {S T : Type 0} (policy : Policy) (kept : Kept) (ss : List StartEntry) (cs : List CaseEntry) (starts : IndexMap (Bor Utf8) (Bor StartEntry) S) (cases : IndexMap (Bor Utf8) (List Utf8) T)
    (same_starts : ss ≡ kept.starts) (same_cases : cs ≡ kept.cases) (h : HasFirsts (λ x. x.now) (λ x. x) (λ s. s.id) ss starts) (k : HasFirsts (λ x. x) (λ c. c.unmatched) (λ c. c.id) cs cases) where
  start_found : (attempt : Utf8) → option_map (λ s. s.now) (value_at starts attempt) ≡ find (λ s. bytes_eq attempt s.id) kept.starts
  start_found attempt = h attempt ∙ same_option _ ∙ ap (find (λ s. bytes_eq attempt s.id)) same_starts

  -- what the maps say of an end is so of what is kept
  undefined_by : (f : FinishEntry) → is_undefined_by starts cases policy f ≡ is_undefined_in policy kept f
  undefined_by f =
      let found : option_and_then (λ s. value_at cases s.now.case_id) (value_at starts f.attempt_id) ≡ option_map (λ c. c.unmatched) (case_of_attempt kept f.attempt_id) =
      then_of_map (λ (s : StartEntry). value_at cases s.case_id) (λ (s : Bor StartEntry). s.now) (value_at starts f.attempt_id)
      ∙ ap (option_and_then (λ (s : StartEntry). value_at cases s.case_id)) (start_found f.attempt_id)
      ∙ then_same (λ (s : StartEntry). value_at cases s.case_id) (λ (s : StartEntry). option_map (λ c. c.unmatched) (case_in kept.cases s.case_id))
      (λ s. sym (same_option _) ∙ k s.case_id ∙ ap (λ l. option_map (λ (c : CaseEntry). c.unmatched) (case_in l s.case_id)) same_cases) (find (λ s. bytes_eq f.attempt_id s.id) kept.starts)
      ∙ map_of_then (λ (c : CaseEntry). c.unmatched) (λ (s : StartEntry). case_in kept.cases s.case_id) (find (λ s. bytes_eq f.attempt_id s.id) kept.starts) in
      ap (λ o. passes_in policy f && option_map_or (list_any (bytes_eq f.step_id)) o false) found
      ∙ ap (λ b. passes_in policy f && b) (sym (or_of_map (list_any (bytes_eq f.step_id)) (λ (c : CaseEntry). c.unmatched) (case_of_attempt kept f.attempt_id) false))

  end_by : (test_case step : Utf8) (f : FinishEntry) → is_end_by starts test_case step f ≡ is_end_in kept test_case step f
  end_by test_case step f =
      ap (λ b. bytes_eq step f.step_id && b)
      (or_of_map (λ (s : StartEntry). bytes_eq test_case s.case_id) (λ (s : Bor StartEntry). s.now) (value_at starts f.attempt_id) false
      ∙ ap (λ o. option_map_or (λ (s : StartEntry). bytes_eq test_case s.case_id) o false) (start_found f.attempt_id))

  pub undefined_counted : (n : ℕ) (fs : List FinishEntry) → fs ≡ kept.finishes → n ≡ count_by (is_undefined_by starts cases policy) fs → n ≡ count_by (is_undefined_in policy kept) kept.finishes
  undefined_counted n fs same_finishes count =
      count ∙ same_count (is_undefined_by starts cases policy) (is_undefined_in policy kept) undefined_by fs ∙ ap (count_by (is_undefined_in policy kept)) same_finishes

  pub undefined_found : (ids : List StepIds) (steps : List CaseStep) (fs : List FinishEntry) (walked : List CaseEntry) → fs ≡ kept.finishes → walked ≡ kept.cases
      → ((test_case step : Utf8) → has_step steps test_case step ≡ list_any (λ f. is_undefined_by starts cases policy f && is_end_by starts test_case step f) fs)
      → ids ≡ flat_map (steps_passing (has_step steps)) walked → ids ≡ undefined_steps_in policy kept
  undefined_found ids steps fs walked same_finishes same_walked all found =
      let same : (test_case step : Utf8) → has_step steps test_case step ≡ passes_undefined_in policy kept test_case step =
      λ test_case step.
      all test_case step
      ∙ same_any (λ f. is_undefined_by starts cases policy f && is_end_by starts test_case step f) (λ f. is_undefined_in policy kept f && is_end_in kept test_case step f)
      (λ f. λ j. undefined_by f j && end_by test_case step f j) fs
      ∙ ap (list_any (λ f. is_undefined_in policy kept f && is_end_in kept test_case step f)) same_finishes in
      found ∙ (λ j. flat_map (steps_passing (λ test_case step. same test_case step j)) (same_walked j))

flat_nil : {X Y : Type 0} (g : X → List Y) → ((x : X) → g x ≡ []) → (xs : List X) → flat_map g xs ≡ []
flat_nil g h [] = refl
flat_nil g h (x ∷ xs) = rw (h x) (flat_nil g h xs)

-- where no step that passed was kept there is none
pub none_undefined : (policy : Policy) (kept : Kept) → kept.finishes ≡ [] → [] ≡ undefined_steps_in policy kept
none_undefined policy kept none =
    sym
    (flat_nil (steps_passing (passes_undefined_in policy kept))
    (λ c.
    ap (map (λ step. record { test_case = c.id; step = step }))
    (none_of (passes_undefined_in policy kept c.id) (λ step. ap (list_any (λ f. is_undefined_in policy kept f && is_end_in kept c.id step f)) none) c.unmatched))
    kept.cases)

-- ---- undefined: a set of steps

and_yes : (b : Bool) → (b && true) ≡ b
and_yes true = refl
and_yes false = refl

-- the two are one step of one case
abbrev same_step : CaseStep → CaseStep → Bool
same_step a b = bytes_eq a.case.now b.case.now && bytes_eq a.step.now b.step.now

or_yes : (b : Bool) → (b || true) ≡ true
or_yes true = refl
or_yes false = refl

-- a set with one step more has that, and what it had
pub step_added : (keys : List CaseStep) (k : CaseStep) (test_case step : Utf8) → has_step (insert_key (λ a b. bytes_eq a.case.now b.case.now && bytes_eq a.step.now b.step.now) keys k) test_case step
    ≡ (has_step keys test_case step || (bytes_eq step k.step.now && bytes_eq test_case k.case.now))
step_added keys k test_case step = go (list_any (same_step k) keys) refl
  where
    turned : (s : CaseStep) → same_step k s ≡ (bytes_eq k.step.now s.step.now && bytes_eq k.case.now s.case.now)
    turned s = ⊎_elim (λ yes. rw yes (sym (and_yes (bytes_eq k.step.now s.step.now)))) (λ no. rw no (sym (never (bytes_eq k.step.now s.step.now)))) (cases_Bool (bytes_eq k.case.now s.case.now))

    there : (b : Bool) → (bytes_eq step k.step.now && bytes_eq test_case k.case.now) ≡ b → list_any (same_step k) keys ≡ true → has_step keys test_case step ≡ (has_step keys test_case step || b)
    there false e h = sym (or_no (has_step keys test_case step))
    there true e h =
        let both = and_true (bytes_eq step k.step.now) (bytes_eq test_case k.case.now) e in
        let has : has_step keys test_case step ≡ true =
        (λ j. has_step keys ((bytes_eq-Decides test_case k.case.now).0 both.1 j) ((bytes_eq-Decides step k.step.now).0 both.0 j))
        ∙ sym (same_any (same_step k) (λ s. bytes_eq k.step.now s.step.now && bytes_eq k.case.now s.case.now) turned keys) ∙ h in
        has ∙ sym (or_yes (has_step keys test_case step))

    go : (b : Bool) → list_any (same_step k) keys ≡ b → has_step (insert_key same_step keys k) test_case step ≡ (has_step keys test_case step || (bytes_eq step k.step.now && bytes_eq test_case k.case.now))
    go true e =
        ap (λ (b : Bool). has_step (if b then keys else keys ++ k ∷ []) test_case step) e
        ∙ there (bytes_eq step k.step.now && bytes_eq test_case k.case.now) refl e
    go false e =
        ap (λ (b : Bool). has_step (if b then keys else keys ++ k ∷ []) test_case step) e
        ∙ list_any-append (λ (s : CaseStep). bytes_eq step s.step.now && bytes_eq test_case s.case.now) keys (k ∷ [])
        ∙ ap (λ b. has_step keys test_case step || b) (or_no (bytes_eq step k.step.now && bytes_eq test_case k.case.now))
