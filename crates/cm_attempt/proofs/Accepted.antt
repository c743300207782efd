-- What holds of calls that were all accepted, and of the table that they left.
use Rattle.std.proofs.Common.{◌≡◌, ◌+◌, ℕ, suc, refl, sym, ap, ◌∙◌, subst, List, [], ◌∷◌, ◌++◌, Option, Some, None, true, false, Bool, not, length, map, append-nil, append_assoc}
use Rattle.std.specs.Prelude.{find, is_some, unwrap_or, filter, option_and_then}
use Rattle.std.specs.List.{list_any, list_all, AllByRecursion}
use Rattle.std.specs.Str.{bytes_eq}
use Rattle.std.proofs.lemmas.List.Sums.{length-filter}
use Rattle.cm_attempt.specs.Table.{Utf8, AttemptRow, Table, table_from, with_finished_attempt_at, has_text, has_repeat, find_attempt, is_closed_to_new, status_of_last, reported_status}
use Rattle.cm_attempt.specs.declared.track.Last.{Last}
use Rattle.cm_attempt.specs.declared.fault.TrackFault.{TrackFault}
use Rattle.cm_attempt.specs.Calls.{Call, AddCase, Start, StartStep, FinishStep, Finish, call_fault, after_call, unless_refused, table_after_calls, table_after, StartedAttempt, starts, starts_of, steps_of_attempt, moves, all_moves, ends_of, is_ended, is_retried, last_of, final_status, result_of}
use Rattle.cm_attempt.specs.CallLaws.{IsFront, CasesKnown, AreNumbered, NoneOverlaps, StepsInOrder, FinishedAreWhole, IdsDistinct, ComeInOrder, HasCases, ReportsResults, CountsOpen}
use Rattle.cm_attempt.proofs.Growing.{bytes_same, by_id, or_false, all_weaker}
use Rattle.cm_attempt.proofs.Standing.{left_of, open_is, whole_if_ended}
use Rattle.cm_attempt.proofs.Fits.{StartFits, start_fits}
use Rattle.cm_attempt.proofs.Tracked.{AttemptIs, unstarted, begun, Begun, begun_of, Retried, Latest, none_yet, one_open, last_over, CaseIs, undeclared, known, Known, known_of, Tracked}
use Rattle.cm_attempt.proofs.NextCall.{case_added, attempt_started, step_started, step_finished, attempt_finished}

pub none_tracked : (first : ℕ) → Tracked [] (table_from first)
none_tracked first = record {
  of_cases = λ case. undeclared refl (record { no_case = refl; no_start = refl });
  of_attempts = λ a. unstarted refl (record { start = refl; moves = refl; ends = refl; statuses = refl });
  case_ids = refl;
  attempt_ids = refl;
  cases_distinct = refl;
  attempts_distinct = refl;
  steps_distinct = tt;
}

pub one_more : (xs : List Call) (t : Table) (c : Call) → Tracked xs t → call_fault t c ≡ None → Tracked (xs ++ c ∷ []) (after_call t c)
one_more xs t (AddCase id steps) h e = case_added xs t id steps h e
one_more xs t (Start id case number) h e = attempt_started xs t id case number h e
one_more xs t (StartStep a step) h e = step_started xs t a step h e
one_more xs t (FinishStep a step status) h e = step_finished xs t a step status h e
one_more xs t (Finish a r) h e = attempt_finished xs t a r h e

tracked_from : (xs cs : List Call) (t u : Table) → Tracked xs t → table_after_calls t cs ≡ Some u → Tracked (xs ++ cs) u
tracked_from xs [] t u h e = subst (λ ys. Tracked ys u) (sym (append-nil xs)) (subst (Tracked xs) (ap (λ o. unwrap_or o t) e) h)
tracked_from xs (c ∷ cs) t u h e = go (call_fault t c) refl e (tracked_from (xs ++ c ∷ []) cs (after_call t c) u)
  where
    go : (o : Option TrackFault) → call_fault t c ≡ o → unless_refused o (table_after_calls (after_call t c) cs) ≡ Some u → (Tracked (xs ++ c ∷ []) (after_call t c) → table_after_calls (after_call t c) cs ≡ Some u → Tracked ((xs ++ c ∷ []) ++ cs) u) → Tracked (xs ++ c ∷ cs) u
    go None k l rec = subst (λ ys. Tracked ys u) (append_assoc xs (c ∷ []) cs) (rec (one_more xs t c h k) l)
    go (Some f) k l rec = cc

pub tracked : (first : ℕ) (calls : List Call) (t : Table) → table_after first calls ≡ Some t → Tracked calls t
tracked first calls t e = tracked_from [] calls (table_from first) t (none_tracked first) e

-- the first of the calls were accepted, and so were the others after them
pub cut_at : (xs ys : List Call) (t u : Table) → table_after_calls t (xs ++ ys) ≡ Some u → (v : Table) × (table_after_calls t xs ≡ Some v) × (table_after_calls v ys ≡ Some u)
cut_at [] ys t u e = (t, refl, e)
cut_at (c ∷ xs) ys t u e = go (call_fault t c) refl e (cut_at xs ys (after_call t c) u)
  where
    go : (o : Option TrackFault) → call_fault t c ≡ o → unless_refused o (table_after_calls (after_call t c) (xs ++ ys)) ≡ Some u
        → (table_after_calls (after_call t c) (xs ++ ys) ≡ Some u → (v : Table) × (table_after_calls (after_call t c) xs ≡ Some v) × (table_after_calls v ys ≡ Some u)) → (v : Table) × (table_after_calls t (c ∷ xs) ≡ Some v) × (table_after_calls v ys ≡ Some u)
    go None k l rec = let w = rec l in (w.0, rw k w.1, w.2)
    go (Some f) k l rec = cc

-- ---- the number that attempts are counted from

-- no call changes it
pub first_stays : (t : Table) (c : Call) → (after_call t c).first ≡ t.first
first_stays t (AddCase id steps) = refl
first_stays t (Start id case number) = refl
first_stays t (StartStep a step) = refl
first_stays t (FinishStep a step status) = refl
first_stays t (Finish a r) = go (find_attempt t a)
  where
    go : (o : Option AttemptRow) → (with_finished_attempt_at a r o t).first ≡ t.first
    go None = refl
    go (Some row) = refl

first_left : (cs : List Call) (t u : Table) → table_after_calls t cs ≡ Some u → u.first ≡ t.first
first_left [] t u e = ap (λ o. (unwrap_or o t).first) (sym e)
first_left (c ∷ cs) t u e = go (call_fault t c) e (first_left cs (after_call t c) u)
  where
    go : (o : Option TrackFault) → unless_refused o (table_after_calls (after_call t c) cs) ≡ Some u
        → (table_after_calls (after_call t c) cs ≡ Some u → u.first ≡ (after_call t c).first) → u.first ≡ t.first
    go None l rec = rec l ∙ first_stays t c
    go (Some f) l rec = cc

pub first_is : (first : ℕ) (calls : List Call) (t : Table) → table_after first calls ≡ Some t → t.first ≡ first
first_is first calls t e = first_left calls (table_from first) t e

-- ---- each start

record AtStart (first : ℕ) (before : List Call) (id case : Utf8) (number : ℕ) : Type 0 where
  table : Table
  counts : table.first ≡ first
  so_far : Tracked before table
  fits : StartFits table id case number

at_start : (first : ℕ) (calls : List Call) (t : Table) → table_after first calls ≡ Some t → (before : List Call) (id case : Utf8) (number : ℕ) (after : List Call) → calls ≡ before ++ Start id case number ∷ after → AtStart first before id case number
at_start first calls t e before id case number after cut =
    let parts = cut_at before (Start id case number ∷ after) (table_from first) t (ap (table_after first) (sym cut) ∙ e) in
    record { table = parts.0; counts = first_is first before parts.0 parts.1; so_far = tracked first before parts.0 parts.1; fits = start_fits parts.0 id case number (none (call_fault parts.0 (Start id case number)) (table_after_calls (after_call parts.0 (Start id case number)) after) parts.2) }
  where
    none : (o : Option TrackFault) (l : Option Table) → unless_refused o l ≡ Some t → o ≡ None
    none None l k = refl
    none (Some f) l k = cc

known_at : (first : ℕ) (before : List Call) (id case : Utf8) (number : ℕ) → (s : AtStart first before id case number) → Known before case s.fits.row
known_at first before id case number s = known_of before s.table case s.fits.row (s.so_far.of_cases case) s.fits.found

pub cases_known : (first : ℕ) (calls : List Call) (t : Table) → table_after first calls ≡ Some t → CasesKnown calls
cases_known first calls t e before id case number after cut = ap is_some (known_at first before id case number (at_start first calls t e before id case number after cut)).is_declared

pub are_numbered : (first : ℕ) (calls : List Call) (t : Table) → table_after first calls ≡ Some t → AreNumbered first calls
are_numbered first calls t e before id case number after cut =
    let s = at_start first calls t e before id case number after cut in
    s.fits.count ∙ (λ i. s.counts i + (known_at first before id case number s).count i)

all_retried : (calls : List Call) (ss : List StartedAttempt) → AllByRecursion (Retried calls) ss → list_all (λ s. is_retried s.id calls) ss ≡ true
all_retried calls [] h = refl
all_retried calls (s ∷ ss) h = let yes : is_retried s.id calls ≡ true = ap (list_any (λ r. r)) h.0 in rw (yes, all_retried calls ss h.1) refl

pub last_all : (p : StartedAttempt → Bool) (ss : List StartedAttempt) (s : StartedAttempt) → list_all p (ss ++ s ∷ []) ≡ true → p s ≡ true
last_all p [] s h = go (p s) refl h
  where
    go : (b : Bool) → p s ≡ b → list_all p (s ∷ []) ≡ true → p s ≡ true
    go true e k = e
    go false e k = let no : false ≡ true = rw e at k in cc
last_all p (x ∷ ss) s h = go (p x) refl h (last_all p ss s)
  where
    go : (b : Bool) → p x ≡ b → list_all p (x ∷ (ss ++ s ∷ [])) ≡ true → (list_all p (ss ++ s ∷ []) ≡ true → p s ≡ true) → p s ≡ true
    go true e k rec = rec (rw e at k)
    go false e k rec = let no : false ≡ true = rw e at k in cc

pub all_then : (calls : List Call) (front : List StartedAttempt) (s : StartedAttempt) → AllByRecursion (Retried calls) front → Retried calls s → list_all (λ s. is_retried s.id calls) (front ++ s ∷ []) ≡ true
all_then calls [] s h k = all_retried calls (s ∷ []) (k, tt)
all_then calls (x ∷ front) s h k = let yes : is_retried x.id calls ≡ true = ap (list_any (λ r. r)) h.0 in rw (yes, all_then calls front s h.1 k) refl

none_open : (calls : List Call) (case : Utf8) (ss : List StartedAttempt) (l : Last) → is_closed_to_new l ≡ false → Latest calls case ss l → list_all (λ s. is_retried s.id calls) ss ≡ true
none_open calls case ss l closed (none_yet a b) = ap (list_all (λ s. is_retried s.id calls)) a
none_open calls case ss l closed (one_open front s cut all st cs ends e) = let no : true ≡ false = ap is_closed_to_new (sym e) ∙ closed in cc
none_open calls case ss l closed (last_over front s false cut all ends e) = let no : true ≡ false = ap is_closed_to_new (sym e) ∙ closed in cc
none_open calls case ss l closed (last_over front s true cut all ends e) = ap (list_all (λ s. is_retried s.id calls)) cut ∙ all_then calls front s all ends

pub none_overlaps : (first : ℕ) (calls : List Call) (t : Table) → table_after first calls ≡ Some t → NoneOverlaps calls
none_overlaps first calls t e before id case number after cut =
    let s = at_start first calls t e before id case number after cut in
    none_open before case (starts_of case before) s.fits.row.last s.fits.closed (known_at first before id case number s).latest

-- ---- each attempt

-- the steps of an attempt's case, by its row and by the calls
pub its_steps : (calls : List Call) (t : Table) → Tracked calls t → (a : Utf8) (row : AttemptRow) → (b : Begun calls t a row) → steps_of_attempt a calls ≡ b.its_case.steps
its_steps calls t h a row b =
    let k = known_of calls t b.start.case_id b.its_case (h.of_cases b.start.case_id) b.has_case in
    rw (b.is_start, k.is_declared) (sym k.steps)

front_of : (calls : List Call) (t : Table) → Tracked calls t → (a : Utf8) → AttemptIs calls t a → IsFront (moves a calls) (all_moves (steps_of_attempt a calls))
front_of calls t h a (unstarted n u) = (all_moves (steps_of_attempt a calls), ap (λ ms. ms ++ all_moves (steps_of_attempt a calls)) (sym u.moves))
front_of calls t h a (begun row f b) =
    let front = left_of b.its_case.steps (moves a calls) (ends_of a calls) row.cursor b.stands in
    (front.0, ap all_moves (its_steps calls t h a row b) ∙ front.1)

pub steps_in_order : (first : ℕ) (calls : List Call) (t : Table) → table_after first calls ≡ Some t → StepsInOrder calls
steps_in_order first calls t e a = let h = tracked first calls t e in front_of calls t h a (h.of_attempts a)

whole_of : (calls : List Call) (t : Table) → Tracked calls t → (a : Utf8) → AttemptIs calls t a → is_ended a calls ≡ true → (moves a calls ≡ all_moves (steps_of_attempt a calls)) × (length (ends_of a calls) ≡ 1)
whole_of calls t h a (unstarted n u) ended = let no : is_ended a calls ≡ false = rw u.moves refl in cc
whole_of calls t h a (begun row f b) ended =
    let parts = whole_if_ended b.its_case.steps (moves a calls) (ends_of a calls) row.cursor b.stands ended in
    (parts.0 ∙ ap all_moves (sym (its_steps calls t h a row b)), parts.1)

pub finished_are_whole : (first : ℕ) (calls : List Call) (t : Table) → table_after first calls ≡ Some t → FinishedAreWhole calls
finished_are_whole first calls t e a = let h = tracked first calls t e in whole_of calls t h a (h.of_attempts a)

-- ---- ids

pub ids_distinct : (first : ℕ) (calls : List Call) (t : Table) → table_after first calls ≡ Some t → IdsDistinct calls
ids_distinct first calls t e =
    let h = tracked first calls t e in
    record {
      of_cases = ap has_repeat (sym h.case_ids) ∙ h.cases_distinct;
      of_steps = h.steps_distinct;
      of_attempts = ap has_repeat (sym h.attempt_ids) ∙ h.attempts_distinct;
    }

pub come_in_order : (first : ℕ) (calls : List Call) (t : Table) → table_after first calls ≡ Some t → ComeInOrder first calls
come_in_order first calls t e = record {
  distinct = ids_distinct first calls t e;
  known = cases_known first calls t e;
  numbers = are_numbered first calls t e;
  overlap = none_overlaps first calls t e;
  steps = steps_in_order first calls t e;
}

-- ---- what is reported

pub has_cases : (first : ℕ) (calls : List Call) (t : Table) → table_after first calls ≡ Some t → HasCases calls t
has_cases first calls t e = (tracked first calls t e).case_ids

last_push : {X : Type 0} (xs : List X) (x : X) → last_of (xs ++ x ∷ []) ≡ Some x
last_push [] x = refl
last_push (y ∷ []) x = refl
last_push (y ∷ z ∷ xs) x = last_push (z ∷ xs) x

final_in : (calls : List Call) (case : Utf8) (ss : List StartedAttempt) (l : Last) → Latest calls case ss l → status_of_last l ≡ option_and_then (final_status calls) (last_of ss)
final_in calls case ss l (none_yet a b) = rw (a, b) refl
final_in calls case ss l (one_open front s cut all st cs ends e) = rw (e, cut, last_push front s, ends) refl
final_in calls case ss l (last_over front s true cut all ends e) = rw (e, cut, last_push front s, ends) refl
final_in calls case ss l (last_over front s false cut all ends e) = rw (e, cut, last_push front s, ends) refl

reports_case : (calls : List Call) (t : Table) (case : Utf8) → CaseIs calls t case → reported_status t case ≡ result_of case calls
reports_case calls t case (undeclared n u) = rw (n, u.no_start) refl
reports_case calls t case (known row f k) = rw f (final_in calls case (starts_of case calls) row.last k.latest)

pub reports : (first : ℕ) (calls : List Call) (t : Table) → table_after first calls ≡ Some t → ReportsResults calls t
reports first calls t e case = reports_case calls t case ((tracked first calls t e).of_cases case)

-- ---- open attempts

module _ {X : Type 0} (id : X → Utf8) where
  count_ids : (p : X → Bool) (q : Utf8 → Bool) (xs : List X) → AllByRecursion (λ x. p x ≡ q (id x)) xs → length (filter p xs) ≡ length (filter q (map id xs))
  count_ids p q [] h = refl
  count_ids p q (x ∷ xs) h = go (q (id x)) refl (count_ids p q xs h.1)
    where
      go : (b : Bool) → q (id x) ≡ b → length (filter p xs) ≡ length (filter q (map id xs)) → length (filter p (x ∷ xs)) ≡ length (filter q (map id (x ∷ xs)))
      go true e rec = rw (h.0, e) (ap (λ n. suc n) rec)
      go false e rec = rw (h.0, e) rec

  past : (x : X) (xs ys : List X) → has_text (id x) (map id ys) ≡ false → AllByRecursion (λ y. find (λ z. bytes_eq (id y) (id z)) xs ≡ Some y) ys → AllByRecursion (λ y. find (λ z. bytes_eq (id y) (id z)) (x ∷ xs) ≡ Some y) ys
  past x xs [] none h = tt
  past x xs (y ∷ ys) none h =
      let parts = or_false (bytes_eq (id x) (id y)) (has_text (id x) (map id ys)) none in
      let other : bytes_eq (id y) (id x) ≡ false = by_id (id y) (id x) (λ k. k) (λ k. let yes : bytes_eq (id x) (id y) ≡ true = ap (bytes_eq (id x)) k ∙ bytes_same (id x) in cc) in
      (rw other h.0, past x xs ys parts.1 h.1)

  -- among distinct ids each is found by its own
  found_self : (xs : List X) → has_repeat (map id xs) ≡ false → AllByRecursion (λ x. find (λ z. bytes_eq (id x) (id z)) xs ≡ Some x) xs
  found_self [] h = tt
  found_self (x ∷ xs) h =
      let parts = or_false (has_text (id x) (map id xs)) (has_repeat (map id xs)) h in
      (rw (bytes_same (id x)) refl, past x xs xs parts.0 (found_self xs parts.1))

  each : (P : X → Type 0) → ((x : X) → P x) → (xs : List X) → AllByRecursion P xs
  each P f [] = tt
  each P f (x ∷ xs) = (f x, each P f xs)

open_row : (calls : List Call) (t : Table) → Tracked calls t → (row : AttemptRow) → find_attempt t row.id ≡ Some row → is_some row.cursor ≡ not (is_ended row.id calls)
open_row calls t h row f =
    let b = begun_of calls t row.id row (h.of_attempts row.id) f in
    open_is b.its_case.steps (moves row.id calls) (ends_of row.id calls) row.cursor b.stands

pub counts_open : (first : ℕ) (calls : List Call) (t : Table) → table_after first calls ≡ Some t → CountsOpen calls t
counts_open first calls t e =
    let h = tracked first calls t e in
    let rows : AllByRecursion (λ (r : AttemptRow). is_some r.cursor ≡ not (is_ended r.id calls)) t.attempts =
    all_weaker (λ (r : AttemptRow). find_attempt t r.id ≡ Some r) (λ (r : AttemptRow). is_some r.cursor ≡ not (is_ended r.id calls)) (open_row calls t h) t.attempts (found_self (λ (r : AttemptRow). r.id) t.attempts h.attempts_distinct) in
    sym (length-filter (λ (r : AttemptRow). is_some r.cursor) t.attempts)
    ∙ count_ids (λ (r : AttemptRow). r.id) (λ r. is_some r.cursor) (λ a. not (is_ended a calls)) t.attempts rows
    ∙ ap (λ ids. length (filter (λ a. not (is_ended a calls)) ids)) h.attempt_ids
    ∙ sym (count_ids (λ (s : StartedAttempt). s.id) (λ s. not (is_ended s.id calls)) (λ a. not (is_ended a calls)) (starts calls) (each (λ (s : StartedAttempt). s.id) (λ s. not (is_ended s.id calls) ≡ not (is_ended s.id calls)) (λ s. refl) (starts calls)))
    ∙ length-filter (λ (s : StartedAttempt). not (is_ended s.id calls)) (starts calls)
