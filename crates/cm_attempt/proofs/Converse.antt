-- Calls that come as they must are accepted.
use Rattle.std.proofs.Common.{◌≡◌, ◌+◌, ℕ, refl, sym, ap, ◌∙◌, subst, ◌≢◌, List, [], ◌∷◌, ◌++◌, Option, Some, None, true, false, Bool, ◌||◌, ◌==◌, length, length-append, map, append_assoc, arith}
use Rattle.std.specs.Prelude.{find, is_some, slice_get, unwrap_or}
use Rattle.std.specs.List.{list_any, list_all, AllByRecursion}
use Rattle.std.specs.Option.{option_map_or}
use Rattle.std.specs.Str.{bytes_eq}
use Rattle.std.proofs.lemmas.Bool.Decides.{nat_tests}
use Rattle.std.proofs.lemmas.List.{append_cancel_left}
use Rattle.std.proofs.lemmas.List.Folds.{list_any-append}
use Rattle.cm_attempt.specs.Table.{Utf8, AttemptRow, Table, table_from, has_text, has_repeat, find_attempt, steps_of, add_case_fault, start_fault, step_start_fault, step_finish_fault, step_fault_at, finish_fault, finish_fault_at, end_fault_of, may_start, may_finish, is_closed_to_new}
use Rattle.cm_attempt.specs.declared.track.Cursor.{Cursor}
use Rattle.cm_attempt.specs.declared.status.Status.{Status}
use Rattle.cm_attempt.specs.declared.track.Last.{Last}
use Rattle.cm_attempt.specs.Calls.{Call, AddCase, Start, StartStep, FinishStep, Finish, call_fault, after_call, table_after_calls, table_after, DeclaredCase, StartedAttempt, as_case, as_start, cases, starts, declared_case, start_of, starts_of, steps_of_attempt, Move, Started, StepStarted, StepFinished, Ended, move_of, moves, step_moves, all_moves, ends_of, is_retried}
use Rattle.cm_attempt.specs.CallLaws.{IsFront, ComeInOrder}
use Rattle.cm_attempt.proofs.Growing.{bytes_same, by_id, or_false, at_end, found_cut}
use Rattle.cm_attempt.proofs.Standing.{cursor_at, Stands, between, inside, over, rest_of, left_is}
use Rattle.cm_attempt.proofs.Tracked.{AttemptIs, unstarted, begun, Begun, Latest, none_yet, one_open, last_over, CaseIs, undeclared, known, Tracked, start_still, declared_still}
use Rattle.cm_attempt.proofs.NextCall.{steps_are}
use Rattle.cm_attempt.proofs.Accepted.{none_tracked, one_more, first_stays, last_all}

-- ---- lists that are cut at an element

no_repeat_found : {X : Type 0} (id : X → Utf8) (xs : List X) (y : X) (ys : List X) → has_repeat (map id (xs ++ y ∷ ys)) ≡ false → find (λ x. bytes_eq (id y) (id x)) xs ≡ None
no_repeat_found {X} id [] y ys h = refl
no_repeat_found {X} id (x ∷ xs) y ys h =
    let parts = or_false (has_text (id x) (map id (xs ++ y ∷ ys))) (has_repeat (map id (xs ++ y ∷ ys))) h in
    let no : bytes_eq (id x) (id y) ≡ false = any_cut xs parts.0 in
    let turned : bytes_eq (id y) (id x) ≡ false = by_id (id y) (id x) (λ k. k) (λ k. let yes : bytes_eq (id x) (id y) ≡ true = ap (bytes_eq (id x)) k ∙ bytes_same (id x) in cc) in
    rw turned (no_repeat_found id xs y ys parts.1)
  where
    any_cut : (zs : List X) → has_text (id x) (map id (zs ++ y ∷ ys)) ≡ false → bytes_eq (id x) (id y) ≡ false
    any_cut [] k = (or_false (bytes_eq (id x) (id y)) (has_text (id x) (map id ys)) k).0
    any_cut (z ∷ zs) k = any_cut zs (or_false (bytes_eq (id x) (id z)) (has_text (id x) (map id (zs ++ y ∷ ys))) k).1

all_here : {X : Type 0} (P : X → Type 0) (xs : List X) (y : X) (ys : List X) → AllByRecursion P (xs ++ y ∷ ys) → P y
all_here P [] y ys h = h.0
all_here P (x ∷ xs) y ys h = all_here P xs y ys h.1

has_here : (s : Utf8) (xs ys : List Utf8) → has_text s (xs ++ s ∷ ys) ≡ true
has_here s xs ys = list_any-append (bytes_eq s) xs (s ∷ ys) ∙ rw (bytes_same s) (or_yes (has_text s xs))
  where
    or_yes : (b : Bool) → (b || true) ≡ true
    or_yes true = refl
    or_yes false = refl

-- ---- the next move of an attempt

record MayGo (may : Option Cursor → List Utf8 → Bool) (o : Option Cursor) (steps : List Utf8) (step : Utf8) : Type 0 where
  next : may o steps ≡ true
  known_step : has_text step steps ≡ true

is_at : (done : List Utf8) (step : Utf8) (more : List Utf8) → option_map_or (bytes_eq step) (slice_get (done ++ step ∷ more) (length done)) false ≡ true
is_at done step more = ap (λ z. option_map_or (bytes_eq step) z false) (at_end done (step ∷ more)) ∙ bytes_same step

rest_is : (steps : List Utf8) (ms : List Move) (rs : List Bool) (o : Option Cursor) (zs : List Move) → (st : Stands steps ms rs o) → all_moves steps ≡ ms ++ zs → rest_of steps ms rs o st ≡ zs
rest_is steps ms rs o zs st e = append_cancel_left ms (rest_of steps ms rs o st) zs (sym (left_is steps ms rs o st) ∙ e)

abbrev step_named : Utf8 → Move → Utf8
step_named d (StepStarted s) = s
step_named d (StepFinished s) = s
step_named d _ = d

abbrev first_of_list : Move → List Move → Move
first_of_list d [] = d
first_of_list d (m ∷ ms) = m

abbrev shape : List Move → ℕ
shape [] = 0
shape (Started ∷ ms) = 1
shape (StepStarted s ∷ ms) = 2
shape (StepFinished s ∷ ms) = 3
shape (Ended ∷ ms) = 4

may_start_next : (steps : List Utf8) (ms : List Move) (rs : List Bool) (o : Option Cursor) (step : Utf8) (zs : List Move) → Stands steps ms rs o → all_moves steps ≡ ms ++ StepStarted step ∷ zs → MayGo (may_start step) o steps step
may_start_next steps ms rs o step zs (between done [] a b c d) e = let no : 4 ≡ 2 = ap shape (rest_is steps ms rs o (StepStarted step ∷ zs) (between done [] a b c d) e) in absurd (omega (arith, no))
may_start_next steps ms rs o step zs (between done (x ∷ more) a b c d) e =
    let first : StepStarted x ∷ StepFinished x ∷ (step_moves more ++ Ended ∷ []) ≡ StepStarted step ∷ zs = rest_is steps ms rs o (StepStarted step ∷ zs) (between done (x ∷ more) a b c d) e in
    let same : x ≡ step = ap (λ l. step_named step (first_of_list Ended l)) first in
    let all : steps ≡ done ++ step ∷ more = a ∙ ap (λ z. done ++ z ∷ more) same in
    record { next = rw (d, all) (is_at done step more); known_step = ap (has_text step) all ∙ has_here step done more }
may_start_next steps ms rs o step zs (inside done x more a b c d) e = let no : 3 ≡ 2 = ap shape (rest_is steps ms rs o (StepStarted step ∷ zs) (inside done x more a b c d) e) in absurd (omega (arith, no))
may_start_next steps ms rs o step zs (over r a b c) e = let no : 0 ≡ 2 = ap shape (rest_is steps ms rs o (StepStarted step ∷ zs) (over r a b c) e) in absurd (omega (arith, no))

may_finish_next : (steps : List Utf8) (ms : List Move) (rs : List Bool) (o : Option Cursor) (step : Utf8) (zs : List Move) → Stands steps ms rs o → all_moves steps ≡ ms ++ StepFinished step ∷ zs → MayGo (may_finish step) o steps step
may_finish_next steps ms rs o step zs (between done [] a b c d) e = let no : 4 ≡ 3 = ap shape (rest_is steps ms rs o (StepFinished step ∷ zs) (between done [] a b c d) e) in absurd (omega (arith, no))
may_finish_next steps ms rs o step zs (between done (x ∷ more) a b c d) e = let no : 2 ≡ 3 = ap shape (rest_is steps ms rs o (StepFinished step ∷ zs) (between done (x ∷ more) a b c d) e) in absurd (omega (arith, no))
may_finish_next steps ms rs o step zs (inside done x more a b c d) e =
    let first : StepFinished x ∷ (step_moves more ++ Ended ∷ []) ≡ StepFinished step ∷ zs = rest_is steps ms rs o (StepFinished step ∷ zs) (inside done x more a b c d) e in
    let same : x ≡ step = ap (λ l. step_named step (first_of_list Ended l)) first in
    let all : steps ≡ done ++ step ∷ more = a ∙ ap (λ z. done ++ z ∷ more) same in
    record { next = rw (d, all) (is_at done step more); known_step = ap (has_text step) all ∙ has_here step done more }
may_finish_next steps ms rs o step zs (over r a b c) e = let no : 0 ≡ 3 = ap shape (rest_is steps ms rs o (StepFinished step ∷ zs) (over r a b c) e) in absurd (omega (arith, no))

all_finished : (done : List Utf8) (b : Bool) → end_fault_of (Some (cursor_at (length done) b)) (done ++ []) ≡ None
all_finished done b = let same : (length done == length (done ++ [])) ≡ true = (let long = length-append done [] in grind (arith, nat_tests, long)) in rw same refl

may_end_next : (steps : List Utf8) (ms : List Move) (rs : List Bool) (o : Option Cursor) (zs : List Move) → Stands steps ms rs o → all_moves steps ≡ ms ++ Ended ∷ zs → end_fault_of o steps ≡ None
may_end_next steps ms rs o zs (between done [] a b c d) e = ap (λ z. end_fault_of z steps) d ∙ ap (end_fault_of (Some (cursor_at (length done) false))) a ∙ all_finished done false
may_end_next steps ms rs o zs (between done (x ∷ more) a b c d) e = let no : 2 ≡ 4 = ap shape (rest_is steps ms rs o (Ended ∷ zs) (between done (x ∷ more) a b c d) e) in absurd (omega (arith, no))
may_end_next steps ms rs o zs (inside done x more a b c d) e = let no : 3 ≡ 4 = ap shape (rest_is steps ms rs o (Ended ∷ zs) (inside done x more a b c d) e) in absurd (omega (arith, no))
may_end_next steps ms rs o zs (over r a b c) e = let no : 0 ≡ 4 = ap shape (rest_is steps ms rs o (Ended ∷ zs) (over r a b c) e) in absurd (omega (arith, no))

-- ---- an attempt that the calls name further on

-- it was started, and goes through the whole with this move next
record GoesOn (xs : List Call) (t : Table) (a : Utf8) (m : Move) : Type 0 where
  row : AttemptRow
  found : find_attempt t a ≡ Some row
  begins : Begun xs t a row
  zs : List Move
  next : all_moves begins.its_case.steps ≡ moves a xs ++ m ∷ zs

steps_still : (xs ys : List Call) (t : Table) → Tracked xs t → (a : Utf8) (row : AttemptRow) → (b : Begun xs t a row) → steps_of_attempt a (xs ++ ys) ≡ b.its_case.steps
steps_still xs ys t h a row b = go (h.of_cases b.start.case_id)
  where
    go : CaseIs xs t b.start.case_id → steps_of_attempt a (xs ++ ys) ≡ b.its_case.steps
    go (undeclared n u) = let no : None ≡ Some b.its_case = sym n ∙ b.has_case in cc
    go (known other f k) =
        let same : other ≡ b.its_case = ap (λ o. unwrap_or o other) (sym f ∙ b.has_case) in
        rw (start_still a xs ys b.start b.is_start, declared_still b.start.case_id xs ys k.found k.is_declared) (sym k.steps ∙ ap (λ r. r.steps) same)

goes_on : (first : ℕ) (xs : List Call) (c : Call) (cs : List Call) (t : Table) → Tracked xs t → ComeInOrder first (xs ++ c ∷ cs) → (a : Utf8) (m : Move) → move_of a c ≡ Some m → 1 ≢ shape (m ∷ []) → GoesOn xs t a m
goes_on first xs c cs t h order a m moved later = go (h.of_attempts a)
  where
    front : IsFront (moves a (xs ++ c ∷ cs)) (all_moves (steps_of_attempt a (xs ++ c ∷ cs)))
    front = order.steps a

    all : all_moves (steps_of_attempt a (xs ++ c ∷ cs)) ≡ moves a xs ++ m ∷ (moves a cs ++ front.0)
    all = front.1 ∙ ap (λ ms. ms ++ front.0) (found_cut (move_of a) xs c cs m moved) ∙ append_assoc (moves a xs) (m ∷ moves a cs) front.0

    go : AttemptIs xs t a → GoesOn xs t a m
    go (unstarted n u) =
        let first : all_moves (steps_of_attempt a (xs ++ c ∷ cs)) ≡ m ∷ (moves a cs ++ front.0) = all ∙ ap (λ ms. ms ++ m ∷ (moves a cs ++ front.0)) u.moves in
        absurd (later (ap shape first ∙ one m (moves a cs ++ front.0)))
      where
        one : (m : Move) (ms : List Move) → shape (m ∷ ms) ≡ shape (m ∷ [])
        one Started ms = refl
        one (StepStarted s) ms = refl
        one (StepFinished s) ms = refl
        one Ended ms = refl
    go (begun row f b) = record {
      row = row;
      found = f;
      begins = b;
      zs = moves a cs ++ front.0;
      next = ap all_moves (sym (steps_still xs (c ∷ cs) t h a row b)) ∙ all;
    }

no_step_fault : (t : Table) (a step : Utf8) (may : Option Cursor → List Utf8 → Bool) (row : AttemptRow) → find_attempt t a ≡ Some row → has_text step (steps_of t row.case_id) ≡ true → may row.cursor (steps_of t row.case_id) ≡ true
    → step_fault_at t step may (find_attempt t a) ≡ None
no_step_fault t a step may row f k n = rw (f, k, n) refl

-- ---- each call

case_accepted : (first : ℕ) (xs : List Call) (id : Utf8) (steps : List Utf8) (cs : List Call) (t : Table) → Tracked xs t → ComeInOrder first (xs ++ AddCase id steps ∷ cs) → add_case_fault t id steps ≡ None
case_accepted first xs id steps cs t h order = go (h.of_cases id)
  where
    d : DeclaredCase
    d = record { id = id; steps = steps }

    cut : cases (xs ++ AddCase id steps ∷ cs) ≡ cases xs ++ d ∷ cases cs
    cut = found_cut as_case xs (AddCase id steps) cs d refl

    distinct : has_repeat steps ≡ false
    distinct = all_here (λ (x : DeclaredCase). has_repeat x.steps ≡ false) (cases xs) d (cases cs) (subst (AllByRecursion (λ (x : DeclaredCase). has_repeat x.steps ≡ false)) cut order.distinct.of_steps)

    new : declared_case id xs ≡ None
    new = no_repeat_found (λ (x : DeclaredCase). x.id) (cases xs) d (cases cs) (ap (λ ds. has_repeat (map (λ (x : DeclaredCase). x.id) ds)) (sym cut) ∙ order.distinct.of_cases)

    go : CaseIs xs t id → add_case_fault t id steps ≡ None
    go (undeclared n u) = rw (n, distinct) refl
    go (known row f k) = let no : None ≡ Some k.found = sym new ∙ k.is_declared in cc

start_accepted : (first : ℕ) (xs : List Call) (id case : Utf8) (number : ℕ) (cs : List Call) (t : Table) → t.first ≡ first → Tracked xs t → ComeInOrder first (xs ++ Start id case number ∷ cs) → start_fault t id case number ≡ None
start_accepted first xs id case number cs t counts h order = go (h.of_cases case)
  where
    s : StartedAttempt
    s = record { id = id; case_id = case; number = number }

    cut : starts (xs ++ Start id case number ∷ cs) ≡ starts xs ++ s ∷ starts cs
    cut = found_cut as_start xs (Start id case number) cs s refl

    new : start_of id xs ≡ None
    new = no_repeat_found (λ (x : StartedAttempt). x.id) (starts xs) s (starts cs) (ap (λ ss. has_repeat (map (λ (x : StartedAttempt). x.id) ss)) (sym cut) ∙ order.distinct.of_attempts)

    unseen : AttemptIs xs t id → find_attempt t id ≡ None
    unseen (unstarted n u) = n
    unseen (begun row f b) = let no : None ≡ Some b.start = sym new ∙ b.is_start in cc

    not_closed : (l : Last) (ss : List StartedAttempt) → list_all (λ x. is_retried x.id xs) ss ≡ true → Latest xs case ss l → is_closed_to_new l ≡ false
    not_closed l ss all (none_yet a b) = ap is_closed_to_new b
    not_closed l ss all (one_open front x c k st of ends e) =
        let yes : is_retried x.id xs ≡ true = last_all (λ x. is_retried x.id xs) front x (ap (list_all (λ x. is_retried x.id xs)) (sym c) ∙ all) in
        let no : is_retried x.id xs ≡ false = ap (list_any (λ r. r)) ends in
        cc
    not_closed l ss all (last_over front x false c k ends e) =
        let yes : is_retried x.id xs ≡ true = last_all (λ x. is_retried x.id xs) front x (ap (list_all (λ x. is_retried x.id xs)) (sym c) ∙ all) in
        let no : is_retried x.id xs ≡ false = ap (list_any (λ r. r)) ends in
        cc
    not_closed l ss all (last_over front x true c k ends e) = ap is_closed_to_new e

    same_number : (m n : ℕ) → m ≡ n → (m == n) ≡ true
    same_number m n e = grind (arith, nat_tests)

    go : CaseIs xs t case → start_fault t id case number ≡ None
    go (undeclared n u) =
        let yes : is_some (declared_case case xs) ≡ true = order.known xs id case number cs refl in
        let no : is_some (declared_case case xs) ≡ false = ap is_some u.no_case in
        cc
    go (known row f k) =
        let count : (number == t.first + row.attempts) ≡ true = same_number number (t.first + row.attempts) (order.numbers xs id case number cs refl ∙ (λ i. sym counts i + sym k.count i)) in
        let open_to_new : is_closed_to_new row.last ≡ false = not_closed row.last (starts_of case xs) (order.overlap xs id case number cs refl) k.latest in
        rw (f, unseen (h.of_attempts id), count, open_to_new) refl

start_step_accepted : (first : ℕ) (xs : List Call) (a step : Utf8) (cs : List Call) (t : Table) → Tracked xs t → ComeInOrder first (xs ++ StartStep a step ∷ cs) → step_start_fault t a step ≡ None
start_step_accepted first xs a step cs t h order =
    let g = goes_on first xs (StartStep a step) cs t h order a (StepStarted step) (rw (bytes_same a) refl) (λ e. omega (arith, e)) in
    let b = g.begins in
    let may = may_start_next b.its_case.steps (moves a xs) (ends_of a xs) g.row.cursor step g.zs b.stands g.next in
    let same = steps_are xs t a g.row b in
    no_step_fault t a step (may_start step) g.row g.found (ap (has_text step) same ∙ may.known_step) (ap (may_start step g.row.cursor) same ∙ may.next)

finish_step_accepted : (first : ℕ) (xs : List Call) (a step : Utf8) (status : Status) (cs : List Call) (t : Table) → Tracked xs t → ComeInOrder first (xs ++ FinishStep a step status ∷ cs) → step_finish_fault t a step ≡ None
finish_step_accepted first xs a step status cs t h order =
    let g = goes_on first xs (FinishStep a step status) cs t h order a (StepFinished step) (rw (bytes_same a) refl) (λ e. omega (arith, e)) in
    let b = g.begins in
    let may = may_finish_next b.its_case.steps (moves a xs) (ends_of a xs) g.row.cursor step g.zs b.stands g.next in
    let same = steps_are xs t a g.row b in
    no_step_fault t a step (may_finish step) g.row g.found (ap (has_text step) same ∙ may.known_step) (ap (may_finish step g.row.cursor) same ∙ may.next)

end_accepted : (first : ℕ) (xs : List Call) (a : Utf8) (r : Bool) (cs : List Call) (t : Table) → Tracked xs t → ComeInOrder first (xs ++ Finish a r ∷ cs) → finish_fault t a ≡ None
end_accepted first xs a r cs t h order =
    let g = goes_on first xs (Finish a r) cs t h order a Ended (rw (bytes_same a) refl) (λ e. omega (arith, e)) in
    let b = g.begins in
    let fine = may_end_next b.its_case.steps (moves a xs) (ends_of a xs) g.row.cursor g.zs b.stands g.next in
    ap (finish_fault_at t) g.found ∙ ap (end_fault_of g.row.cursor) (steps_are xs t a g.row b) ∙ fine

next_accepted : (first : ℕ) (xs : List Call) (c : Call) (cs : List Call) (t : Table) → t.first ≡ first → Tracked xs t → ComeInOrder first (xs ++ c ∷ cs) → call_fault t c ≡ None
next_accepted first xs (AddCase id steps) cs t counts h order = case_accepted first xs id steps cs t h order
next_accepted first xs (Start id case number) cs t counts h order = start_accepted first xs id case number cs t counts h order
next_accepted first xs (StartStep a step) cs t counts h order = start_step_accepted first xs a step cs t h order
next_accepted first xs (FinishStep a step status) cs t counts h order = finish_step_accepted first xs a step status cs t h order
next_accepted first xs (Finish a r) cs t counts h order = end_accepted first xs a r cs t h order

accepted_from : (first : ℕ) (xs cs : List Call) (t : Table) → t.first ≡ first → Tracked xs t → ComeInOrder first (xs ++ cs) → is_some (table_after_calls t cs) ≡ true
accepted_from first xs [] t counts h order = refl
accepted_from first xs (c ∷ cs) t counts h order =
    let fine = next_accepted first xs c cs t counts h order in
    rw fine (accepted_from first (xs ++ c ∷ []) cs (after_call t c) (first_stays t c ∙ counts) (one_more xs t c h fine) (subst (ComeInOrder first) (sym (append_assoc xs (c ∷ []) cs)) order))

pub are_accepted : (first : ℕ) (calls : List Call) → ComeInOrder first calls → is_some (table_after first calls) ≡ true
are_accepted first calls order = accepted_from first [] calls (table_from first) refl (none_tracked first) order
