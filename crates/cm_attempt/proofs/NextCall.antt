-- What one more call that isn't refused makes of what the calls say, and of the table.
use Rattle.std.proofs.Common.{◌≡◌, ℕ, ◌+◌, refl, sym, ap, ◌∙◌, subst, List, [], ◌∷◌, ◌++◌, Option, Some, None, true, false, Bool, length, length-append, map}
use Rattle.std.specs.Prelude.{find, is_some, option_map, unwrap_or}
use Rattle.std.specs.List.{AllByRecursion}
use Rattle.std.specs.Option.{option_map_or}
use Rattle.std.specs.Str.{bytes_eq}
use Rattle.std.proofs.lemmas.List.{map-append}
use Rattle.std.proofs.lemmas.List.Folds.{find-append}
use Rattle.std.proofs.lemmas.List.Sums.{fold_push}
use Rattle.cm_attempt.specs.Table.{Utf8, CaseRow, AttemptRow, Table, has_repeat, find_case, find_attempt, steps_of, add_case_fault, start_fault, step_start_fault, step_finish_fault, finish_fault, is_closed_to_new}
use Rattle.cm_attempt.specs.Table.{may_start, may_finish, end_fault_of, change_first, change_case, change_attempt, new_case, with_case, new_attempt, with_open_attempt, with_attempt, with_running_step, running_cursor, cursor_after_step, with_finished_step, ended_attempt, outcome, with_last, with_finished_attempt, with_finished_attempt_at}
use Rattle.cm_attempt.specs.Worst.{worst_so_far, worst_of, with_status}
use Rattle.cm_attempt.specs.declared.status.Status.{Status}
use Rattle.cm_attempt.specs.declared.status.Status.TheVariants.{Passed}
use Rattle.cm_attempt.specs.declared.track.Cursor.{Cursor}
use Rattle.cm_attempt.specs.declared.track.Last.{Last}
use Rattle.cm_attempt.specs.declared.track.Last.TheVariants as last
use Rattle.cm_attempt.specs.Calls.{Call, AddCase, Start, StartStep, FinishStep, Finish, DeclaredCase, StartedAttempt, as_case, as_start, cases, starts, start_of, starts_of, Move, Started, StepStarted, StepFinished, Ended, move_of, moves, retry_in, ends_of, status_in, statuses}
use Rattle.cm_attempt.proofs.Growing.{bytes_same, bytes_are, by_id, found_more, found_push, all_push, still_found, found_new, found_past, find_all, find_passes, find_kept, found_changed, found_elsewhere, same_ids}
use Rattle.cm_attempt.proofs.IdLaws.{distinct_after_change, distinct_after_push}
use Rattle.cm_attempt.proofs.Standing.{Stands, between, step_starts, step_finishes, attempt_ends, not_over}
use Rattle.cm_attempt.proofs.Fits.{CaseFits, case_fits, StartFits, start_fits, step_fits, end_fits}
use Rattle.cm_attempt.proofs.Tracked.{is_of, Begun, AttemptIs, begun, begun_of, new_of, Retried, left_as, Latest, none_yet, one_open, last_over, known, CaseIs, known_of, undeclared_of, Tracked}
use Rattle.cm_attempt.proofs.Tracked.{start_still, declared_still, starts_both, starts_same, stands_as, KeepsSteps, keeps_same, keeps_changed, carry_attempt, still_retried, carry_case}

-- ---- a case is added

case_known : (xs : List Call) (t : Table) (id : Utf8) (steps : List Utf8) → Tracked xs t → find_case t id ≡ None → CaseIs (xs ++ AddCase id steps ∷ []) (with_case id steps t) id
case_known xs t id steps h new =
    let was = undeclared_of xs t id (h.of_cases id) new in
    let c = AddCase id steps in
    let none : starts_of id (xs ++ c ∷ []) ≡ [] = starts_same id xs c refl ∙ was.no_start in
    known (new_case id steps) (found_new (λ r. bytes_eq id r.id) t.cases (new_case id steps) new (bytes_same id)) (record {
      found = record { id = id; steps = steps };
      is_declared = ap (find (λ (d : DeclaredCase). bytes_eq id d.id)) (found_push as_case xs c (record { id = id; steps = steps }) refl) ∙ found_new (λ (d : DeclaredCase). bytes_eq id d.id) (cases xs) (record { id = id; steps = steps }) was.no_case (bytes_same id);
      steps = refl;
      count = ap length (sym none);
      latest = none_yet none refl;
    })

pub case_added : (xs : List Call) (t : Table) (id : Utf8) (steps : List Utf8) → Tracked xs t → add_case_fault t id steps ≡ None → Tracked (xs ++ AddCase id steps ∷ []) (with_case id steps t)
case_added xs t id steps h accepted = record {
  of_cases = λ case. by_id case id
      (λ k. carry_case xs c t u case (found_past (λ (r : CaseRow). bytes_eq case r.id) t.cases (new_case id steps) k) (rw k refl) refl (record { ended = λ b r e. (refl, refl); still_open = λ s st cs e. refl }) (h.of_cases case))
      (λ k. subst (CaseIs (xs ++ c ∷ []) u) (sym k) (case_known xs t id steps h fits.new));
  of_attempts = λ a. carry_attempt xs c t u a refl (λ case r e. (r, still_found (λ (x : CaseRow). bytes_eq case x.id) t.cases (new_case id steps ∷ []) r e, refl)) refl refl refl refl (h.of_attempts a);
  case_ids = map-append (λ (r : CaseRow). r.id) t.cases (new_case id steps ∷ []) ∙ ap (λ ids. ids ++ id ∷ []) h.case_ids ∙ sym (ap (map (λ (d : DeclaredCase). d.id)) (found_push as_case xs c (record { id = id; steps = steps }) refl) ∙ map-append (λ (d : DeclaredCase). d.id) (cases xs) (record { id = id; steps = steps } ∷ []));
  attempt_ids = h.attempt_ids ∙ ap (map (λ (s : StartedAttempt). s.id)) (sym (found_more as_start xs c refl));
  cases_distinct = distinct_after_push {X = CaseRow} (λ r. r.id) (new_case id steps) t.cases (t.cases ++ new_case id steps ∷ []) refl fits.new h.cases_distinct;
  attempts_distinct = h.attempts_distinct;
  steps_distinct = subst (AllByRecursion (λ (d : DeclaredCase). has_repeat d.steps ≡ false)) (sym (found_push as_case xs c (record { id = id; steps = steps }) refl)) (all_push (λ (d : DeclaredCase). has_repeat d.steps ≡ false) (cases xs) (record { id = id; steps = steps }) h.steps_distinct fits.distinct);
}
  where
    c : Call
    c = AddCase id steps

    u : Table
    u = with_case id steps t

    fits : CaseFits t id steps
    fits = case_fits t id steps accepted

-- ---- an attempt starts

abbrev start_with : Utf8 → Utf8 → ℕ → StartedAttempt
start_with id case number = record { id = id; case_id = case; number = number }

is_first : (xs : List Call) (id case : Utf8) (number : ℕ) → start_of id xs ≡ None → start_of id (xs ++ Start id case number ∷ []) ≡ Some (start_with id case number)
is_first xs id case number new = ap (find (is_of id)) (found_push as_start xs (Start id case number) (start_with id case number) refl) ∙ found_new (is_of id) (starts xs) (start_with id case number) new (bytes_same id)

-- the attempts so far are retried, and the new one is open
next_open : (xs : List Call) (id case : Utf8) (number : ℕ) → start_of id xs ≡ None → ends_of id xs ≡ [] → (l : Last) → is_closed_to_new l ≡ false → Latest xs case (starts_of case xs) l
    → Latest (xs ++ Start id case number ∷ []) case (starts_of case xs ++ start_with id case number ∷ []) last.Open
next_open xs id case number new none l closed (none_yet a b) =
    let c = Start id case number in
    one_open [] (start_with id case number) (ap (λ ss. ss ++ start_with id case number ∷ []) a) tt (is_first xs id case number new) refl (found_more (retry_in id) xs c refl ∙ none) refl
next_open xs id case number new none l closed (one_open front s cut all st cs ends e) = let no : true ≡ false = ap is_closed_to_new (sym e) ∙ closed in cc
next_open xs id case number new none l closed (last_over front s false cut all ends e) = let no : true ≡ false = ap is_closed_to_new (sym e) ∙ closed in cc
next_open xs id case number new none l closed (last_over front s true cut all ends e) =
    let c = Start id case number in
    let retried : AllByRecursion (Retried xs) (front ++ s ∷ []) = all_push (Retried xs) front s all ends in
    one_open (front ++ s ∷ []) (start_with id case number) (ap (λ ss. ss ++ start_with id case number ∷ []) cut) (still_retried xs c (λ b r k. refl) (front ++ s ∷ []) retried) (is_first xs id case number new) refl (found_more (retry_in id) xs c refl ∙ none) refl

attempt_begins : (xs : List Call) (t : Table) (id case : Utf8) (number : ℕ) → Tracked xs t → StartFits t id case number → AttemptIs (xs ++ Start id case number ∷ []) (with_attempt id case t) id
attempt_begins xs t id case number h fits =
    let c = Start id case number in
    let was = new_of xs t id (h.of_attempts id) fits.new in
    begun (new_attempt id case) (found_new (λ (r : AttemptRow). bytes_eq id r.id) t.attempts (new_attempt id case) fits.new (bytes_same id)) (record {
      start = start_with id case number;
      its_case = with_open_attempt fits.row;
      is_start = is_first xs id case number was.start;
      of_case = refl;
      has_case = found_changed (λ (r : CaseRow). r.id) with_open_attempt (λ r. refl) case t.cases ∙ ap (option_map with_open_attempt) fits.found;
      stands = between [] fits.row.steps refl (found_push (move_of id) xs c Started (rw (bytes_same id) refl) ∙ ap (λ ms. ms ++ Started ∷ []) was.moves) (found_more (retry_in id) xs c refl ∙ was.ends) refl;
      worst = ap worst_so_far (sym (found_more (status_in id) xs c refl ∙ was.statuses));
    })

case_opens : (xs : List Call) (t : Table) (id case : Utf8) (number : ℕ) → Tracked xs t → StartFits t id case number → CaseIs (xs ++ Start id case number ∷ []) (with_attempt id case t) case
case_opens xs t id case number h fits =
    let c = Start id case number in
    let was = new_of xs t id (h.of_attempts id) fits.new in
    let k = known_of xs t case fits.row (h.of_cases case) fits.found in
    let here : starts_of case (c ∷ []) ≡ start_with id case number ∷ [] = rw (bytes_same case) refl in
    let more : starts_of case (xs ++ c ∷ []) ≡ starts_of case xs ++ start_with id case number ∷ [] = starts_both case xs (c ∷ []) ∙ ap (λ ss. starts_of case xs ++ ss) here in
    known (with_open_attempt fits.row) (found_changed (λ (r : CaseRow). r.id) with_open_attempt (λ r. refl) case t.cases ∙ ap (option_map with_open_attempt) fits.found) (record {
      found = k.found;
      is_declared = declared_still case xs (c ∷ []) k.found k.is_declared;
      steps = k.steps;
      count = ap (λ n. n + 1) k.count ∙ sym (ap length more ∙ length-append (starts_of case xs) (start_with id case number ∷ []));
      latest = subst (λ ss. Latest (xs ++ c ∷ []) case ss last.Open) (sym more) (next_open xs id case number was.start was.ends fits.row.last fits.closed k.latest);
    })

pub attempt_started : (xs : List Call) (t : Table) (id case : Utf8) (number : ℕ) → Tracked xs t → start_fault t id case number ≡ None → Tracked (xs ++ Start id case number ∷ []) (with_attempt id case t)
attempt_started xs t id case number h accepted = record {
  of_cases = λ other. by_id other case
      (λ k. carry_case xs c t u other (found_elsewhere (λ (r : CaseRow). r.id) with_open_attempt (λ r. refl) other case k t.cases) refl (rw k refl) (record { ended = λ b r e. (refl, refl); still_open = λ s st cs e. refl }) (h.of_cases other))
      (λ k. subst (CaseIs (xs ++ c ∷ []) u) (sym k) (case_opens xs t id case number h fits));
  of_attempts = λ a. by_id a id
      (λ k. carry_attempt xs c t u a (found_past (λ (r : AttemptRow). bytes_eq a r.id) t.attempts (new_attempt id case) k) (keeps_changed t u case with_open_attempt (λ r. refl) (λ r. refl) refl) (rw k refl) (rw k refl) refl refl (h.of_attempts a))
      (λ k. subst (AttemptIs (xs ++ c ∷ []) u) (sym k) (attempt_begins xs t id case number h fits));
  case_ids = same_ids (λ (r : CaseRow). r.id) with_open_attempt (λ r. refl) (λ r. bytes_eq case r.id) t.cases ∙ h.case_ids ∙ ap (map (λ (d : DeclaredCase). d.id)) (sym (found_more as_case xs c refl));
  attempt_ids = map-append (λ (r : AttemptRow). r.id) t.attempts (new_attempt id case ∷ []) ∙ ap (λ ids. ids ++ id ∷ []) h.attempt_ids ∙ sym (ap (map (λ (s : StartedAttempt). s.id)) (found_push as_start xs c (start_with id case number) refl) ∙ map-append (λ (s : StartedAttempt). s.id) (starts xs) (start_with id case number ∷ []));
  cases_distinct = distinct_after_change {X = CaseRow} (λ r. r.id) (λ r. bytes_eq case r.id) with_open_attempt (λ r. refl) t.cases (change_first (λ r. bytes_eq case r.id) with_open_attempt t.cases) refl h.cases_distinct;
  attempts_distinct = distinct_after_push {X = AttemptRow} (λ r. r.id) (new_attempt id case) t.attempts (t.attempts ++ new_attempt id case ∷ []) refl fits.new h.attempts_distinct;
  steps_distinct = subst (AllByRecursion (λ (d : DeclaredCase). has_repeat d.steps ≡ false)) (sym (found_more as_case xs c refl)) h.steps_distinct;
}
  where
    c : Call
    c = Start id case number

    u : Table
    u = with_attempt id case t

    fits : StartFits t id case number
    fits = start_fits t id case number accepted

-- ---- an attempt goes on

pub steps_are : (xs : List Call) (t : Table) (a : Utf8) (row : AttemptRow) (b : Begun xs t a row) → steps_of t row.case_id ≡ b.its_case.steps
steps_are xs t a row b = ap (λ id. steps_of t id) b.of_case ∙ rw b.has_case refl

moved_on : (xs : List Call) (c : Call) (t u : Table) (a : Utf8) (row new : AttemptRow) (m : Move) → (b : Begun xs t a row) → find_attempt u a ≡ Some new → new.case_id ≡ row.case_id → KeepsSteps t u → start_of a (c ∷ []) ≡ None → move_of a c ≡ Some m
    → Stands b.its_case.steps (moves a xs ++ m ∷ []) (ends_of a (xs ++ c ∷ [])) new.cursor → new.worst ≡ worst_so_far (statuses a (xs ++ c ∷ [])) → AttemptIs (xs ++ c ∷ []) u a
moved_on xs c t u a row new m b found case_id keeps no_start moved stands worst =
    let k = keeps b.start.case_id b.its_case b.has_case in
    begun new found (record {
      start = b.start;
      its_case = k.0;
      is_start = start_still a xs (c ∷ []) b.start b.is_start;
      of_case = case_id ∙ b.of_case;
      has_case = k.1;
      stands = stands_as b.its_case.steps k.0.steps (moves a xs ++ m ∷ []) (moves a (xs ++ c ∷ [])) (ends_of a (xs ++ c ∷ [])) (ends_of a (xs ++ c ∷ [])) new.cursor new.cursor (sym k.2) (sym (found_push (move_of a) xs c m moved)) refl refl stands;
      worst = worst;
    })

-- an attempt that may go on hasn't ended
has_cursor : (P : Cursor → Bool) (o : Option Cursor) → option_map_or P o false ≡ true → is_some o ≡ true
has_cursor P None h = cc
has_cursor P (Some c) h = refl

-- a change of an attempt alone leaves the rest
changed_alone : (xs : List Call) (c : Call) (t : Table) (a : Utf8) (f : AttemptRow → AttemptRow) → ((r : AttemptRow) → (f r).id ≡ r.id) → as_case c ≡ None → as_start c ≡ None → ((b : Utf8) → bytes_eq b a ≡ false → (move_of b c ≡ None) × (status_in b c ≡ None)) → ((b : Utf8) → retry_in b c ≡ None)
    → ends_of a xs ≡ [] → Tracked xs t → AttemptIs (xs ++ c ∷ []) (change_attempt a f t) a → Tracked (xs ++ c ∷ []) (change_attempt a f t)
changed_alone xs c t a f ids no_case no_start quiet no_end open_yet h own = record {
  of_cases = λ case. carry_case xs c t u case refl (rw no_case refl) (rw no_start refl) (record { ended = λ b r e. (no_end b, by_id b a (λ k. (quiet b k).1) (λ k. absurd (not_so b r e k))); still_open = λ s st cs e. no_end s.id }) (h.of_cases case);
  of_attempts = λ b. by_id b a
      (λ k. carry_attempt xs c t u b (found_elsewhere (λ (r : AttemptRow). r.id) f ids b a k t.attempts) (keeps_same t u refl) (rw no_start refl) (quiet b k).0 (no_end b) (quiet b k).1 (h.of_attempts b))
      (λ k. subst (AttemptIs (xs ++ c ∷ []) u) (sym k) own);
  case_ids = h.case_ids ∙ ap (map (λ (d : DeclaredCase). d.id)) (sym (found_more as_case xs c no_case));
  attempt_ids = same_ids (λ (r : AttemptRow). r.id) f ids (λ r. bytes_eq a r.id) t.attempts ∙ h.attempt_ids ∙ ap (map (λ (s : StartedAttempt). s.id)) (sym (found_more as_start xs c no_start));
  cases_distinct = h.cases_distinct;
  attempts_distinct = distinct_after_change {X = AttemptRow} (λ r. r.id) (λ r. bytes_eq a r.id) f ids t.attempts (change_first (λ r. bytes_eq a r.id) f t.attempts) refl h.attempts_distinct;
  steps_distinct = subst (AllByRecursion (λ (d : DeclaredCase). has_repeat d.steps ≡ false)) (sym (found_more as_case xs c no_case)) h.steps_distinct;
}
  where
    u : Table
    u = change_attempt a f t

    not_so : (b : Utf8) (r : Bool) → ends_of b xs ≡ r ∷ [] → b ≡ a → ⊥
    not_so b r e k = let no : [] ≡ r ∷ [] = sym open_yet ∙ ap (λ z. ends_of z xs) (sym k) ∙ e in cc

pub step_started : (xs : List Call) (t : Table) (a step : Utf8) → Tracked xs t → step_start_fault t a step ≡ None → Tracked (xs ++ StartStep a step ∷ []) (change_attempt a with_running_step t)
step_started xs t a step h accepted =
    let c = StartStep a step in
    let fits = step_fits t a step (may_start step) accepted in
    let b = begun_of xs t a fits.row (h.of_attempts a) fits.found in
    let may : may_start step fits.row.cursor b.its_case.steps ≡ true = ap (may_start step fits.row.cursor) (sym (steps_are xs t a fits.row b)) ∙ fits.next in
    let stands = step_starts b.its_case.steps (moves a xs) (ends_of a xs) fits.row.cursor step b.stands may in
    let open_yet = not_over b.its_case.steps (moves a xs) (ends_of a xs) fits.row.cursor b.stands (has_cursor _ fits.row.cursor may) in
    changed_alone xs c t a with_running_step (λ r. refl) refl refl (λ b k. (rw k refl, refl)) (λ b. refl) open_yet h
    (moved_on xs c t (change_attempt a with_running_step t) a fits.row (with_running_step fits.row) (StepStarted step) b
    (found_changed (λ (r : AttemptRow). r.id) with_running_step (λ r. refl) a t.attempts ∙ ap (option_map with_running_step) fits.found) refl (keeps_same t (change_attempt a with_running_step t) refl) refl (rw (bytes_same a) refl)
    (subst (λ rs. Stands b.its_case.steps (moves a xs ++ StepStarted step ∷ []) rs (option_map running_cursor fits.row.cursor)) (sym (found_more (retry_in a) xs c refl)) stands)
    (b.worst ∙ ap worst_so_far (sym (found_more (status_in a) xs c refl))))

pub step_finished : (xs : List Call) (t : Table) (a step : Utf8) (status : Status) → Tracked xs t → step_finish_fault t a step ≡ None → Tracked (xs ++ FinishStep a step status ∷ []) (change_attempt a (with_finished_step status) t)
step_finished xs t a step status h accepted =
    let c = FinishStep a step status in
    let fits = step_fits t a step (may_finish step) accepted in
    let b = begun_of xs t a fits.row (h.of_attempts a) fits.found in
    let may : may_finish step fits.row.cursor b.its_case.steps ≡ true = ap (may_finish step fits.row.cursor) (sym (steps_are xs t a fits.row b)) ∙ fits.next in
    let stands = step_finishes b.its_case.steps (moves a xs) (ends_of a xs) fits.row.cursor step b.stands may in
    let open_yet = not_over b.its_case.steps (moves a xs) (ends_of a xs) fits.row.cursor b.stands (has_cursor _ fits.row.cursor may) in
    let told : status_in a c ≡ Some status = rw (bytes_same a) refl in
    changed_alone xs c t a (with_finished_step status) (λ r. refl) refl refl (λ b k. (rw k refl, rw k refl)) (λ b. refl) open_yet h
    (moved_on xs c t (change_attempt a (with_finished_step status) t) a fits.row (with_finished_step status fits.row) (StepFinished step) b
    (found_changed (λ (r : AttemptRow). r.id) (with_finished_step status) (λ r. refl) a t.attempts ∙ ap (option_map (with_finished_step status)) fits.found) refl (keeps_same t (change_attempt a (with_finished_step status) t) refl) refl (rw (bytes_same a) refl)
    (subst (λ rs. Stands b.its_case.steps (moves a xs ++ StepFinished step ∷ []) rs (option_map cursor_after_step fits.row.cursor)) (sym (found_more (retry_in a) xs c refl)) stands)
    (ap (λ w. with_status w status) b.worst ∙ sym (ap worst_so_far (found_push (status_in a) xs c status told) ∙ fold_push with_status None (statuses a xs) status)))

-- ---- an attempt ends

-- an open attempt of a case is its last
is_latest : (xs : List Call) (a : Utf8) (front : List StartedAttempt) (s y : StartedAttempt) → ends_of a xs ≡ [] → AllByRecursion (Retried xs) front → find (is_of a) (front ++ s ∷ []) ≡ Some y → a ≡ s.id
is_latest xs a front s y open_yet all found = go (find (is_of a) front) refl
  where
    go : (o : Option StartedAttempt) → find (is_of a) front ≡ o → a ≡ s.id
    go None e =
        let rest : find (is_of a) (s ∷ []) ≡ Some y = sym (find-append (is_of a) front (s ∷ []) ∙ rw e refl) ∙ found in
        bytes_are a s.id (here (bytes_eq a s.id) refl rest)
      where
        here : (b : Bool) → bytes_eq a s.id ≡ b → find (is_of a) (s ∷ []) ≡ Some y → bytes_eq a s.id ≡ true
        here true k f = k
        here false k f = let no : None ≡ Some y = rw k at f in cc
    go (Some x) e =
        let retried : ends_of x.id xs ≡ true ∷ [] = find_all (Retried xs) (is_of a) front x e all in
        let same : a ≡ x.id = bytes_are a x.id (find_passes (is_of a) front x e) in
        let no : [] ≡ true ∷ [] = sym open_yet ∙ ap (λ z. ends_of z xs) same ∙ retried in
        cc

outcome_is : (row : AttemptRow) (r : Bool) (ss : List Status) → row.worst ≡ worst_so_far ss → outcome row r ≡ left_as r (worst_of ss)
outcome_is row true ss e = ap (λ w. last.Retried (unwrap_or w Passed)) e
outcome_is row false ss e = ap (λ w. last.Final (unwrap_or w Passed)) e

module _ (xs : List Call) (t : Table) (a : Utf8) (r : Bool) (h : Tracked xs t) (row : AttemptRow) (found : find_attempt t a ≡ Some row) (b : Begun xs t a row) (open_yet : ends_of a xs ≡ []) where
  abbrev c : Call
  c = Finish a r

  abbrev state : Last
  state = outcome row r

  abbrev u : Table
  u = change_attempt a ended_attempt (change_case row.case_id (with_last state) t)

  told : retry_in a c ≡ Some r
  told = rw (bytes_same a) refl

  ended_once : ends_of a (xs ++ c ∷ []) ≡ r ∷ []
  ended_once = found_push (retry_in a) xs c r told ∙ ap (λ rs. rs ++ r ∷ []) open_yet

  quiet : (q : Utf8) (s : Bool) → ends_of q xs ≡ s ∷ [] → retry_in q c ≡ None
  quiet q s e = by_id q a (λ k. rw k refl) (λ k. let no : [] ≡ s ∷ [] = sym open_yet ∙ ap (λ z. ends_of z xs) (sym k) ∙ e in cc)

  case_is : find_case t row.case_id ≡ Some b.its_case
  case_is = ap (find_case t) b.of_case ∙ b.has_case

  closes : (ss : List StartedAttempt) (l : Last) → find (is_of a) ss ≡ Some b.start → Latest xs row.case_id ss l → Latest (xs ++ c ∷ []) row.case_id ss state
  closes ss l among (none_yet e k) = let no : None ≡ Some b.start = ap (find (is_of a)) (sym e) ∙ among in cc
  closes ss l among (one_open front s cut all st cs ends e) =
      let same : a ≡ s.id = is_latest xs a front s b.start open_yet all (ap (find (is_of a)) (sym cut) ∙ among) in
      last_over front s r cut (still_retried xs c quiet front all) (ap (λ z. ends_of z (xs ++ c ∷ [])) (sym same) ∙ ended_once)
      (outcome_is row r (statuses a xs) b.worst ∙ ap (λ ws. left_as r (worst_of ws)) (sym (found_more (status_in a) xs c refl)) ∙ ap (λ z. left_as r (worst_of (statuses z (xs ++ c ∷ [])))) same)
  closes ss l among (last_over front s q cut all ends e) =
      let same : a ≡ s.id = is_latest xs a front s b.start open_yet all (ap (find (is_of a)) (sym cut) ∙ among) in
      let no : [] ≡ q ∷ [] = sym open_yet ∙ ap (λ z. ends_of z xs) same ∙ ends in
      cc

  case_closes : CaseIs (xs ++ c ∷ []) u row.case_id
  case_closes =
      let k = known_of xs t row.case_id b.its_case (h.of_cases row.case_id) case_is in
      let same = starts_same row.case_id xs c refl in
      let its : bytes_eq row.case_id b.start.case_id ≡ true = ap (bytes_eq row.case_id) (sym b.of_case) ∙ bytes_same row.case_id in
      let among = find_kept (λ (s : StartedAttempt). bytes_eq row.case_id s.case_id) (is_of a) (starts xs) b.start b.is_start its in
      known (with_last state b.its_case) (found_changed (λ (x : CaseRow). x.id) (with_last state) (λ x. refl) row.case_id t.cases ∙ ap (option_map (with_last state)) case_is) (record {
        found = k.found;
        is_declared = declared_still row.case_id xs (c ∷ []) k.found k.is_declared;
        steps = k.steps;
        count = k.count ∙ ap length (sym same);
        latest = subst (λ ss. Latest (xs ++ c ∷ []) row.case_id ss state) (sym same) (closes (starts_of row.case_id xs) b.its_case.last among k.latest);
      })

  still_open : (case : Utf8) → bytes_eq case row.case_id ≡ false → (s : StartedAttempt) → start_of s.id xs ≡ Some s → s.case_id ≡ case → retry_in s.id c ≡ None
  still_open case differ s st cs = by_id s.id a (λ k. rw k refl) (λ k.
      let both : Some s ≡ Some b.start = sym st ∙ ap (λ z. start_of z xs) k ∙ b.is_start in
      let same : s ≡ b.start = cc in
      let yes : bytes_eq case row.case_id ≡ true = ap (bytes_eq case) (b.of_case ∙ ap (λ z. z.case_id) (sym same) ∙ cs) ∙ bytes_same case in
      cc)

  -- the attempt is open, and its end is accepted
  pub ends_now : (ends : end_fault_of row.cursor (steps_of t row.case_id) ≡ None) → Tracked (xs ++ Finish a r ∷ []) (change_attempt a ended_attempt (change_case row.case_id (with_last (outcome row r)) t))
  ends_now ends =
      let fine : end_fault_of row.cursor b.its_case.steps ≡ None = ap (end_fault_of row.cursor) (sym (steps_are xs t a row b)) ∙ ends in
      let stands = attempt_ends b.its_case.steps (moves a xs) (ends_of a xs) row.cursor b.stands fine r in
      let keeps = keeps_changed t u row.case_id (with_last state) (λ x. refl) (λ x. refl) refl in
      record {
        of_cases = λ case. by_id case row.case_id
            (λ k. carry_case xs c t u case (found_elsewhere (λ (x : CaseRow). x.id) (with_last state) (λ x. refl) case row.case_id k t.cases) refl refl (record { ended = λ q s e. (quiet q s e, refl); still_open = λ s st cs e. still_open case k s st cs }) (h.of_cases case))
            (λ k. subst (CaseIs (xs ++ c ∷ []) u) (sym k) case_closes);
        of_attempts = λ q. by_id q a
            (λ k. carry_attempt xs c t u q (found_elsewhere (λ (x : AttemptRow). x.id) ended_attempt (λ x. refl) q a k t.attempts) keeps refl (rw k refl) (rw k refl) refl (h.of_attempts q))
            (λ k. subst (AttemptIs (xs ++ c ∷ []) u) (sym k)
            (moved_on xs c t u a row (ended_attempt row) Ended b (found_changed (λ (x : AttemptRow). x.id) ended_attempt (λ x. refl) a t.attempts ∙ ap (option_map ended_attempt) found) refl keeps refl (rw (bytes_same a) refl)
            (subst (λ rs. Stands b.its_case.steps (moves a xs ++ Ended ∷ []) rs None) (sym (found_push (retry_in a) xs c r told)) stands)
            (b.worst ∙ ap worst_so_far (sym (found_more (status_in a) xs c refl)))));
        case_ids = same_ids (λ (x : CaseRow). x.id) (with_last state) (λ x. refl) (λ x. bytes_eq row.case_id x.id) t.cases ∙ h.case_ids ∙ ap (map (λ (d : DeclaredCase). d.id)) (sym (found_more as_case xs c refl));
        attempt_ids = same_ids (λ (x : AttemptRow). x.id) ended_attempt (λ x. refl) (λ x. bytes_eq a x.id) t.attempts ∙ h.attempt_ids ∙ ap (map (λ (s : StartedAttempt). s.id)) (sym (found_more as_start xs c refl));
        cases_distinct = distinct_after_change {X = CaseRow} (λ x. x.id) (λ x. bytes_eq row.case_id x.id) (with_last state) (λ x. refl) t.cases (change_first (λ x. bytes_eq row.case_id x.id) (with_last state) t.cases) refl h.cases_distinct;
        attempts_distinct = distinct_after_change {X = AttemptRow} (λ x. x.id) (λ x. bytes_eq a x.id) ended_attempt (λ x. refl) t.attempts (change_first (λ x. bytes_eq a x.id) ended_attempt t.attempts) refl h.attempts_distinct;
        steps_distinct = subst (AllByRecursion (λ (d : DeclaredCase). has_repeat d.steps ≡ false)) (sym (found_more as_case xs c refl)) h.steps_distinct;
      }

can_end : (o : Option Cursor) (steps : List Utf8) → end_fault_of o steps ≡ None → is_some o ≡ true
can_end None steps h = cc
can_end (Some c) steps h = refl

pub attempt_finished : (xs : List Call) (t : Table) (a : Utf8) (r : Bool) → Tracked xs t → finish_fault t a ≡ None → Tracked (xs ++ Finish a r ∷ []) (with_finished_attempt a r t)
attempt_finished xs t a r h accepted =
    let fits = end_fits t a accepted in
    let b = begun_of xs t a fits.row (h.of_attempts a) fits.found in
    let open_yet = not_over b.its_case.steps (moves a xs) (ends_of a xs) fits.row.cursor b.stands (can_end fits.row.cursor (steps_of t fits.row.case_id) fits.ends) in
    subst (Tracked (xs ++ Finish a r ∷ [])) (sym (ap (λ o. with_finished_attempt_at a r o t) fits.found)) (ends_now xs t a r h fits.row fits.found b open_yet fits.ends)
