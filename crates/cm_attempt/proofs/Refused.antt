-- A call is refused for what the calls before it say.
use Rattle.std.proofs.Common.{◌≡◌, ◌+◌, ℕ, refl, sym, ap, ◌∙◌, List, [], ◌∷◌, ◌++◌, Option, Some, None, true, false, Bool, not, ◌||◌, ◌==◌, length, append-nil, arith}
use Rattle.std.specs.Prelude.{is_some, slice_get, if◌then◌else◌}
use Rattle.std.specs.List.{list_any, list_all}
use Rattle.std.specs.Option.{option_map_or}
use Rattle.std.specs.Str.{bytes_eq}
use Rattle.std.proofs.lemmas.Bool.Decides.{nat_tests}
use Rattle.cm_attempt.specs.Table.{Utf8, Table, has_text, has_repeat, find_case, find_attempt, steps_of, start_fault_at, step_fault_at, step_fault_of, finish_fault_at, end_fault_of, may_start, may_finish, is_closed_to_new}
use Rattle.cm_attempt.specs.declared.track.Cursor.{Cursor}
use Rattle.cm_attempt.specs.declared.track.Last.{Last}
use Rattle.cm_attempt.specs.declared.fault.TrackFault.TheVariants as fault
use Rattle.cm_attempt.specs.Calls.{Call, AddCase, Start, StartStep, FinishStep, Finish, call_fault, StartedAttempt, declared_case, start_of, starts_of, steps_of_attempt, Move, StepStarted, StepFinished, Ended, moves, all_moves, ends_of, is_ended, is_retried}
use Rattle.cm_attempt.specs.CallFaults.{same_move, is_next_move, step_fault, fault_of, RefusedForFault}
use Rattle.cm_attempt.proofs.Growing.{at_end}
use Rattle.cm_attempt.proofs.Standing.{Stands, between, inside, over, rest_of, left_is, some_left, open_is}
use Rattle.cm_attempt.proofs.Tracked.{AttemptIs, unstarted, begun, Latest, none_yet, one_open, last_over, CaseIs, undeclared, known, Tracked}
use Rattle.cm_attempt.proofs.NextCall.{steps_are}
use Rattle.cm_attempt.proofs.Accepted.{tracked, first_is, its_steps, last_all, all_then}

-- ---- a start

not_all : (p : StartedAttempt → Bool) (ss : List StartedAttempt) (s : StartedAttempt) → p s ≡ false → list_all p (ss ++ s ∷ []) ≡ false
not_all p ss s e = go (list_all p (ss ++ s ∷ [])) refl
  where
    go : (b : Bool) → list_all p (ss ++ s ∷ []) ≡ b → list_all p (ss ++ s ∷ []) ≡ false
    go false k = k
    go true k = let yes : p s ≡ true = last_all p ss s k in cc

closed_is : (calls : List Call) (case : Utf8) (ss : List StartedAttempt) (l : Last) → Latest calls case ss l → is_closed_to_new l ≡ not (list_all (λ s. is_retried s.id calls) ss)
closed_is calls case ss l (none_yet a b) = rw (a, b) refl
closed_is calls case ss l (one_open front s cut all st cs ends e) =
    let no : is_retried s.id calls ≡ false = ap (list_any (λ r. r)) ends in
    ap is_closed_to_new e ∙ sym (ap (λ z. not (list_all (λ s. is_retried s.id calls) z)) cut ∙ ap not (not_all (λ s. is_retried s.id calls) front s no))
closed_is calls case ss l (last_over front s false cut all ends e) =
    let no : is_retried s.id calls ≡ false = ap (list_any (λ r. r)) ends in
    ap is_closed_to_new e ∙ sym (ap (λ z. not (list_all (λ s. is_retried s.id calls) z)) cut ∙ ap not (not_all (λ s. is_retried s.id calls) front s no))
closed_is calls case ss l (last_over front s true cut all ends e) =
    ap is_closed_to_new e ∙ sym (ap (λ z. not (list_all (λ s. is_retried s.id calls) z)) cut ∙ ap not (all_then calls front s all ends))

has_case : (calls : List Call) (t : Table) (case : Utf8) → CaseIs calls t case → is_some (find_case t case) ≡ is_some (declared_case case calls)
has_case calls t case (undeclared n u) = rw (n, u.no_case) refl
has_case calls t case (known row f k) = rw (f, k.is_declared) refl

has_attempt : (calls : List Call) (t : Table) (a : Utf8) → AttemptIs calls t a → is_some (find_attempt t a) ≡ is_some (start_of a calls)
has_attempt calls t a (unstarted n u) = rw (n, u.start) refl
has_attempt calls t a (begun row f b) = rw (f, b.is_start) refl

start_refused : (first : ℕ) (calls : List Call) (t : Table) → t.first ≡ first → Tracked calls t → (id case : Utf8) (number : ℕ) → CaseIs calls t case → call_fault t (Start id case number) ≡ fault_of first calls (Start id case number)
start_refused first calls t counts h id case number (undeclared n u) = rw (n, u.no_case) refl
start_refused first calls t counts h id case number (known row f k) =
    ap (start_fault_at t id number) f
    ∙ (λ i. if has_attempt calls t id (h.of_attempts id) i then Some fault.DuplicateId else (if not (number == counts i + k.count i) then Some fault.AttemptNumber else (if closed_is calls case (starts_of case calls) row.last k.latest i then Some fault.AttemptOverlap else None)))
    ∙ rw k.is_declared refl

-- ---- a step and an end

next_is : (calls : List Call) (a : Utf8) (steps : List Utf8) (rs : List Bool) (o : Option Cursor) (m : Move) → (st : Stands steps (moves a calls) rs o) → steps_of_attempt a calls ≡ steps → is_next_move m a calls ≡ option_map_or (same_move m) (slice_get (rest_of steps (moves a calls) rs o st) 0) false
next_is calls a steps rs o m st same =
    ap (λ z. option_map_or (same_move m) (slice_get z (length (moves a calls))) false) (ap all_moves same ∙ left_is steps (moves a calls) rs o st)
    ∙ ap (λ z. option_map_or (same_move m) z false) (at_end (moves a calls) (rest_of steps (moves a calls) rs o st))

here_is : (step : Utf8) (done todo : List Utf8) → option_map_or (bytes_eq step) (slice_get (done ++ todo) (length done)) false ≡ option_map_or (bytes_eq step) (slice_get todo 0) false
here_is step done todo = ap (λ z. option_map_or (bytes_eq step) z false) (at_end done todo)

start_is : (steps : List Utf8) (ms : List Move) (rs : List Bool) (o : Option Cursor) (step : Utf8) → (st : Stands steps ms rs o) → may_start step o steps ≡ option_map_or (same_move (StepStarted step)) (slice_get (rest_of steps ms rs o st) 0) false
start_is steps ms rs o step (between done [] a b c d) = rw (d, a) (here_is step done [])
start_is steps ms rs o step (between done (x ∷ more) a b c d) = rw (d, a) (here_is step done (x ∷ more))
start_is steps ms rs o step (inside done x more a b c d) = rw d refl
start_is steps ms rs o step (over r a b c) = rw c refl

finish_is : (steps : List Utf8) (ms : List Move) (rs : List Bool) (o : Option Cursor) (step : Utf8) → (st : Stands steps ms rs o) → may_finish step o steps ≡ option_map_or (same_move (StepFinished step)) (slice_get (rest_of steps ms rs o st) 0) false
finish_is steps ms rs o step (between done [] a b c d) = rw d refl
finish_is steps ms rs o step (between done (x ∷ more) a b c d) = rw d refl
finish_is steps ms rs o step (inside done x more a b c d) = rw (d, a) (here_is step done (x ∷ more))
finish_is steps ms rs o step (over r a b c) = rw c refl

step_refused : (calls : List Call) (t : Table) → Tracked calls t → (a step : Utf8) (m : Move) (may : Option Cursor → List Utf8 → Bool)
    → ((steps : List Utf8) (ms : List Move) (rs : List Bool) (o : Option Cursor) → (st : Stands steps ms rs o) → may o steps ≡ option_map_or (same_move m) (slice_get (rest_of steps ms rs o st) 0) false)
    → AttemptIs calls t a → step_fault_at t step may (find_attempt t a) ≡ step_fault calls a step m
step_refused calls t h a step m may fits (unstarted n u) = rw (n, u.start) refl
step_refused calls t h a step m may fits (begun row f b) =
    let steps = its_steps calls t h a row b in
    let same : steps_of t row.case_id ≡ steps_of_attempt a calls = steps_are calls t a row b ∙ sym steps in
    let next : may row.cursor (steps_of t row.case_id) ≡ is_next_move m a calls =
    ap (may row.cursor) (steps_are calls t a row b) ∙ fits b.its_case.steps (moves a calls) (ends_of a calls) row.cursor b.stands ∙ sym (next_is calls a b.its_case.steps (ends_of a calls) row.cursor m b.stands steps) in
    ap (step_fault_at t step may) f ∙ (λ i. step_fault_of (has_text step (same i)) (next i)) ∙ rw b.is_start refl

end_is : (steps : List Utf8) (ms : List Move) (rs : List Bool) (o : Option Cursor) → (st : Stands steps ms rs o)
    → end_fault_of o steps ≡ (if not (is_some o) then Some fault.StepOrder else (if option_map_or (same_move Ended) (slice_get (rest_of steps ms rs o st) 0) false then None else Some fault.FinishedEarly))
end_is steps ms rs o (between done [] a b c d) = let full : (length done == length (done ++ [])) ≡ true = rw append-nil (grind (arith, nat_tests)) in rw (d, a, full) refl
end_is steps ms rs o (between done (x ∷ more) a b c d) = rw (d, a, some_left done x more) refl
end_is steps ms rs o (inside done x more a b c d) = rw (d, a, some_left done x more) refl
end_is steps ms rs o (over r a b c) = rw c refl

pub not_twice : (b : Bool) → not (not b) ≡ b
not_twice true = refl
not_twice false = refl

end_refused : (first : ℕ) (calls : List Call) (t : Table) → Tracked calls t → (a : Utf8) (r : Bool) → AttemptIs calls t a → call_fault t (Finish a r) ≡ fault_of first calls (Finish a r)
end_refused first calls t h a r (unstarted n u) = rw (n, u.start) refl
end_refused first calls t h a r (begun row f b) =
    let steps = its_steps calls t h a row b in
    let ended : not (is_some row.cursor) ≡ is_ended a calls = ap not (open_is b.its_case.steps (moves a calls) (ends_of a calls) row.cursor b.stands) ∙ not_twice (is_ended a calls) in
    let next = sym (next_is calls a b.its_case.steps (ends_of a calls) row.cursor Ended b.stands steps) in
    ap (finish_fault_at t) f ∙ ap (end_fault_of row.cursor) (steps_are calls t a row b) ∙ end_is b.its_case.steps (moves a calls) (ends_of a calls) row.cursor b.stands
    ∙ (λ i. if ended i then Some fault.StepOrder else (if next i then None else Some fault.FinishedEarly)) ∙ rw b.is_start refl

-- ---- each call

pub refused_for_fault : RefusedForFault
refused_for_fault first calls t e c = go c (tracked first calls t e)
  where
    go : (c : Call) → Tracked calls t → call_fault t c ≡ fault_of first calls c
    go (AddCase id steps) h = ap (λ b. if b || has_repeat steps then Some fault.DuplicateId else None) (has_case calls t id (h.of_cases id))
    go (Start id case number) h = start_refused first calls t (first_is first calls t e) h id case number (h.of_cases case)
    go (StartStep a step) h = step_refused calls t h a step (StepStarted step) (may_start step) (λ steps ms rs o st. start_is steps ms rs o step st) (h.of_attempts a)
    go (FinishStep a step status) h = step_refused calls t h a step (StepFinished step) (may_finish step) (λ steps ms rs o st. finish_is steps ms rs o step st) (h.of_attempts a)
    go (Finish a r) h = end_refused first calls t h a r (h.of_attempts a)
