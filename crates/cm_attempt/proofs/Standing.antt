-- How far an attempt has come in what it has to go through, and what its cursor lets it do next.
use Rattle.std.proofs.Common.{◌≡◌, ℕ, refl, sym, ap, ◌∙◌, List, [], ◌∷◌, ◌++◌, Option, Some, None, true, false, Bool, not, ◌==◌, length, length-append, append-nil, append_assoc, arith}
use Rattle.std.specs.Prelude.{slice_get, is_some, option_map}
use Rattle.std.specs.List.{list_any}
use Rattle.std.specs.Option.{option_map_or}
use Rattle.std.specs.Str.{bytes_eq}
use Rattle.std.proofs.lemmas.Bool.Decides.{nat_tests}
use Rattle.std.proofs.lemmas.Grind.{flat_map-append}
use Rattle.std.proofs.lemmas.List.Folds.{list_any-append}
use Rattle.cm_attempt.specs.Table.{Utf8, running_cursor, cursor_after_step, may_start, may_finish, end_fault_of}
use Rattle.cm_attempt.specs.declared.track.Cursor.{Cursor}
use Rattle.cm_attempt.specs.declared.fault.TrackFault.TheVariants as fault
use Rattle.cm_attempt.specs.Calls.{Move, Started, StepStarted, StepFinished, Ended, step_moves, all_moves, is_end}
use Rattle.cm_attempt.specs.CallLaws.{IsFront}
use Rattle.cm_attempt.proofs.Growing.{at_end, bytes_are}

abbrev pub cursor_at : ℕ → Bool → Cursor
cursor_at finished is_running = record { finished = finished; is_running = is_running }

-- Where an attempt of a case with these steps is after these moves and ends: between two steps, in one, or at its end.
pub data Stands (steps : List Utf8) (ms : List Move) (rs : List Bool) (o : Option Cursor) : Type 0 where
  between : (done todo : List Utf8) → steps ≡ done ++ todo → ms ≡ Started ∷ step_moves done → rs ≡ [] → o ≡ Some (cursor_at (length done) false) → Stands steps ms rs o
  inside : (done : List Utf8) (s : Utf8) (todo : List Utf8) → steps ≡ done ++ s ∷ todo → ms ≡ Started ∷ step_moves done ++ StepStarted s ∷ [] → rs ≡ [] → o ≡ Some (cursor_at (length done) true) → Stands steps ms rs o
  over : (r : Bool) → ms ≡ all_moves steps → rs ≡ r ∷ [] → o ≡ None → Stands steps ms rs o

-- ---- the next call

pub step_starts : (steps : List Utf8) (ms : List Move) (rs : List Bool) (o : Option Cursor) (step : Utf8) → Stands steps ms rs o → may_start step o steps ≡ true → Stands steps (ms ++ StepStarted step ∷ []) rs (option_map running_cursor o)
step_starts steps ms rs o step (between done todo a b c d) h = go todo a next
  where
    all : option_map_or (bytes_eq step) (slice_get (done ++ todo) (length done)) false ≡ true
    all = rw (d, a) at h

    next : option_map_or (bytes_eq step) (slice_get todo 0) false ≡ true
    next = sym (ap (λ z. option_map_or (bytes_eq step) z false) (at_end done todo)) ∙ all

    go : (todo : List Utf8) → steps ≡ done ++ todo → option_map_or (bytes_eq step) (slice_get todo 0) false ≡ true → Stands steps (ms ++ StepStarted step ∷ []) rs (option_map running_cursor o)
    go [] e k = cc
    go (x ∷ more) e k = inside done step more (e ∙ ap (λ z. done ++ z ∷ more) (sym (bytes_are step x k))) (ap (λ z. z ++ StepStarted step ∷ []) b) c (ap (option_map running_cursor) d)
step_starts steps ms rs o step (inside done x todo a b c d) h = let no : false ≡ true = rw d at h in cc
step_starts steps ms rs o step (over r a b c) h = let no : false ≡ true = rw c at h in cc

pub step_finishes : (steps : List Utf8) (ms : List Move) (rs : List Bool) (o : Option Cursor) (step : Utf8) → Stands steps ms rs o → may_finish step o steps ≡ true → Stands steps (ms ++ StepFinished step ∷ []) rs (option_map cursor_after_step o)
step_finishes steps ms rs o step (between done todo a b c d) h = let no : false ≡ true = rw d at h in cc
step_finishes steps ms rs o step (inside done x todo a b c d) h =
    let all : option_map_or (bytes_eq step) (slice_get (done ++ x ∷ todo) (length done)) false ≡ true = rw (d, a) at h in
    let next : bytes_eq step x ≡ true = sym (ap (λ z. option_map_or (bytes_eq step) z false) (at_end done (x ∷ todo))) ∙ all in
    let gone : step_moves (done ++ x ∷ []) ≡ step_moves done ++ StepStarted x ∷ StepFinished x ∷ [] = flat_map-append (λ s. StepStarted s ∷ StepFinished s ∷ []) done (x ∷ []) in
    between (done ++ x ∷ []) todo
    (a ∙ sym (append_assoc done (x ∷ []) todo))
    (ap (λ z. z ++ StepFinished step ∷ []) b ∙ ap (λ z. Started ∷ z) (append_assoc (step_moves done) (StepStarted x ∷ []) (StepFinished step ∷ []) ∙ ap (λ z. step_moves done ++ StepStarted x ∷ StepFinished z ∷ []) (bytes_are step x next) ∙ sym gone))
    c
    (ap (option_map cursor_after_step) d ∙ ap (λ n. Some (cursor_at n false)) (sym (length-append done (x ∷ []))))
step_finishes steps ms rs o step (over r a b c) h = let no : false ≡ true = rw c at h in cc

pub some_left : (done : List Utf8) (s : Utf8) (more : List Utf8) → (length done == length (done ++ s ∷ more)) ≡ false
some_left done s more = let long = length-append done (s ∷ more) in grind (arith, nat_tests, long)

refused_early : (n : ℕ) (b : Bool) (steps : List Utf8) → (n == length steps) ≡ false → end_fault_of (Some (cursor_at n b)) steps ≡ Some fault.FinishedEarly
refused_early n b steps e = rw e refl

pub attempt_ends : (steps : List Utf8) (ms : List Move) (rs : List Bool) (o : Option Cursor) → Stands steps ms rs o → end_fault_of o steps ≡ None → (r : Bool) → Stands steps (ms ++ Ended ∷ []) (rs ++ r ∷ []) None
attempt_ends steps ms rs o (between done [] a b c d) h r =
    over r (ap (λ z. z ++ Ended ∷ []) b ∙ ap (λ z. all_moves z) (sym (append-nil done) ∙ sym a)) (ap (λ z. z ++ r ∷ []) c) refl
attempt_ends steps ms rs o (between done (x ∷ more) a b c d) h r =
    let no : Some fault.FinishedEarly ≡ None = sym (ap (λ z. end_fault_of z steps) d ∙ ap (end_fault_of (Some (cursor_at (length done) false))) a ∙ refused_early (length done) false (done ++ x ∷ more) (some_left done x more)) ∙ h in
    cc
attempt_ends steps ms rs o (inside done x more a b c d) h r =
    let no : Some fault.FinishedEarly ≡ None = sym (ap (λ z. end_fault_of z steps) d ∙ ap (end_fault_of (Some (cursor_at (length done) true))) a ∙ refused_early (length done) true (done ++ x ∷ more) (some_left done x more)) ∙ h in
    cc
attempt_ends steps ms rs o (over s a b c) h r = let no : Some fault.StepOrder ≡ None = rw c at h in cc

-- what has a cursor isn't at its end
pub not_over : (steps : List Utf8) (ms : List Move) (rs : List Bool) (o : Option Cursor) → Stands steps ms rs o → is_some o ≡ true → rs ≡ []
not_over steps ms rs o (between done todo a b c d) h = c
not_over steps ms rs o (inside done x todo a b c d) h = c
not_over steps ms rs o (over r a b c) h = let no : false ≡ true = rw c at h in cc

-- ---- the whole of it

-- what is left of it
abbrev pub rest_of : (steps : List Utf8) (ms : List Move) (rs : List Bool) (o : Option Cursor) → Stands steps ms rs o → List Move
rest_of steps ms rs o (between done todo a b c d) = step_moves todo ++ Ended ∷ []
rest_of steps ms rs o (inside done x todo a b c d) = StepFinished x ∷ (step_moves todo ++ Ended ∷ [])
rest_of steps ms rs o (over r a b c) = []

pub left_is : (steps : List Utf8) (ms : List Move) (rs : List Bool) (o : Option Cursor) → (st : Stands steps ms rs o) → all_moves steps ≡ ms ++ rest_of steps ms rs o st
left_is steps ms rs o (between done todo a b c d) =
    ap all_moves a ∙ ap (λ z. Started ∷ z ++ Ended ∷ []) (flat_map-append (λ s. StepStarted s ∷ StepFinished s ∷ []) done todo) ∙ ap (λ z. Started ∷ z) (append_assoc (step_moves done) (step_moves todo) (Ended ∷ [])) ∙ ap (λ z. z ++ (step_moves todo ++ Ended ∷ [])) (sym b)
left_is steps ms rs o (inside done x todo a b c d) =
    ap all_moves a ∙ ap (λ z. Started ∷ z ++ Ended ∷ []) (flat_map-append (λ s. StepStarted s ∷ StepFinished s ∷ []) done (x ∷ todo)) ∙ ap (λ z. Started ∷ z) (append_assoc (step_moves done) (step_moves (x ∷ todo)) (Ended ∷ []) ∙ sym (append_assoc (step_moves done) (StepStarted x ∷ []) (StepFinished x ∷ (step_moves todo ++ Ended ∷ []))))
    ∙ ap (λ z. z ++ (StepFinished x ∷ (step_moves todo ++ Ended ∷ []))) (sym b)
left_is steps ms rs o (over r a b c) = sym a ∙ sym (append-nil ms)

pub left_of : (steps : List Utf8) (ms : List Move) (rs : List Bool) (o : Option Cursor) → Stands steps ms rs o → IsFront ms (all_moves steps)
left_of steps ms rs o st = (rest_of steps ms rs o st, left_is steps ms rs o st)

no_end : (steps : List Utf8) → list_any is_end (step_moves steps) ≡ false
no_end [] = refl
no_end (s ∷ steps) = no_end steps

or_end : (b : Bool) → b ≡ false → (ms : List Move) → list_any is_end ms ≡ b → list_any is_end (ms ++ Ended ∷ []) ≡ true
or_end b e ms k = list_any-append is_end ms (Ended ∷ []) ∙ rw (k ∙ e) refl

-- its cursor is there as long as it hasn't ended
pub open_is : (steps : List Utf8) (ms : List Move) (rs : List Bool) (o : Option Cursor) → Stands steps ms rs o → is_some o ≡ not (list_any is_end ms)
open_is steps ms rs o (between done todo a b c d) = ap is_some d ∙ sym (ap (λ z. not (list_any is_end z)) b ∙ ap not (no_end done))
open_is steps ms rs o (inside done x todo a b c d) =
    let none : list_any is_end (step_moves done ++ StepStarted x ∷ []) ≡ false = list_any-append is_end (step_moves done) (StepStarted x ∷ []) ∙ rw (no_end done) refl in
    ap is_some d ∙ sym (ap (λ z. not (list_any is_end z)) b ∙ ap not none)
open_is steps ms rs o (over r a b c) = ap is_some c ∙ sym (ap (λ z. not (list_any is_end z)) a ∙ ap not (or_end false refl (Started ∷ step_moves steps) (no_end steps)))

-- what has ended went through the whole, and ended once
pub whole_if_ended : (steps : List Utf8) (ms : List Move) (rs : List Bool) (o : Option Cursor) → Stands steps ms rs o → list_any is_end ms ≡ true → (ms ≡ all_moves steps) × (length rs ≡ 1)
whole_if_ended steps ms rs o (between done todo a b c d) h = let no : true ≡ false = sym h ∙ ap (list_any is_end) b ∙ no_end done in cc
whole_if_ended steps ms rs o (inside done x todo a b c d) h =
    let none : list_any is_end (step_moves done ++ StepStarted x ∷ []) ≡ false = list_any-append is_end (step_moves done) (StepStarted x ∷ []) ∙ rw (no_end done) refl in
    let no : true ≡ false = sym h ∙ ap (list_any is_end) b ∙ none in
    cc
whole_if_ended steps ms rs o (over r a b c) h = (a, ap length b)
