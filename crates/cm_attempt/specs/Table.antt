-- What a `Track` shows, and what each call makes of it. The calls are the Messages' `testCase`,
-- `testCaseStarted`, `testStepStarted`, `testStepFinished` and `testCaseFinished`.
use Rattle.std.specs.Prelude.{◌≡◌, ◌+◌, ◌==◌, ◌&&◌, ◌||◌, ℕ, Bool, true, false, not, List, [], ◌∷◌, ◌++◌}
use Rattle.std.specs.Prelude.{length, map, Option, None, Some, is_some, if◌then◌else◌, find, slice_get}
use Rattle.std.specs.Prelude.{unwrap_or, count_by, option_map}
use Rattle.std.specs.Option.{option_map_or, option_and_then}
use Rattle.std.specs.Str.{bytes_eq}
pub use Rattle.cm_refs.specs.Declarations.{Utf8, change_first, has_repeat, has_text}
use Rattle.cm_attempt.specs.Worst.{with_status}
use Rattle.cm_attempt.specs.declared.status.Status.{Status}
use Rattle.cm_attempt.specs.declared.status.Status.TheVariants.{Passed, Skipped, Pending}
use Rattle.cm_attempt.specs.declared.status.Policy.{Policy}
use Rattle.cm_attempt.specs.declared.status.Policy.TheVariants.{Strict, PendingPasses}
use Rattle.cm_attempt.specs.declared.track.Cursor.{Cursor}
use Rattle.cm_attempt.specs.declared.track.Last.{Last}
use Rattle.cm_attempt.specs.declared.track.Last.TheVariants as last
use Rattle.cm_attempt.specs.declared.fault.TrackFault.{TrackFault}
use Rattle.cm_attempt.specs.declared.fault.TrackFault.TheVariants as fault

-- a test case, with the number of its attempts and the state of the last one
pub record CaseRow : Type 0 where
  pub id : Utf8
  pub steps : List Utf8
  pub attempts : ℕ
  pub last : Last

-- an attempt, with its cursor, which is absent once it has ended, and the worst status of its
-- finished steps, which is absent while there are none
pub record AttemptRow : Type 0 where
  pub id : Utf8
  pub case_id : Utf8
  pub cursor : Option Cursor
  pub worst : Option Status

-- the cases, the attempts in order of start, and the number of each case's first attempt
pub record Table : Type 0 where
  pub first : ℕ
  pub cases : List CaseRow
  pub attempts : List AttemptRow

-- no case yet, and attempts that are counted from a number
abbrev pub table_from : ℕ → Table
table_from first = record { first = first; cases = []; attempts = [] }

abbrev pub empty_table : Table
empty_table = table_from 0

-- ---- look-ups

-- no two cases and no two attempts have one id
pub record HasDistinctIds (t : Table) : Type 0 where
  pub of_cases : has_repeat (map (λ c. c.id) t.cases) ≡ false
  pub of_attempts : has_repeat (map (λ a. a.id) t.attempts) ≡ false

abbrev pub find_case : Table → Utf8 → Option CaseRow
find_case t id = find (λ c. bytes_eq id c.id) t.cases

abbrev pub find_attempt : Table → Utf8 → Option AttemptRow
find_attempt t id = find (λ a. bytes_eq id a.id) t.attempts

-- the steps of the case
abbrev pub steps_of : Table → Utf8 → List Utf8
steps_of t case_id = option_map_or (λ c. c.steps) (find_case t case_id) []

-- the attempt was started and its case has the step
abbrev pub has_step : Table → Utf8 → Utf8 → Bool
has_step t attempt step =
    option_map_or (λ a. has_text step (steps_of t a.case_id)) (find_attempt t attempt) false

abbrev pub status_of_last : Last → Option Status
status_of_last (last.Final status) = Some status
status_of_last _ = None

abbrev pub reported_status : Table → Utf8 → Option Status
reported_status t case_id = option_and_then (λ c. status_of_last c.last) (find_case t case_id)

abbrev pub passes_pending : Policy → Bool
passes_pending Strict = false
passes_pending PendingPasses = true

-- the status is one of the policy's good ones
abbrev pub is_good_status : Policy → Status → Bool
is_good_status policy Passed = true
is_good_status policy Skipped = true
is_good_status policy Pending = passes_pending policy
is_good_status policy _ = false

-- the case has a final attempt whose status is good
abbrev pub is_good_case : Policy → CaseRow → Bool
is_good_case policy c = option_map_or (is_good_status policy) (status_of_last c.last) false

abbrev pub open_count : Table → ℕ
open_count t = count_by (λ a. is_some a.cursor) t.attempts

-- ---- faults of a call, of which the first in order is due

abbrev pub add_case_fault : Table → Utf8 → List Utf8 → Option TrackFault
add_case_fault t id steps =
    if is_some (find_case t id) || has_repeat steps then Some fault.DuplicateId else None

-- a new attempt would be beside an open one, or after the final one
abbrev pub is_closed_to_new : Last → Bool
is_closed_to_new last.Open = true
is_closed_to_new (last.Final status) = true
is_closed_to_new _ = false

abbrev pub start_fault_at : Table → Utf8 → ℕ → Option CaseRow → Option TrackFault
start_fault_at t id number None = Some fault.UnknownCase
start_fault_at t id number (Some c) =
    if is_some (find_attempt t id) then Some fault.DuplicateId
    else (if not (number == t.first + c.attempts) then Some fault.AttemptNumber
    else (if is_closed_to_new c.last then Some fault.AttemptOverlap else None))

abbrev pub start_fault : Table → Utf8 → Utf8 → ℕ → Option TrackFault
start_fault t id case_id number = start_fault_at t id number (find_case t case_id)

-- the step is the one after those that are finished
abbrev pub is_next : Cursor → List Utf8 → Utf8 → Bool
is_next c steps step = option_map_or (bytes_eq step) (slice_get steps c.finished) false

abbrev pub may_start : Utf8 → Option Cursor → List Utf8 → Bool
may_start step cursor steps =
    option_map_or (λ c. not c.is_running && is_next c steps step) cursor false

abbrev pub may_finish : Utf8 → Option Cursor → List Utf8 → Bool
may_finish step cursor steps =
    option_map_or (λ c. c.is_running && is_next c steps step) cursor false

abbrev pub step_fault_of : Bool → Bool → Option TrackFault
step_fault_of is_known is_in_order =
    if not is_known then Some fault.UnknownStep
    else (if is_in_order then None else Some fault.StepOrder)

abbrev pub step_fault_at : Table → Utf8 → (Option Cursor → List Utf8 → Bool) → Option AttemptRow
    → Option TrackFault
step_fault_at t step is_in_order None = Some fault.UnknownAttempt
step_fault_at t step is_in_order (Some a) =
    step_fault_of (has_text step (steps_of t a.case_id))
    (is_in_order a.cursor (steps_of t a.case_id))

abbrev pub step_start_fault : Table → Utf8 → Utf8 → Option TrackFault
step_start_fault t attempt step = step_fault_at t step (may_start step) (find_attempt t attempt)

abbrev pub step_finish_fault : Table → Utf8 → Utf8 → Option TrackFault
step_finish_fault t attempt step = step_fault_at t step (may_finish step) (find_attempt t attempt)

-- an ended attempt doesn't end again, and an open one only after each step of its case
abbrev pub end_fault_of : Option Cursor → List Utf8 → Option TrackFault
end_fault_of None steps = Some fault.StepOrder
end_fault_of (Some c) steps =
    if c.finished == length steps then None else Some fault.FinishedEarly

abbrev pub finish_fault_at : Table → Option AttemptRow → Option TrackFault
finish_fault_at t None = Some fault.UnknownAttempt
finish_fault_at t (Some a) = end_fault_of a.cursor (steps_of t a.case_id)

abbrev pub finish_fault : Table → Utf8 → Option TrackFault
finish_fault t attempt = finish_fault_at t (find_attempt t attempt)

-- ---- changes

abbrev pub change_case : Utf8 → (CaseRow → CaseRow) → Table → Table
change_case id f t = record t { cases = change_first (λ c. bytes_eq id c.id) f t.cases }

abbrev pub change_attempt : Utf8 → (AttemptRow → AttemptRow) → Table → Table
change_attempt id f t = record t { attempts = change_first (λ a. bytes_eq id a.id) f t.attempts }

abbrev pub new_case : Utf8 → List Utf8 → CaseRow
new_case id steps = record { id = id; steps = steps; attempts = 0; last = last.NotStarted }

abbrev pub with_case : Utf8 → List Utf8 → Table → Table
with_case id steps t = record t { cases = t.cases ++ new_case id steps ∷ [] }

abbrev pub new_attempt : Utf8 → Utf8 → AttemptRow
new_attempt id case_id = record {
  id = id;
  case_id = case_id;
  cursor = Some (record { finished = 0; is_running = false });
  worst = None;
}

abbrev pub with_open_attempt : CaseRow → CaseRow
with_open_attempt c = record c { attempts = c.attempts + 1; last = last.Open }

abbrev pub with_attempt : Utf8 → Utf8 → Table → Table
with_attempt id case_id t =
    let changed = change_case case_id with_open_attempt t in
    record changed { attempts = t.attempts ++ new_attempt id case_id ∷ [] }

abbrev pub running_cursor : Cursor → Cursor
running_cursor c = record c { is_running = true }

abbrev pub with_running_step : AttemptRow → AttemptRow
with_running_step a = record a { cursor = option_map running_cursor a.cursor }

-- the cursor after one more finished step
abbrev pub cursor_after_step : Cursor → Cursor
cursor_after_step c = record { finished = c.finished + 1; is_running = false }

abbrev pub with_finished_step : Status → AttemptRow → AttemptRow
with_finished_step status a = record a {
  cursor = option_map cursor_after_step a.cursor;
  worst = with_status a.worst status;
}

abbrev pub ended_attempt : AttemptRow → AttemptRow
ended_attempt a = record a { cursor = None }

-- how an attempt leaves its case
abbrev pub outcome : AttemptRow → Bool → Last
outcome a true = last.Retried (unwrap_or a.worst Passed)
outcome a false = last.Final (unwrap_or a.worst Passed)

abbrev pub with_last : Last → CaseRow → CaseRow
with_last state c = record c { last = state }

abbrev pub with_finished_attempt_at : Utf8 → Bool → Option AttemptRow → Table → Table
with_finished_attempt_at attempt will_be_retried None t = t
with_finished_attempt_at attempt will_be_retried (Some a) t =
    change_attempt attempt ended_attempt
    (change_case a.case_id (with_last (outcome a will_be_retried)) t)

abbrev pub with_finished_attempt : Utf8 → Bool → Table → Table
with_finished_attempt attempt will_be_retried t =
    with_finished_attempt_at attempt will_be_retried (find_attempt t attempt) t
