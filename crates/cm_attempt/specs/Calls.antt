-- Calls of a `Track` in a row, and what they say: the cases, the attempts in order of start, and what each attempt went
-- through. The calls are the Messages' `testCase`, `testCaseStarted`, `testStepStarted`, `testStepFinished` and
-- `testCaseFinished`. Only `table_after_calls` knows a table.
use Rattle.std.specs.Prelude.{ℕ, Bool, true, false, not, List, [], ◌∷◌, ◌++◌, Option, Some, None, if◌then◌else◌, find}
use Rattle.std.specs.List.{list_any, filter, filter_map, flat_map}
use Rattle.std.specs.Option.{option_map_or, option_and_then}
use Rattle.std.specs.Str.{bytes_eq}
use Rattle.cm_attempt.specs.Table.{Utf8, Table, table_from, add_case_fault, start_fault, step_start_fault, step_finish_fault, finish_fault}
use Rattle.cm_attempt.specs.Table.{with_case, with_attempt, change_attempt, with_running_step, with_finished_step, with_finished_attempt}
use Rattle.cm_attempt.specs.Worst.{worst_of}
use Rattle.cm_attempt.specs.declared.status.Status.{Status}
use Rattle.cm_attempt.specs.declared.fault.TrackFault.{TrackFault}

pub data Call : Type 0 where
  AddCase : (id : Utf8) → (steps : List Utf8) → Call
  Start : (id test_case : Utf8) → (number : ℕ) → Call
  StartStep : (attempt step : Utf8) → Call
  FinishStep : (attempt step : Utf8) → Status → Call
  Finish : (attempt : Utf8) → (will_be_retried : Bool) → Call

-- why a table refuses a call, the first reason in order
abbrev pub call_fault : Table → Call → Option TrackFault
call_fault t (AddCase id steps) = add_case_fault t id steps
call_fault t (Start id case number) = start_fault t id case number
call_fault t (StartStep attempt step) = step_start_fault t attempt step
call_fault t (FinishStep attempt step status) = step_finish_fault t attempt step
call_fault t (Finish attempt will_be_retried) = finish_fault t attempt

-- the table after a call that isn't refused
abbrev pub after_call : Table → Call → Table
after_call t (AddCase id steps) = with_case id steps t
after_call t (Start id case number) = with_attempt id case t
after_call t (StartStep attempt step) = change_attempt attempt with_running_step t
after_call t (FinishStep attempt step status) = change_attempt attempt (with_finished_step status) t
after_call t (Finish attempt will_be_retried) = with_finished_attempt attempt will_be_retried t

abbrev pub unless_refused : Option TrackFault → Option Table → Option Table
unless_refused None left = left
unless_refused (Some fault) left = None

-- the table that the calls make of a table, and none where one of them is refused
abbrev pub table_after_calls : Table → List Call → Option Table
table_after_calls t [] = Some t
table_after_calls t (c ∷ calls) =
    unless_refused (call_fault t c) (table_after_calls (after_call t c) calls)

-- the table after the calls of a run whose attempts are counted from a number, and none where one of them is refused
abbrev pub table_after : ℕ → List Call → Option Table
table_after first calls = table_after_calls (table_from first) calls

-- ---- the cases, and the attempts in order of start

pub record DeclaredCase : Type 0 where
  pub id : Utf8
  pub steps : List Utf8

pub record StartedAttempt : Type 0 where
  pub id : Utf8
  pub case_id : Utf8
  pub number : ℕ

abbrev pub as_case : Call → Option DeclaredCase
as_case (AddCase id steps) = Some (record { id = id; steps = steps })
as_case _ = None

abbrev pub as_start : Call → Option StartedAttempt
as_start (Start id case number) = Some (record { id = id; case_id = case; number = number })
as_start _ = None

abbrev pub cases : List Call → List DeclaredCase
cases calls = filter_map as_case calls

abbrev pub starts : List Call → List StartedAttempt
starts calls = filter_map as_start calls

abbrev pub declared_case : Utf8 → List Call → Option DeclaredCase
declared_case case calls = find (λ c. bytes_eq case c.id) (cases calls)

abbrev pub start_of : Utf8 → List Call → Option StartedAttempt
start_of attempt calls = find (λ s. bytes_eq attempt s.id) (starts calls)

-- the attempts of a case, in order of start
abbrev pub starts_of : Utf8 → List Call → List StartedAttempt
starts_of case calls = filter (λ s. bytes_eq case s.case_id) (starts calls)

-- the steps of a case, and those of the case of an attempt
abbrev pub steps_of_case : Utf8 → List Call → List Utf8
steps_of_case case calls = option_map_or (λ c. c.steps) (declared_case case calls) []

abbrev pub steps_of_attempt : Utf8 → List Call → List Utf8
steps_of_attempt attempt calls =
    option_map_or (λ s. steps_of_case s.case_id calls) (start_of attempt calls) []

-- ---- what an attempt goes through

pub data Move : Type 0 where
  Started : Move
  StepStarted : Utf8 → Move
  StepFinished : Utf8 → Move
  Ended : Move

abbrev pub move_of : Utf8 → Call → Option Move
move_of a (Start id case number) = if bytes_eq a id then Some Started else None
move_of a (StartStep attempt step) = if bytes_eq a attempt then Some (StepStarted step) else None
move_of a (FinishStep attempt step status) =
    if bytes_eq a attempt then Some (StepFinished step) else None
move_of a (Finish attempt will_be_retried) = if bytes_eq a attempt then Some Ended else None
move_of a _ = None

-- what the calls that name an attempt say of it
abbrev pub moves : Utf8 → List Call → List Move
moves a calls = filter_map (move_of a) calls

-- each step started and finished
abbrev pub step_moves : List Utf8 → List Move
step_moves steps = flat_map (λ s. StepStarted s ∷ StepFinished s ∷ []) steps

-- what an attempt of a case with these steps has to go through
abbrev pub all_moves : List Utf8 → List Move
all_moves steps = Started ∷ step_moves steps ++ Ended ∷ []

abbrev pub retry_in : Utf8 → Call → Option Bool
retry_in a (Finish attempt will_be_retried) =
    if bytes_eq a attempt then Some will_be_retried else None
retry_in a _ = None

-- of each end of the attempt, whether it will be retried
abbrev pub ends_of : Utf8 → List Call → List Bool
ends_of a calls = filter_map (retry_in a) calls

abbrev pub is_end : Move → Bool
is_end Ended = true
is_end _ = false

-- it is finished
abbrev pub is_ended : Utf8 → List Call → Bool
is_ended a calls = list_any is_end (moves a calls)

-- it is finished and will be retried
abbrev pub is_retried : Utf8 → List Call → Bool
is_retried a calls = list_any (λ r. r) (ends_of a calls)

-- it is finished and won't be retried
abbrev pub is_final : Utf8 → List Call → Bool
is_final a calls = list_any not (ends_of a calls)

abbrev pub status_in : Utf8 → Call → Option Status
status_in a (FinishStep attempt step status) = if bytes_eq a attempt then Some status else None
status_in a _ = None

-- the statuses of the steps of the attempt that finished
abbrev pub statuses : Utf8 → List Call → List Status
statuses a calls = filter_map (status_in a) calls

-- ---- the result of a case

-- the last of a list
abbrev pub last_of : {A : Type 0} → List A → Option A
last_of [] = None
last_of (x ∷ []) = Some x
last_of (x ∷ y ∷ more) = last_of (y ∷ more)

-- the worst status of the attempt, where it is finished and won't be retried
abbrev pub final_status : List Call → StartedAttempt → Option Status
final_status calls s = if is_final s.id calls then Some (worst_of (statuses s.id calls)) else None

-- the worst status of the case's final attempt, which is its last, finished and not to be retried
abbrev pub result_of : Utf8 → List Call → Option Status
result_of case calls = option_and_then (final_status calls) (last_of (starts_of case calls))
