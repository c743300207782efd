-- Why a call after accepted calls is refused, by what the calls before it say.
use Rattle.std.specs.Prelude.{◌≡◌, ◌==◌, ◌+◌, ℕ, Bool, true, false, not, ◌||◌, List, Option, Some, None, is_some, length, slice_get, if◌then◌else◌}
use Rattle.std.specs.List.{list_all}
use Rattle.std.specs.Option.{option_map_or}
use Rattle.std.specs.Str.{bytes_eq}
use Rattle.cm_attempt.specs.Table.{Utf8, Table, has_text, has_repeat}
use Rattle.cm_attempt.specs.Calls.{Call, AddCase, Start, StartStep, FinishStep, Finish, call_fault, table_after, declared_case, start_of, starts_of, steps_of_attempt, Move, Started, StepStarted, StepFinished, Ended, moves, all_moves, is_ended, is_retried}
use Rattle.cm_attempt.specs.declared.fault.TrackFault.{TrackFault}
use Rattle.cm_attempt.specs.declared.fault.TrackFault.TheVariants.{UnknownCase, UnknownAttempt, UnknownStep, DuplicateId, AttemptNumber, AttemptOverlap, StepOrder, FinishedEarly}

abbrev pub same_move : Move → Move → Bool
same_move Started Started = true
same_move (StepStarted a) (StepStarted b) = bytes_eq a b
same_move (StepFinished a) (StepFinished b) = bytes_eq a b
same_move Ended Ended = true
same_move _ _ = false

-- it is what the attempt has to go through next
abbrev pub is_next_move : Move → Utf8 → List Call → Bool
is_next_move m a calls =
    option_map_or (same_move m)
    (slice_get (all_moves (steps_of_attempt a calls)) (length (moves a calls))) false

-- the first fault of a move of a step
abbrev pub step_fault : List Call → Utf8 → Utf8 → Move → Option TrackFault
step_fault calls a step m =
    if not (is_some (start_of a calls)) then Some UnknownAttempt
    else (if not (has_text step (steps_of_attempt a calls)) then Some UnknownStep
    else (if is_next_move m a calls then None else Some StepOrder))

-- the first fault of a call after these calls, where attempts are counted from the first number
abbrev pub fault_of : ℕ → List Call → Call → Option TrackFault
fault_of first calls (AddCase id steps) =
    if is_some (declared_case id calls) || has_repeat steps then Some DuplicateId else None
fault_of first calls (Start id case number) =
    if not (is_some (declared_case case calls)) then Some UnknownCase
    else (if is_some (start_of id calls) then Some DuplicateId
    else (if not (number == first + length (starts_of case calls)) then Some AttemptNumber
    else (if not (list_all (λ s. is_retried s.id calls) (starts_of case calls))
    then Some AttemptOverlap else None)))
fault_of first calls (StartStep a step) = step_fault calls a step (StepStarted step)
fault_of first calls (FinishStep a step status) = step_fault calls a step (StepFinished step)
fault_of first calls (Finish a will_be_retried) =
    if not (is_some (start_of a calls)) then Some UnknownAttempt
    else (if is_ended a calls then Some StepOrder
    else (if is_next_move Ended a calls then None else Some FinishedEarly))

-- after accepted calls a call is refused for its first fault
abbrev pub RefusedForFault : Type 0
RefusedForFault = (first : ℕ) (calls : List Call) (t : Table) → table_after first calls ≡ Some t
    → (c : Call) → call_fault t c ≡ fault_of first calls c
