-- The step that an attempt has to go through next.
use Rattle.std.specs.Prelude.{Bool, List, Option, option_map, slice_get}
use Rattle.std.specs.Option.{option_and_then}
use Rattle.cm_attempt.specs.Table.{AttemptRow, Table, Utf8, find_attempt, steps_of}
use Rattle.cm_attempt.specs.declared.track.Cursor.{Cursor}
use Rattle.cm_attempt.specs.declared.track.DueStep as made

-- A step, and whether it is running.
pub record DueStep : Type 0 where
  pub step : Utf8
  pub is_running : Bool

-- the step after those that are finished
abbrev pub due_of : Cursor → List Utf8 → Option DueStep
due_of c steps =
    option_map (λ step. record { step = step; is_running = c.is_running })
    (slice_get steps c.finished)

abbrev pub due_at : Table → AttemptRow → Option DueStep
due_at t a = option_and_then (λ c. due_of c (steps_of t a.case_id)) a.cursor

-- that of an attempt: none where it wasn't started, has ended, or went through all steps
abbrev pub due_step : Table → (attempt : Utf8) → Option DueStep
due_step t attempt = option_and_then (due_at t) (find_attempt t attempt)

-- what the code tells
abbrev pub due_view : made.DueStep → DueStep
due_view d = record { step = d.step.now; is_running = d.is_running }
