-- What an attempt has to go through next, by the envelopes so far.
use Rattle.std.specs.Prelude.{true, false, List, Option, None, Some, length, slice_get}
use Rattle.std.specs.Option.{option_and_then}
use Rattle.cm_attempt.specs.Calls.{Move, StepStarted, StepFinished, all_moves}
use Rattle.cm_attempt.specs.Due.{DueStep}
use Rattle.cm_envelope.specs.declared.envelope.Envelope.{Envelope}
use Rattle.cm_stream.specs.Checks.{steps_of_attempt}
use Rattle.cm_stream.specs.References.{moves}
use Rattle.cm_stream.specs.Texts.{Utf8}

-- the first of all that the attempt has to go through that it hasn't gone through
abbrev pub next_move : (attempt : Utf8) → List Envelope → Option Move
next_move attempt es =
    slice_get (all_moves (steps_of_attempt attempt es)) (length (moves attempt es))

-- the step that a move is of, and whether it is running before the move
abbrev pub step_in : Move → Option DueStep
step_in (StepStarted step) = Some (record { step = step; is_running = false })
step_in (StepFinished step) = Some (record { step = step; is_running = true })
step_in _ = None

-- the step that is due: none where the attempt wasn't started, has ended, or went through all steps
abbrev pub next_step : (attempt : Utf8) → List Envelope → Option DueStep
next_step attempt es = option_and_then step_in (next_move attempt es)
