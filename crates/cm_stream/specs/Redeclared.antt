-- Hooks and step definitions that a stream declares again. The Messages ask for ids that are unique in a stream; a producer
-- that emits its hooks anew for every scenario, each by the id that it had, is judged where the settings allow it.
use Rattle.std.specs.Prelude.{◌&&◌, Bool, false, List, [], ◌∷◌, ◌++◌, Option, Some, None, Result, Ok, if◌then◌else◌}
use Rattle.cm_attempt.specs.declared.status.Settings.{Settings}
use Rattle.cm_envelope.specs.Reading.{LineFault}
use Rattle.cm_envelope.specs.declared.envelope.Envelope.{Envelope}
use Rattle.cm_envelope.specs.declared.envelope.Envelope.TheVariants as envelope
use Rattle.cm_stream.specs.Checks.{declares_again}

-- a hook, or a step definition, whose id one of these declares for the same kind
abbrev pub is_redeclared : (before : List Envelope) → Envelope → Bool
is_redeclared before (envelope.Hook h) = declares_again before (envelope.Hook h)
is_redeclared before (envelope.StepDefinition d) =
    declares_again before (envelope.StepDefinition d)
is_redeclared before _ = false

-- an attachment that names nothing: it is judged, and declares nothing and refers to nothing
abbrev pub passed_over : Envelope
passed_over = envelope.Attachment (record { test_case_started_id = None; test_step_id = None })

-- What an envelope is judged as, after these. One that is declared again is passed over where the settings allow it; each other
-- is judged as it is.
abbrev pub judged_as : Settings → (before : List Envelope) → Envelope → Envelope
judged_as settings before e =
    if is_redeclared before e && settings.allows_redeclared then passed_over else e

-- what envelopes are judged as, one after another, after these
abbrev pub judged_after : Settings → (before : List Envelope) → List Envelope → List Envelope
judged_after settings before [] = []
judged_after settings before (e ∷ es) =
    judged_as settings before e
    ∷ judged_after settings (before ++ judged_as settings before e ∷ []) es

-- what a line is judged as, where it is read so
abbrev pub line_judged_as : Settings → (before : List Envelope) → Option (Result Envelope LineFault)
    → Option (Result Envelope LineFault)
line_judged_as settings before (Some (Ok e)) = Some (Ok (judged_as settings before e))
line_judged_as settings before line = line
