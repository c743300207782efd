-- What a record of attempts refuses, as the first failed of the checks that are its own.
use Rattle.std.specs.Prelude.{◌≡◌, ℕ, ◌+◌, ◌==◌, not, List, [], ◌∷◌, ◌++◌, Option, Some, None, length}
use Rattle.std.specs.List.{list_all}
use Rattle.std.specs.Option.{option_and_then}
use Rattle.cm_stream.specs.Texts.{Utf8}
use Rattle.cm_stream.specs.Readings.{Reading, ByTheGrammar}
use Rattle.cm_stream.specs.References.{starts_of, is_ended, is_retried}
use Rattle.cm_attempt.specs.Calls.{StepStarted, StepFinished, Ended}
use Rattle.cm_stream.specs.Checks.{Check, checks_of_by, ◌if◌, first_failed, refers_to_unknown, declares_again, is_next_move}
use Rattle.cm_attempt.specs.Table.{Table}
use Rattle.cm_attempt.specs.Calls.{call_fault}
use Rattle.cm_stream.specs.Calls.{call_of}
use Rattle.cm_stream.specs.Record.{table_of_envelopes}
use Rattle.cm_attempt.specs.declared.status.Settings.{Settings}
use Rattle.cm_stream.specs.FaultlessLines.{IsFaultlessBy}
use Rattle.cm_envelope.specs.declared.envelope.Envelope.{Envelope}
use Rattle.cm_envelope.specs.declared.envelope.Envelope.TheVariants as envelope
use Rattle.cm_stream.specs.Findings as bad
use Rattle.cm_stream.specs.Findings.{Finding, IsBad}
use Rattle.cm_attempt.specs.declared.fault.TrackFault.{TrackFault}
use Rattle.cm_attempt.specs.declared.fault.TrackFault.TheVariants as track

-- How a fault of a call is reported. Want of memory is no fault of the stream.
abbrev pub call_fault_finding : TrackFault → Option Finding
call_fault_finding track.UnknownCase = Some (IsBad bad.UnknownReference)
call_fault_finding track.UnknownAttempt = Some (IsBad bad.UnknownReference)
call_fault_finding track.UnknownStep = Some (IsBad bad.UnknownReference)
call_fault_finding track.DuplicateId = Some (IsBad bad.DuplicateId)
call_fault_finding track.AttemptNumber = Some (IsBad bad.AttemptNumber)
call_fault_finding track.AttemptOverlap = Some (IsBad bad.AttemptOverlap)
call_fault_finding track.StepOrder = Some (IsBad bad.StepOrder)
call_fault_finding track.FinishedEarly = Some (IsBad bad.FinishedEarly)
call_fault_finding track.Memory = None

-- why a table refuses the call for a line
abbrev pub call_fault_of_envelope : Table → Envelope → Option TrackFault
call_fault_of_envelope t e = option_and_then (call_fault t) (call_of e)

-- the checks of a line that its call makes, where the attempts of a case are numbered from the first number
abbrev pub own_checks : (first : ℕ) → List Envelope → Envelope → List Check
own_checks first es (envelope.TestCase c) =
    bad.DuplicateId if declares_again es (envelope.TestCase c) ∷ []
own_checks first es (envelope.TestCaseStarted s) =
    bad.UnknownReference if refers_to_unknown es (envelope.TestCaseStarted s)
    ∷ bad.DuplicateId if declares_again es (envelope.TestCaseStarted s)
    ∷ bad.AttemptNumber if not (s.attempt == first + length (starts_of s.test_case_id es))
    ∷ bad.AttemptOverlap if not (list_all (λ x. is_retried x.id es) (starts_of s.test_case_id es))
    ∷ []
own_checks first es (envelope.TestStepStarted s) =
    bad.UnknownReference if refers_to_unknown es (envelope.TestStepStarted s)
    ∷ bad.StepOrder
    if not (is_next_move (StepStarted s.test_step_id) s.test_case_started_id es) ∷ []
own_checks first es (envelope.TestStepFinished s) =
    bad.UnknownReference if refers_to_unknown es (envelope.TestStepFinished s)
    ∷ bad.StepOrder
    if not (is_next_move (StepFinished s.test_step_id) s.test_case_started_id es) ∷ []
own_checks first es (envelope.TestCaseFinished f) =
    bad.UnknownReference if refers_to_unknown es (envelope.TestCaseFinished f)
    ∷ bad.StepOrder if is_ended f.test_case_started_id es
    ∷ bad.FinishedEarly if not (is_next_move Ended f.test_case_started_id es) ∷ []
own_checks first es _ = []

-- after lines without a fault the call is refused for what the first failed of these checks reports
abbrev pub CallFaultsAreBy : (Utf8 → Reading) → Envelope → Type 0
CallFaultsAreBy read e = (settings : Settings) (es : List Envelope) → IsFaultlessBy read settings es
    → option_and_then call_fault_finding
    (call_fault_of_envelope (table_of_envelopes settings.first_attempt es) e)
    ≡ first_failed (own_checks settings.first_attempt es e)

-- that of each line
abbrev pub CallFaultsAreTold : Type 0
CallFaultsAreTold = ByTheGrammar (λ read. (e : Envelope) → CallFaultsAreBy read e)

-- they are checks of the line, one after another
pub record AreAmongChecks (read : Utf8 → Reading) (first : ℕ) (es : List Envelope)
    (e : Envelope) : Type 0 where
  pub front : List Check
  pub rest : List Check
  pub cut : checks_of_by read first es e ≡ front ++ own_checks first es e ++ rest

abbrev pub OwnAreChecks : Type 0
OwnAreChecks =
    (read : Utf8 → Reading) (first : ℕ) (es : List Envelope) (e : Envelope)
    → AreAmongChecks read first es e
