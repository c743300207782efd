-- The call on the record of attempts that an envelope makes: what is said of calls is said of envelopes through it.
use Rattle.std.specs.Prelude.{List, map, Option, Some, None}
use Rattle.std.specs.List.{filter_map}
use Rattle.cm_attempt.specs.Calls.{Call, AddCase, Start, StartStep, FinishStep, Finish}
use Rattle.cm_envelope.specs.declared.envelope.Envelope.{Envelope}
use Rattle.cm_envelope.specs.declared.envelope.Envelope.TheVariants as envelope
use Rattle.cm_stream.specs.Statuses.{kept_status}

abbrev pub call_of : Envelope → Option Call
call_of (envelope.TestCase c) = Some (AddCase c.id (map (λ s. s.id) c.test_steps))
call_of (envelope.TestCaseStarted s) = Some (Start s.id s.test_case_id s.attempt)
call_of (envelope.TestStepStarted s) = Some (StartStep s.test_case_started_id s.test_step_id)
call_of (envelope.TestStepFinished s) =
    Some (FinishStep s.test_case_started_id s.test_step_id (kept_status s.test_step_result.status))
call_of (envelope.TestCaseFinished f) = Some (Finish f.test_case_started_id f.will_be_retried)
call_of _ = None

-- the calls of a list of envelopes, in order
abbrev pub calls_of : List Envelope → List Call
calls_of es = filter_map call_of es
