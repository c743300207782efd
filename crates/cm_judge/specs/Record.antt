-- What the record of attempts answers to an envelope.
use Rattle.std.specs.Prelude.{⊤, Option, Result}
use Rattle.cm_envelope.specs.declared.envelope.Envelope.{Envelope}
use Rattle.cm_envelope.specs.declared.envelope.Envelope.TheVariants as envelope
use Rattle.cm_refs.specs.Due.{RefusesExactly, RefusesExactlyUnless, RefusesUnless}
use Rattle.cm_attempt.specs.declared.fault.TrackFault.{TrackFault}
use Rattle.cm_attempt.specs.declared.fault.TrackFault.TheVariants.{Memory}

-- The answer is the refusal, where there is one, and else Ok. A test case and the start of an attempt take memory, and Memory
-- may come in place of Ok. Equal steps of a test case are found with memory, so for it Memory may come in place of a refusal.
abbrev pub AnswersRefusal : Envelope → Option TrackFault → Result ⊤ TrackFault → Type 0
AnswersRefusal (envelope.TestCase case) refusal result = RefusesUnless refusal result Memory
AnswersRefusal (envelope.TestCaseStarted started) refusal result =
    RefusesExactlyUnless refusal result Memory
AnswersRefusal _ refusal result = RefusesExactly refusal result
