-- Why an audit ends at a line, and what it reports where what it keeps refuses one.
use Rattle.std.specs.Prelude.{◌≡◌, Option, Some}
use Rattle.cm_refs.specs.declared.fault.RefFault.{RefFault}
use Rattle.cm_refs.specs.declared.fault.RefFault.TheVariants as reference
use Rattle.cm_attempt.specs.declared.fault.TrackFault.{TrackFault}
use Rattle.cm_attempt.specs.declared.fault.TrackFault.TheVariants as track
use Rattle.cm_envelope.specs.declared.fault.EnvelopeFault.{EnvelopeFault}
use Rattle.cm_envelope.specs.declared.fault.EnvelopeFault.TheVariants as line
use Rattle.cm_stream.specs.declared.laws.StreamFault.TheVariants as bad
use Rattle.cm_stream.specs.Findings.{Finding, IsBad, IsUnsupported, stream_fault_named}
use Rattle.cm_judge.specs.declared.stop.Stop.{Stop}
use Rattle.cm_judge.specs.declared.stop.Stop.TheVariants as stop

-- the finding is the reason, unless memory was refused
abbrev pub StopsFor : Option Finding → Stop → Type 0
StopsFor f (stop.Bad b) = f ≡ Some (IsBad (stream_fault_named b))
StopsFor f (stop.Unsupported r) = f ≡ Some (IsUnsupported r)
StopsFor f stop.Memory = Unit {0}

abbrev pub refused_reference : RefFault → Stop
refused_reference reference.DuplicateId = stop.Bad bad.DuplicateId
refused_reference reference.DuplicateUri = stop.Bad bad.DuplicateUri
refused_reference reference.UnknownRunHook = stop.Bad bad.UnknownReference
refused_reference reference.RunHookTwice = stop.Bad bad.RunHookTwice
refused_reference reference.Memory = stop.Memory

abbrev pub refused_call : TrackFault → Stop
refused_call track.UnknownCase = stop.Bad bad.UnknownReference
refused_call track.UnknownAttempt = stop.Bad bad.UnknownReference
refused_call track.UnknownStep = stop.Bad bad.UnknownReference
refused_call track.DuplicateId = stop.Bad bad.DuplicateId
refused_call track.AttemptNumber = stop.Bad bad.AttemptNumber
refused_call track.AttemptOverlap = stop.Bad bad.AttemptOverlap
refused_call track.StepOrder = stop.Bad bad.StepOrder
refused_call track.FinishedEarly = stop.Bad bad.FinishedEarly
refused_call track.Memory = stop.Memory

abbrev pub unread_line : EnvelopeFault → Stop
unread_line (line.Line fault) = stop.Bad (bad.NoEnvelope fault)
unread_line line.Memory = stop.Memory
