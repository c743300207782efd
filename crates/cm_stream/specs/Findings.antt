-- What a check of a line reports.
use Rattle.cm_envelope.specs.Reading.{LineFault, fault_named}
use Rattle.cm_stream.specs.declared.laws.StreamFault.{StreamFault}
use Rattle.cm_stream.specs.declared.laws.StreamFault.TheVariants as declared
use Rattle.cm_stream.specs.declared.laws.Reason.{Reason}

-- Why a stream is bad.
pub data Fault : Type 0 where
  NoEnvelope : LineFault → Fault
  DuplicateId : Fault
  DuplicateUri : Fault
  UnknownReference : Fault
  DocumentOfRefusedSource : Fault
  TreeDiffers : Fault
  PickleDiffers : Fault
  ParseErrorOfGoodSource : Fault
  CaseStepsDiffer : Fault
  AttemptNumber : Fault
  AttemptOverlap : Fault
  StepOrder : Fault
  FinishedEarly : Fault
  SecondRunStarted : Fault
  OutsideRun : Fault
  AfterRunFinished : Fault
  AttemptOpen : Fault
  SourceIncomplete : Fault
  SuccessDiffers : Fault
  NoRunFinished : Fault
  RunHookOpen : Fault
  RunHookTwice : Fault

-- what is reported of a line: it makes the stream bad, or the stream is not judged
pub data Finding : Type 0 where
  IsBad : Fault → Finding
  IsUnsupported : Reason → Finding

-- the fault that a program's answer names
abbrev pub stream_fault_named : StreamFault → Fault
stream_fault_named (declared.NoEnvelope fault) = NoEnvelope (fault_named fault)
stream_fault_named declared.DuplicateId = DuplicateId
stream_fault_named declared.DuplicateUri = DuplicateUri
stream_fault_named declared.UnknownReference = UnknownReference
stream_fault_named declared.DocumentOfRefusedSource = DocumentOfRefusedSource
stream_fault_named declared.TreeDiffers = TreeDiffers
stream_fault_named declared.PickleDiffers = PickleDiffers
stream_fault_named declared.ParseErrorOfGoodSource = ParseErrorOfGoodSource
stream_fault_named declared.CaseStepsDiffer = CaseStepsDiffer
stream_fault_named declared.AttemptNumber = AttemptNumber
stream_fault_named declared.AttemptOverlap = AttemptOverlap
stream_fault_named declared.StepOrder = StepOrder
stream_fault_named declared.FinishedEarly = FinishedEarly
stream_fault_named declared.SecondRunStarted = SecondRunStarted
stream_fault_named declared.OutsideRun = OutsideRun
stream_fault_named declared.AfterRunFinished = AfterRunFinished
stream_fault_named declared.AttemptOpen = AttemptOpen
stream_fault_named declared.SourceIncomplete = SourceIncomplete
stream_fault_named declared.SuccessDiffers = SuccessDiffers
stream_fault_named declared.NoRunFinished = NoRunFinished
stream_fault_named declared.RunHookOpen = RunHookOpen
stream_fault_named declared.RunHookTwice = RunHookTwice
