-- What the command `audit` prints of a verdict.
use Rattle.std.specs.Prelude.{ℕ, List, [], ◌∷◌, ◌++◌, Ok, codes, decimal, ◌==◌, if◌then◌else◌}
use Rattle.cm_envelope.specs.Device.{Output, Writes}
use Rattle.cm_envelope.specs.Lines.{line_feed}
use Rattle.cm_envelope.specs.Reading.{LineFault, not_json, shape, field}
use Rattle.cm_attempt.specs.declared.status.Settings.{Settings}
use Rattle.cm_stream.specs.Findings as bad
use Rattle.cm_stream.specs.Findings.{Fault, Finding, IsBad, IsUnsupported, stream_fault_named}
use Rattle.cm_stream.specs.Stream.{Answer, GoodWith, Found, Failed, IsGoodStream, NoneIsGood}
use Rattle.cm_stream.specs.declared.laws.StreamFault.{StreamFault}
use Rattle.cm_stream.specs.declared.laws.Verdict.TheVariants as verdict
use Rattle.cm_stream.specs.declared.laws.Counts.{Counts}
use Rattle.cm_stream.specs.declared.laws.Reason.{Reason}
use Rattle.cm_stream.specs.declared.laws.Reason.TheVariants as reason
use Rattle.ck_commands.specs.Output.{Report, trouble_report}
use Rattle.ck_commands.specs.declared.report.ExitStatus.{ExitStatus}
use Rattle.ck_commands.specs.declared.report.ExitStatus.TheVariants as exit

-- the number and the name of what is wrong with a line, and for a bad member its kind of envelope and its name
abbrev pub line_label : LineFault → List ℕ
line_label not_json = codes "1 NotJson"
line_label shape = codes "2 Shape"
line_label (field kind member) = codes "3 Field " ++ kind ++ codes "." ++ member

-- the number and the name of a fault
abbrev pub fault_label : Fault → List ℕ
fault_label (bad.NoEnvelope fault) = line_label fault
fault_label bad.DuplicateId = codes "4 DuplicateId"
fault_label bad.DuplicateUri = codes "5 DuplicateUri"
fault_label bad.UnknownReference = codes "6 UnknownReference"
fault_label bad.DocumentOfRefusedSource = codes "7 DocumentOfRefusedSource"
fault_label bad.TreeDiffers = codes "8 TreeDiffers"
fault_label bad.PickleDiffers = codes "9 PickleDiffers"
fault_label bad.ParseErrorOfGoodSource = codes "10 ParseErrorOfGoodSource"
fault_label bad.CaseStepsDiffer = codes "11 CaseStepsDiffer"
fault_label bad.AttemptNumber = codes "12 AttemptNumber"
fault_label bad.AttemptOverlap = codes "13 AttemptOverlap"
fault_label bad.StepOrder = codes "14 StepOrder"
fault_label bad.FinishedEarly = codes "15 FinishedEarly"
fault_label bad.SecondRunStarted = codes "16 SecondRunStarted"
fault_label bad.OutsideRun = codes "17 OutsideRun"
fault_label bad.AfterRunFinished = codes "18 AfterRunFinished"
fault_label bad.AttemptOpen = codes "19 AttemptOpen"
fault_label bad.SourceIncomplete = codes "20 SourceIncomplete"
fault_label bad.SuccessDiffers = codes "21 SuccessDiffers"
fault_label bad.NoRunFinished = codes "22 NoRunFinished"
fault_label bad.RunHookOpen = codes "23 RunHookOpen"
fault_label bad.RunHookTwice = codes "24 RunHookTwice"

abbrev pub reason_label : Reason → List ℕ
reason_label reason.Language = codes "1 Language"
reason_label reason.MediaType = codes "2 MediaType"
reason_label reason.UnknownStatus = codes "3 UnknownStatus"
reason_label reason.SourceTooLong = codes "5 SourceTooLong"

abbrev pub finding_text : ℕ → Finding → List ℕ
finding_text n (IsBad f) =
    codes "bad line " ++ decimal n ++ codes ": " ++ fault_label f ++ line_feed ∷ []
finding_text n (IsUnsupported r) =
    codes "unsupported line " ++ decimal n ++ codes ": " ++ reason_label r ++ line_feed ∷ []

-- the pickles that no case names, where there are any
abbrev pub unrun_count_text : ℕ → List ℕ
unrun_count_text n = if n == 0 then [] else (codes " unrun=" ++ decimal n)

abbrev pub plain_counts_text : Counts → List ℕ
plain_counts_text c =
    codes "good sources=" ++ decimal c.sources ++ codes " pickles=" ++ decimal c.pickles
    ++ codes " cases=" ++ decimal c.cases ++ codes " attempts=" ++ decimal c.attempts

abbrev pub counts_text : Counts → List ℕ
counts_text c = plain_counts_text c ++ unrun_count_text c.unrun ++ line_feed ∷ []

abbrev pub finding_status : Finding → ExitStatus
finding_status (IsBad f) = exit.Refused
finding_status (IsUnsupported r) = exit.Unsupported

abbrev pub finding_report : ℕ → Finding → Report
finding_report n f = record { text = finding_text n f; status = finding_status f }

abbrev pub verdict_report : Answer → Report
verdict_report (GoodWith c success) = record { text = counts_text c; status = exit.Done }
verdict_report (Found n f) = finding_report n f
verdict_report (Failed t) = trouble_report t

-- ---- what a status says of the bytes of the stream

-- the counts of a good stream were printed
abbrev pub PrintsGood : Settings → (before after : Output) → (bytes : List ℕ) → Type 0
PrintsGood settings before after bytes =
    (counts : Counts) × IsGoodStream settings bytes counts × Writes before after (counts_text counts)

-- a fault was printed that no good stream begins with
abbrev pub PrintsBad : Settings → (before after : Output) → (bytes : List ℕ) → Type 0
PrintsBad settings before after bytes =
    (n : ℕ) × (b : StreamFault) × NoneIsGood settings bytes (Ok (verdict.Bad n b))
    × Writes before after (finding_text n (IsBad (stream_fault_named b)))
