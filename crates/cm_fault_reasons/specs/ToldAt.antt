-- What is told of the line that decides, beside the answer.
use Rattle.std.specs.Prelude.{◌≡◌, ℕ, List, [], ◌∷◌, ◌++◌, Option, Some, None, option_map}
use Rattle.cm_attempt.specs.declared.status.Settings.{Settings}
use Rattle.cm_envelope.specs.declared.envelope.Envelope.{Envelope}
use Rattle.cm_envelope.specs.declared.envelope.Envelope.TheVariants as envelope
use Rattle.cm_stream.specs.Findings as bad
use Rattle.cm_stream.specs.Findings.{Finding, IsBad, IsUnsupported}
use Rattle.cm_stream.specs.Readings.{Reading}
use Rattle.cm_stream.specs.Texts.{Utf8}
use Rattle.cm_stream.specs.declared.laws.Reason.{Reason}
use Rattle.cm_stream.specs.declared.laws.Reason.TheVariants as reason
use Rattle.cm_stream.specs.declared.laws.StreamFault.TheVariants as fault
use Rattle.cm_source_reasons.specs.SourceReasons.{IsSourceReason}
use Rattle.cm_fault_reasons.specs.AttemptLines.{declared_lines, due_number, number_lines, order_lines, started_lines, status_lines}
use Rattle.cm_fault_reasons.specs.Duplicate.{first_duplicate}
use Rattle.cm_fault_reasons.specs.NextMove.{next_step}
use Rattle.cm_fault_reasons.specs.RunLines.{IsRefusedAt, IsTruthAt, ended_hook_lines, hook_open_lines, open_case_lines}
use Rattle.cm_fault_reasons.specs.Unknown.{ToldName, first_unknown, told_lines, told_uri}

-- ---- a uri, or an id

-- the uri of the feature file that an envelope is of
abbrev pub uri_of : Envelope → Option Utf8
uri_of (envelope.Source s) = Some s.uri
uri_of (envelope.GherkinDocument d) = Some d.uri
uri_of (envelope.ParseError p) = Some p.source.uri
uri_of (envelope.Pickle p) = Some p.uri
uri_of _ = None

abbrev pub told_uri_of : Envelope → Option ToldName
told_uri_of e = option_map told_uri (uri_of e)

-- what is told of an envelope after these that has the finding: the uri, the first reference that isn't declared, or the id that
-- is declared again
abbrev pub told_at : (before : List Envelope) → Envelope → Finding → Option ToldName
told_at before e (IsBad bad.DuplicateUri) = told_uri_of e
told_at before e (IsBad bad.ParseErrorOfGoodSource) = told_uri_of e
told_at before e (IsBad bad.UnknownReference) = first_unknown before e
told_at before e (IsBad bad.DuplicateId) = first_duplicate before e
told_at before e _ = None

-- ---- all that is told

-- of an envelope that shows why a stream isn't judged
abbrev pub reason_lines : Reason → (upto : List Envelope) → Envelope → List ℕ
reason_lines reason.UnknownStatus upto e = status_lines upto e
reason_lines _ upto e = told_lines (told_uri_of e)

-- the lines of an envelope after these that has the finding: of its test case, attempt, steps or run hooks, or else its uri or id
abbrev pub lines_at : Settings → (before : List Envelope) → Envelope → Finding → List ℕ
lines_at settings before e (IsBad bad.CaseStepsDiffer) = declared_lines (before ++ e ∷ []) e
lines_at settings before e (IsBad bad.AttemptNumber) =
    number_lines (due_number settings.first_attempt before) (before ++ e ∷ []) e
lines_at settings before e (IsBad bad.AttemptOverlap) = started_lines (before ++ e ∷ []) e
lines_at settings before e (IsBad bad.StepOrder) =
    order_lines (λ attempt. next_step attempt before) (before ++ e ∷ []) e
lines_at settings before e (IsBad bad.FinishedEarly) =
    order_lines (λ attempt. next_step attempt before) (before ++ e ∷ []) e
lines_at settings before e (IsBad bad.AttemptOpen) = open_case_lines (before ++ e ∷ [])
lines_at settings before e (IsBad bad.RunHookOpen) = hook_open_lines (before ++ e ∷ [])
lines_at settings before e (IsBad bad.RunHookTwice) = ended_hook_lines (before ++ e ∷ []) e
lines_at settings before e (IsUnsupported r) = reason_lines r (before ++ e ∷ []) e
lines_at settings before e f = told_lines (told_at before e f)

-- the text that is told of an envelope after these that has the finding, where sources' texts are read so
abbrev pub IsTold : (read : Utf8 → Reading) → Settings → (before : List Envelope) → Envelope
    → Finding → (text : List ℕ) → Type 0
IsTold read settings before e (IsBad bad.DocumentOfRefusedSource) text =
    IsRefusedAt (before ++ e ∷ []) e text
IsTold read settings before e (IsBad bad.TreeDiffers) text =
    IsSourceReason read before e fault.TreeDiffers text
IsTold read settings before e (IsBad bad.PickleDiffers) text =
    IsSourceReason read before e fault.PickleDiffers text
IsTold read settings before e (IsBad bad.SourceIncomplete) text =
    IsSourceReason read before e fault.SourceIncomplete text
IsTold read settings before e (IsBad bad.SuccessDiffers) text =
    IsTruthAt settings.policy (before ++ e ∷ []) e text
IsTold read settings before e f text = text ≡ lines_at settings before e f
