-- What the bytes of a source are as a feature file, and what is printed of it.
use Rattle.std.specs.Prelude.{◌≡◌, ◌<◌, ◌≤◌, ◌⊎◌, ⊤, ℕ, List, [], ◌∷◌, ◌++◌, length, Bool, true, false, Result, Ok, Err, codes, decimal}
use Rattle.std.specs.Str.{IsUtf8}
use Rattle.cm_envelope.specs.Lines.{line_feed}
use Rattle.cm_reasons.specs.Words.{kind_label}
use Rattle.gk_grammar.specs.Documents.{IsDocumentOf, HasFault, IsTooLong, max_bytes}
use Rattle.gk_grammar.specs.Tree.{Document}
use Rattle.gk_grammar.specs.declared.fault.FaultKind.{FaultKind}
use Rattle.gk_grammar.specs.declared.fault.FaultKind.TheVariants as kind
use Rattle.gk_tree.specs.Views.{too_long}
use Rattle.gk_tree.specs.declared.fault.ParseFault.{ParseFault}
use Rattle.ck_commands.specs.Output.{Report, trouble_text}
use Rattle.ck_commands.specs.declared.report.ExitStatus.TheVariants as exit
use Rattle.ck_commands.specs.declared.text_input.TextFault.{TextFault}
use Rattle.ck_commands.specs.declared.text_input.TextFault.TheVariants as text
use Rattle.ck_commands.specs.declared.command_feature.FeatureFault.{FeatureFault}
use Rattle.ck_commands.specs.declared.command_feature.FeatureFault.TheVariants.{Refused, ReadFailed, NotUtf8, Memory}

-- ---- what the bytes are

-- a text that isn't too long
pub record IsReadableText (bytes : List ℕ) : Type 0 where
  pub utf8 : IsUtf8 bytes
  pub short : IsTooLong bytes → ⊥

-- more bytes than a text may have, or a text that is too long
abbrev pub HasTooMany : List ℕ → Type 0
HasTooMany bytes = (max_bytes < length bytes) ⊎ (IsUtf8 bytes × IsTooLong bytes)

-- few enough, but no text
abbrev pub IsNoText : List ℕ → Type 0
IsNoText bytes = (length bytes ≤ max_bytes) × (IsUtf8 bytes → ⊥)

-- why a feature file is refused: it is too long, or its text has the fault
abbrev pub IsRefusedFeature : List ℕ → ParseFault → Type 0
IsRefusedFeature bytes f =
    (HasTooMany bytes × (f ≡ too_long))
    ⊎ (IsReadableText bytes × HasFault bytes f.kind f.line f.column)

-- Why the bytes give no document, where they could all be read. Memory may be refused of any.
abbrev pub IsFaultOf : List ℕ → FeatureFault → Type 0
IsFaultOf bytes (Refused f) = IsRefusedFeature bytes f
IsFaultOf bytes NotUtf8 = IsNoText bytes
IsFaultOf bytes ReadFailed = ⊥
IsFaultOf bytes Memory = ⊤

-- what the bytes are, where they could all be read
abbrev pub IsFeatureOf : List ℕ → Result Document FeatureFault → Type 0
IsFeatureOf bytes (Ok d) = IsReadableText bytes × IsDocumentOf bytes d
IsFeatureOf bytes (Err fault) = IsFaultOf bytes fault

-- ---- what is printed of it

-- `refused L:C N Name`
abbrev pub refused_text : ParseFault → List ℕ
refused_text f =
    codes "refused " ++ decimal f.line ++ codes ":" ++ decimal f.column ++ codes " "
    ++ kind_label f.kind ++ line_feed ∷ []

-- `ok nodes=N comments=C`
abbrev pub document_text : Document → List ℕ
document_text d =
    codes "ok nodes=" ++ decimal d.nodes ++ codes " comments=" ++ decimal (length d.comments)
    ++ line_feed ∷ []

-- why a feature file gives no document
abbrev pub fault_report : FeatureFault → Report
fault_report (Refused f) = record { text = refused_text f; status = exit.Refused }
fault_report ReadFailed = record { text = trouble_text (codes "ReadFailed"); status = exit.Trouble }
fault_report NotUtf8 = record { text = trouble_text (codes "NotUtf8"); status = exit.Trouble }
fault_report Memory = record { text = trouble_text (codes "Memory"); status = exit.Trouble }

-- what the command `parse` prints
abbrev pub parse_report : Result Document FeatureFault → Report
parse_report (Ok d) = record { text = document_text d; status = exit.Done }
parse_report (Err fault) = fault_report fault

-- ---- how the code's faults become one

abbrev pub feature_fault_of_text : TextFault → FeatureFault
feature_fault_of_text text.ReadFailed = ReadFailed
feature_fault_of_text text.TooLong = Refused too_long
feature_fault_of_text text.NotUtf8 = NotUtf8
feature_fault_of_text text.Memory = Memory

abbrev pub feature_fault_of_kind : FaultKind → ParseFault → FeatureFault
feature_fault_of_kind kind.Memory f = Memory
feature_fault_of_kind _ f = Refused f

abbrev pub feature_fault_of_parse : ParseFault → FeatureFault
feature_fault_of_parse f = feature_fault_of_kind f.kind f

-- it is that a read failed
abbrev pub is_failed_feature_read : {A : Type 0} → Result A FeatureFault → Bool
is_failed_feature_read (Err ReadFailed) = true
is_failed_feature_read _ = false
