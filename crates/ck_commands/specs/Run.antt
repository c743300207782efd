-- What a run leaves, one line a command: the report that it prints of the bytes of its source, and what its status says of them.
use Rattle.std.specs.Prelude.{◌≡◌, ◌≢◌, ◌⊎◌, ⊤, ℕ, List, Result, Ok, string_bytes, true}
use Rattle.std.specs.List.{flat_map}
use Rattle.std.specs.Borrow.{Bor}
use Rattle.gk_grammar.specs.Documents.{IsDocumentOf}
use Rattle.gk_grammar.specs.Tree.{Document}
use Rattle.gk_tree.specs.declared.fault.ParseFault.{ParseFault}
use Rattle.cm_compile.specs.Compiled.{IsCompiledOf}
use Rattle.cm_envelope.specs.Device.{Input, OfInput, OfReads, OfWhole, Output, Writes}
use Rattle.cm_envelope.specs.declared.envelope.Envelope.{Envelope}
use Rattle.cm_envelope.specs.declared.feed.Trouble.TheVariants.{Memory, ReadFailed}
use Rattle.cm_attempt.specs.declared.status.Settings.{Settings}
use Rattle.cm_stream.specs.Findings.{Fault, IsBad}
use Rattle.cm_stream.specs.Release.{Conditions}
use Rattle.cm_stream.specs.Results.{first_results_fault, results_of}
use Rattle.cm_stream.specs.Stream.{At, FirstFault, IsFirstFault, NoFault, answer_for, answer_of_audit}
use Rattle.cm_stream.specs.declared.laws.Audited.{Audited}
use Rattle.cm_audit.specs.Audit.{IsAuditOf, ShowNoFault}
use Rattle.ck_command_line.specs.CommandLine.{Command, CallsForHelp, ask_audit, ask_cases, ask_compile, ask_gate, ask_parse, ask_results}
use Rattle.ck_command_line.specs.declared.command_line.Refusal.{Refusal}
use Rattle.ck_command_line.specs.declared.command_line.Refusal.TheVariants as refusal
use Rattle.ck_commands.specs.Cases.{ListsOrTells, PrintsListed, cases_report}
use Rattle.ck_commands.specs.Features.{IsFaultOf, IsFeatureOf, IsReadableText, IsRefusedFeature, document_text, fault_report, parse_report, refused_text}
use Rattle.ck_commands.specs.Gate.{IsGateReport, PrintsBadWhy, PrintsReleased, ReleasesOrTells}
use Rattle.ck_commands.specs.Output.{DeliversOne, NoneFailed, Prints, Report, code_of, trouble_report}
use Rattle.ck_commands.specs.Results.{ResultsShowNoFault, result_text, results_report}
use Rattle.ck_commands.specs.Verdicts.{PrintsBad, PrintsGood, finding_text, verdict_report}
use Rattle.ck_commands.specs.declared.command_feature.FeatureFault.{FeatureFault}
use Rattle.ck_commands.specs.declared.report.ExitStatus.TheVariants as exit

-- ---- the report

-- the lines that a feature file of this uri compiles to
abbrev pub ReportsLines : (uri bytes : List ℕ) → Report → Type 0
ReportsLines uri bytes r =
    (lines : List ℕ) × IsReadableText bytes × IsCompiledOf uri bytes lines
    × (r ≡ record { text = lines; status = exit.Done })

-- these lines, or why there are none
abbrev pub ReportsCompiled : (uri bytes : List ℕ) → Report → Type 0
ReportsCompiled uri bytes r =
    ReportsLines uri bytes r
    ⊎ ((fault : FeatureFault) × IsFaultOf bytes fault × (r ≡ fault_report fault))

-- a report by the first fault of a stream
abbrev pub ReportsFirst : (FirstFault → Report) → Settings → List ℕ → Report → Type 0
ReportsFirst report settings bytes r =
    (first : FirstFault) × IsFirstFault settings bytes first × (r ≡ report first)

-- that of a gate
abbrev pub ReportsGate : Settings → Conditions → List ℕ → Report → Type 0
ReportsGate settings asked bytes r =
    (first : FirstFault) × IsFirstFault settings bytes first
    × IsGateReport settings asked bytes first r

-- what a command prints of these bytes, and the status
abbrev pub Reports : Command → List ℕ → Report → Type 0
Reports ask_parse bytes r =
    (feature : Result Document FeatureFault) × IsFeatureOf bytes feature × (r ≡ parse_report feature)
Reports (ask_compile uri) bytes r = ReportsCompiled uri bytes r
Reports (ask_audit s) bytes r = ReportsFirst (λ first. verdict_report (answer_for first)) s bytes r
Reports (ask_gate s asked) bytes r = ReportsGate s asked bytes r
Reports (ask_results n) bytes r = r ≡ results_report (first_results_fault n bytes)
Reports (ask_cases s form) bytes r = ReportsFirst (cases_report form) s bytes r

-- ---- what a status says, whatever failed

-- a report of an audit of these bytes, the last of which weren't read
abbrev pub ReportsAudit : (Audited → Report → Type 0) → Settings → (bytes rest : List ℕ) → Report
    → Type 0
ReportsAudit P s bytes rest r = (a : Audited) × IsAuditOf s (Ok a) bytes rest × P a r

-- with a status other than 3: the report, and for an audit all that is said of audits, also how far it was read
abbrev pub Tells : Command → (bytes rest : List ℕ) → Report → Type 0
Tells (ask_audit s) bytes rest r =
    ReportsAudit (λ a r. r ≡ verdict_report (answer_of_audit (Ok a))) s bytes rest r
Tells (ask_gate s asked) bytes rest r =
    ReportsAudit (λ a r. ReleasesOrTells s asked bytes a a.verdict r) s bytes rest r
Tells (ask_cases s form) bytes rest r =
    ReportsAudit (λ a r. ListsOrTells s form bytes a a.verdict r) s bytes rest r
Tells c bytes rest r = Reports c bytes r

abbrev pub PrintsDocument : (before after : Output) → List ℕ → Type 0
PrintsDocument before after bytes =
    (d : Document) × IsReadableText bytes × IsDocumentOf bytes d
    × Writes before after (document_text d)

abbrev pub PrintsCompiled : (uri : List ℕ) → (before after : Output) → List ℕ → Type 0
PrintsCompiled uri before after bytes =
    (lines : List ℕ) × IsReadableText bytes × IsCompiledOf uri bytes lines
    × Writes before after lines

abbrev pub PrintsResults : (first : ℕ) → (before after : Output) → List ℕ → Type 0
PrintsResults first before after bytes =
    (es : List Envelope) × (first_results_fault first bytes ≡ NoFault es)
    × Writes before after (flat_map result_text (results_of es))

-- with status 0: the bytes are a good stream, a released one, a feature file, or the command's own
abbrev pub IsDone : Command → (before after : Output) → (bytes : List ℕ) → Type 0
IsDone ask_parse before after bytes = PrintsDocument before after bytes
IsDone (ask_compile uri) before after bytes = PrintsCompiled uri before after bytes
IsDone (ask_audit s) before after bytes = PrintsGood s before after bytes
IsDone (ask_gate s asked) before after bytes = PrintsReleased s asked before after bytes
IsDone (ask_results n) before after bytes = PrintsResults n before after bytes
IsDone (ask_cases s form) before after bytes = PrintsListed s form before after bytes

abbrev pub PrintsRefused : (before after : Output) → List ℕ → Type 0
PrintsRefused before after bytes =
    (f : ParseFault) × IsRefusedFeature bytes f × Writes before after (refused_text f)

abbrev pub PrintsFault : (first : ℕ) → (before after : Output) → List ℕ → Type 0
PrintsFault first before after bytes =
    (n : ℕ) × (f : Fault) × (first_results_fault first bytes ≡ At n (IsBad f))
    × Writes before after (finding_text n (IsBad f))

-- with status 1: the feature file is refused, or no good stream begins like these bytes
abbrev pub IsBadFor : Command → (before after : Output) → (bytes : List ℕ) → Type 0
IsBadFor ask_parse before after bytes = PrintsRefused before after bytes
IsBadFor (ask_compile uri) before after bytes = PrintsRefused before after bytes
IsBadFor (ask_audit s) before after bytes = PrintsBad s before after bytes
IsBadFor (ask_gate s asked) before after bytes = PrintsBadWhy s before after bytes
IsBadFor (ask_results n) before after bytes = PrintsFault n before after bytes
IsBadFor (ask_cases s form) before after bytes = PrintsBad s before after bytes

-- What the status of a command says of the bytes heard from one state of its source to a later one.
pub record IsRight (c : Command) (code : ℕ) (i j : Input) (before after : Output) : Type 0 where
  -- 0 is given only at the source's end
  pub done : code ≡ code_of exit.Done → OfWhole i j (IsDone c before after)
  pub refused : code ≡ code_of exit.Refused → OfInput i j (IsBadFor c before after)
  -- any status but 3 is that of a report which was written whole and flushed
  pub told : code ≢ code_of exit.Trouble
      → OfReads i j (λ bytes rest. (r : Report) × Tells c bytes rest r × Prints r code before after)

-- ---- a failed read

-- the lines before it have no fault that the command reports
abbrev pub ShowsNone : Command → (bytes rest : List ℕ) → Type 0
ShowsNone (ask_audit s) bytes rest = ShowNoFault s bytes rest
ShowsNone (ask_gate s asked) bytes rest = ShowNoFault s bytes rest
ShowsNone (ask_cases s form) bytes rest = ShowNoFault s bytes rest
ShowsNone (ask_results n) bytes rest = ResultsShowNoFault n bytes rest
ShowsNone c bytes rest = ⊤

-- that is what is printed
abbrev pub TellsFailedRead : ℕ → (before after : Output) → Type 0
TellsFailedRead code before after =
    DeliversOne (λ r. r ≡ trouble_report ReadFailed) code before after

-- ---- a report

-- What a report is of what was heard from one state of a source to a later one: what is reported where no read failed; what any
-- status but that of trouble says; that the source was at its end where all was done; and what is left of a failed read.
pub record IsReportOf (c : Command) (r : Report) (i j : Input) : Type 0 where
  pub answer : NoneFailed i.failed_calls j.failed_calls
      → OfInput i j (λ bytes. Reports c bytes r ⊎ (r ≡ trouble_report Memory))
  pub tells : (r.status ≡ exit.Trouble → ⊥) → OfReads i j (λ bytes rest. Tells c bytes rest r)
  pub over : r.status ≡ exit.Done → j.is_over ≡ true
  pub no_fault : j.failed_calls ≢ i.failed_calls → OfReads i j (ShowsNone c)
  pub read_failed : j.failed_calls ≢ i.failed_calls
      → (r ≡ trouble_report ReadFailed) ⊎ (r ≡ trouble_report Memory)
  pub unread : r.status ≡ exit.Done → j.failed_calls ≡ i.failed_calls

-- ---- a run

-- All that a run of a command leaves: its status, and the states of its source and its sink before and after it.
pub record Runs (c : Command) (code : ℕ) (i j : Input) (before after : Output) : Type 0 where
  -- where no read fails, the report on the bytes heard, whatever comes after them
  pub answer : NoneFailed i.failed_calls j.failed_calls
      → OfInput i j (λ bytes. DeliversOne (Reports c bytes) code before after)
  pub status : IsRight c code i j before after
  -- where a read fails
  pub no_fault : j.failed_calls ≢ i.failed_calls → OfReads i j (ShowsNone c)
  pub read_failed : j.failed_calls ≢ i.failed_calls → TellsFailedRead code before after
  pub unread : code ≡ code_of exit.Done → j.failed_calls ≡ i.failed_calls
  -- where a write or a flush fails
  pub unwritten : after.failed_calls ≢ before.failed_calls → code ≡ code_of exit.Trouble

-- ---- words that ask for no command

-- the report of what the words are told
abbrev pub report_of_refusal : Refusal → Report
report_of_refusal (refusal.Usage text) = record { text = string_bytes text; status = exit.Usage }
report_of_refusal (refusal.Help text) = record { text = string_bytes text; status = exit.Done }
report_of_refusal refusal.Memory = trouble_report Memory

-- what is said of words that ask for no command: the usage, help where they call for it
abbrev pub IsRefusal : List (Bor (List ℕ)) → Report → Type 0
IsRefusal words r =
    (r.status ≡ exit.Usage) ⊎ ((r.status ≡ exit.Done) × CallsForHelp words)
