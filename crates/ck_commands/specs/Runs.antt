-- A gate over named runs: what is read of each, the report of each, and what all of them print together.
use Rattle.std.specs.Prelude.{◌≡◌, ◌⊎◌, ⊤, ℕ, ◌==◌, Bool, true, false, List, [], ◌∷◌, ◌++◌, Some, None, codes, if◌then◌else◌}
use Rattle.std.specs.Char.{encode_utf8}
use Rattle.std.specs.Str.{chars}
use Rattle.cm_envelope.specs.Device.{Input, Output}
use Rattle.cm_envelope.specs.declared.feed.Trouble.TheVariants.{Memory, ReadFailed}
use Rattle.cm_attempt.specs.declared.status.Settings.{Settings}
use Rattle.cm_stream.specs.Release.{Conditions}
use Rattle.cm_cases.specs.Shown.{shown_text}
use Rattle.files.specs.Openings.{Opening}
use Rattle.ck_command_line.specs.CommandLine.{RunsGate, ask_gate, is_input}
use Rattle.ck_commands.specs.Output.{Delivers, Report, trouble_report}
use Rattle.ck_commands.specs.Run.{IsReportOf}
use Rattle.ck_commands.specs.declared.report.ExitStatus.{ExitStatus}
use Rattle.ck_commands.specs.declared.report.ExitStatus.TheVariants.{Done}

-- ---- what is read

-- What is read of a run: nothing where its file can't be opened; nothing that is noted where there is no memory; else what was
-- heard from one state of a source to a later one.
pub data Reading : Type 0 where
  unopened : Reading
  unnoted : Reading
  heard : (before after : Input) → Reading

-- that holds of what was heard
abbrev pub OfHeard : (Input → Input → Type 0) → Reading → Type 0
OfHeard P unopened = ⊥
OfHeard P unnoted = ⊥
OfHeard P (heard before after) = P before after

-- a file of which nothing was read yet
abbrev pub unread_input : Input
unread_input = record { heard = []; is_over = false; to_come = None; failed_calls = 0 }

-- the openings by which the reading of a file of this name is noted
abbrev pub NotesReading : (name : List ℕ) → (noted : List Opening) → Reading → Type 0
NotesReading name noted unopened = noted ≡ record { name = name; input = None } ∷ []
NotesReading name noted unnoted = noted ≡ []
NotesReading name noted (heard before after) =
    (before ≡ unread_input) × (noted ≡ record { name = name; input = Some after } ∷ [])

-- a run is read from standard input, or else from the file of its name
abbrev pub ReadsBy : (standard : Bool) → (name : List ℕ) → (noted : List Opening)
    → (i j : Input) → Reading → Type 0
ReadsBy true name noted i j reading = (noted ≡ []) × (reading ≡ heard i j)
ReadsBy false name noted i j reading = (j ≡ i) × NotesReading name noted reading

abbrev pub ReadsRun : (name : List ℕ) → (noted : List Opening) → (i j : Input) → Reading → Type 0
ReadsRun name noted i j reading = ReadsBy (is_input name) name noted i j reading

-- the runs of these names are read one after another
abbrev pub ReadsRuns : (names : List (List ℕ)) → (noted : List Opening) → (i j : Input)
    → List Reading → Type 0
ReadsRuns [] noted i j [] = (noted ≡ []) × (j ≡ i)
ReadsRuns [] noted i j (reading ∷ readings) = ⊥
ReadsRuns (name ∷ names) noted i j [] = ⊥
ReadsRuns (name ∷ names) noted i j (reading ∷ readings) =
    (first : List Opening) × (others : List Opening) × (k : Input) × (noted ≡ first ++ others)
    × ReadsRun name first i k reading × ReadsRuns names others k j readings

-- ---- the report of each

-- that of a gate on what was heard, or that the file can't be opened, or that there is no memory
abbrev pub ReportsRun : Settings → Conditions → Reading → Report → Type 0
ReportsRun s asked unopened r = (r ≡ trouble_report ReadFailed) ⊎ (r ≡ trouble_report Memory)
ReportsRun s asked unnoted r = r ≡ trouble_report Memory
ReportsRun s asked (heard before after) r = IsReportOf (ask_gate s asked) r before after

abbrev pub ReportEach : Settings → Conditions → List Reading → List Report → Type 0
ReportEach s asked [] [] = ⊤
ReportEach s asked [] (r ∷ rs) = ⊥
ReportEach s asked (x ∷ xs) [] = ⊥
ReportEach s asked (x ∷ xs) (r ∷ rs) = ReportsRun s asked x r × ReportEach s asked xs rs

-- ---- what is printed

-- characters, with the front before each that begins a line
abbrev pub lines_after : (front : List ℕ) → (begins : Bool) → List ℕ → List ℕ
lines_after front begins [] = []
lines_after front begins (c ∷ cs) =
    (if begins then front else []) ++ encode_utf8 c ++ lines_after front (c == 10) cs

-- `NAME: ` before each line of the text
abbrev pub name_front : (name : List ℕ) → List ℕ
name_front name = shown_text name ++ codes ": "

abbrev pub named_text : (name text : List ℕ) → List ℕ
named_text name text = lines_after (name_front name) true (chars text)

abbrev pub named_texts : (names : List (List ℕ)) → List Report → List ℕ
named_texts [] rs = []
named_texts (name ∷ names) [] = []
named_texts (name ∷ names) (r ∷ rs) = named_text name r.text ++ named_texts names rs

-- the first of the two that isn't that of what was done
abbrev pub status_after : ExitStatus → ExitStatus → ExitStatus
status_after Done next = next
status_after first next = first

-- the first that isn't, if any
abbrev pub status_of_all : List Report → ExitStatus
status_of_all [] = Done
status_of_all (r ∷ rs) = status_after r.status (status_of_all rs)

abbrev pub joined_report : (names : List (List ℕ)) → List Report → Report
joined_report names reports =
    record { text = named_texts names reports; status = status_of_all reports }

-- The report of all runs: each is read, in order, whatever the ones before gave.
pub record IsRunsReport (g : RunsGate) (old new : List Opening) (i j : Input) (r : Report)
    : Type 0 where
  pub noted : List Opening
  pub opened : new ≡ old ++ noted
  pub readings : List Reading
  pub read : ReadsRuns g.runs noted i j readings
  pub reports : List Report
  pub each : ReportEach g.settings g.asked readings reports
  pub joined : r ≡ joined_report g.runs reports

-- that report is delivered, or that of no memory
abbrev pub GatesRuns : RunsGate → (code : ℕ) → (old new : List Opening) → (i j : Input)
    → (before after : Output) → Type 0
GatesRuns g code old new i j before after =
    (r : Report) × (IsRunsReport g old new i j r ⊎ (r ≡ trouble_report Memory))
    × Delivers r code before after
