-- What a command prints, the status that it ends with, and how a run shows both.
use Rattle.std.specs.Prelude.{◌≡◌, ◌≢◌, ◌<◌, ◌⊎◌, ℕ, List, [], ◌∷◌, ◌++◌, Result, Ok, Err, codes}
use Rattle.std.specs.String.{string_bytes}
use Rattle.std.specs.declared.alloc.AllocError.{AllocError}
use Rattle.cm_envelope.specs.Device.{IsFlushed, Output, Writes, greatest_count}
use Rattle.cm_envelope.specs.Lines.{line_feed}
use Rattle.cm_envelope.specs.declared.feed.Trouble.{Trouble}
use Rattle.cm_envelope.specs.declared.feed.Trouble.TheVariants.{ReadFailed, LineTooLong, StreamTooLong, Memory}
use Rattle.ck_commands.specs.declared.report.ExitStatus.{ExitStatus}
use Rattle.ck_commands.specs.declared.report.ExitStatus.TheVariants as exit
use Rattle.ck_commands.specs.declared.report.Report as made

-- the number that the program exits with
abbrev pub code_of : ExitStatus → ℕ
code_of exit.Done = 0
code_of exit.Refused = 1
code_of exit.Usage = 2
code_of exit.Trouble = 3
code_of exit.Unsupported = 4
code_of exit.Held = 5

-- a text, and the status that goes with it
pub record Report : Type 0 where
  pub text : List ℕ
  pub status : ExitStatus

abbrev pub trouble_name : Trouble → List ℕ
trouble_name ReadFailed = codes "ReadFailed"
trouble_name LineTooLong = codes "LineTooLong"
trouble_name StreamTooLong = codes "StreamTooLong"
trouble_name Memory = codes "Memory"

-- a line with this name
abbrev pub trouble_text : (name : List ℕ) → List ℕ
trouble_text name = codes "trouble " ++ name ++ line_feed ∷ []

-- why no further line could be read
abbrev pub trouble_report : Trouble → Report
trouble_report t = record { text = trouble_text (trouble_name t); status = exit.Trouble }

-- the report that the code made, and `trouble Memory` where it made none
abbrev pub report_made : Result made.Report AllocError → Report
report_made (Ok report) = record { text = string_bytes report.text; status = report.status }
report_made (Err refused) = trouble_report Memory

-- the report that the code made is this one
abbrev pub IsReport : Report → made.Report → Type 0
IsReport report r = (string_bytes r.text ≡ report.text) × (r.status ≡ report.status)

-- it is one of which P holds by what was audited, or that of the trouble in its place
abbrev pub ReportsAnswer : {A : Type 0} → (A → made.Report → Type 0) → Result A Trouble
    → made.Report → Type 0
ReportsAnswer P (Ok a) r = P a r
ReportsAnswer P (Err t) r = IsReport (trouble_report t) r

-- no call of a device failed between two of its counts of failed calls, the first of which could still rise
abbrev pub NoneFailed : ℕ → ℕ → Type 0
NoneFailed old new = (old < greatest_count) × (new ≡ old)

-- ---- how a report reaches the sink

-- the code is that of the report's status, and its text was written after what was written before, and flushed
pub record Prints (report : Report) (code : ℕ) (before after : Output) : Type 0 where
  pub status : code ≡ code_of report.status
  pub written : Writes before after report.text
  pub flushed : IsFlushed after

-- what is written last where a write failed
abbrev pub write_failed_text : List ℕ
write_failed_text = trouble_text (codes "WriteFailed")

-- Where a write or the flush failed, the code is that of trouble, and a front of the text was written, and then a front of
-- `trouble WriteFailed`.
pub record Breaks (text : List ℕ) (code : ℕ) (before after : Output) : Type 0 where
  pub status : code ≡ code_of exit.Trouble
  pub front : List ℕ
  pub rest : List ℕ
  pub of_text : text ≡ front ++ rest
  pub told : List ℕ
  pub untold : List ℕ
  pub of_trouble : write_failed_text ≡ told ++ untold
  pub written : Writes before after (front ++ told)

-- a report is printed where no call of the sink fails, and breaks where one does
pub record Delivers (report : Report) (code : ℕ) (before after : Output) : Type 0 where
  pub one : Prints report code before after ⊎ Breaks report.text code before after
  pub printed : NoneFailed before.failed_calls after.failed_calls
      → Prints report code before after
  pub broken : after.failed_calls ≢ before.failed_calls → Breaks report.text code before after

-- with this status and code a text is delivered that was written whole before, without a failed call
abbrev pub DeliversWritten : ExitStatus → ℕ → (written after : Output) → Type 0
DeliversWritten status code written after =
    (before : Output) (text : List ℕ) → Writes before written text
    → written.failed_calls ≡ before.failed_calls
    → Delivers (record { text = text; status = status }) code before after

-- a report of which P holds was delivered, or that of no memory
abbrev pub DeliversOne : (Report → Type 0) → ℕ → (before after : Output) → Type 0
DeliversOne P code before after =
    (report : Report) × (P report ⊎ (report ≡ trouble_report Memory))
    × Delivers report code before after
