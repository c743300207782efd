-- Runs that are judged as `gate` judges them: the report of each, and where it is released, the envelopes of its stream.
use Rattle.std.specs.Prelude.{◌≡◌, ⊤, ◌+◌, ℕ, Bool, List, [], ◌∷◌, Result, Ok, Err, fold, length, min}
use Rattle.std.specs.List.{list_any}
use Rattle.std.specs.declared.alloc.AllocError.{AllocError}
use Rattle.cm_envelope.specs.Device.{Input, OfWhole, greatest_count}
use Rattle.cm_envelope.specs.declared.envelope.Envelope.{Envelope}
use Rattle.cm_envelope.specs.declared.feed.Trouble.{Trouble}
use Rattle.cm_envelope.specs.declared.feed.Trouble.TheVariants.{Memory}
use Rattle.cm_attempt.specs.declared.status.Policy.{Policy}
use Rattle.cm_attempt.specs.declared.status.Settings.{Settings}
use Rattle.cm_stream.specs.References.{cases}
use Rattle.cm_stream.specs.Release.{Conditions, IsReleasedStream, release_counts_of}
use Rattle.cm_stream.specs.Texts.{Utf8}
use Rattle.cm_stream.specs.declared.laws.ReleaseCounts.{ReleaseCounts}
use Rattle.cm_stream.specs.declared.laws.Counts.{Counts}
use Rattle.cm_stream.specs.declared.laws.Verdict.{Verdict}
use Rattle.cm_stream.specs.declared.laws.Verdict.TheVariants as verdict
use Rattle.cm_ran.specs.Marks.{AlsoRan, HasWholeRows, MarksWhatRan, marked_texts}
use Rattle.cm_ran.specs.RunAt.{is_run_at}
use Rattle.cm_ran.specs.declared.marks.Marks.{Marks}
use Rattle.cm_audit_release.specs.declared.audited_release.AuditedRelease.{AuditedRelease}
use Rattle.files.specs.Openings.{Opening}
use Rattle.ck_command_line.specs.CommandLine.{RunsGate, ask_gate}
use Rattle.ck_commands.specs.Output.{Report, report_made, trouble_report}
use Rattle.ck_commands.specs.Run.{IsReportOf}
use Rattle.ck_commands.specs.Runs.{IsRunsReport, OfHeard, Reading, ReportsRun}
use Rattle.ck_commands.specs.declared.command_gate.JudgedRun as made
use Rattle.ck_commands.specs.declared.command_gate.GateCounts.{GateCounts}
use Rattle.ck_commands.specs.declared.report.ExitStatus.TheVariants.{Done}

-- ---- the streams of released runs

-- the bytes are a released stream, of these envelopes
abbrev pub IsReleasedAs : Settings → Conditions → (es : List Envelope) → (bytes : List ℕ) → Type 0
IsReleasedAs s asked es bytes =
    (counts : Counts) × (found : ReleaseCounts)
    × (r : IsReleasedStream s asked bytes counts found) × (r.judged ≡ es)

-- a source was read to its end, and gave that
abbrev pub ReleasedAs : Settings → Conditions → (es : List Envelope) → (i j : Input) → Type 0
ReleasedAs s asked es i j = OfWhole i j (IsReleasedAs s asked es)

-- what was read of each run gave that
abbrev pub AreStreams : Settings → Conditions → List Reading → List (List Envelope) → Type 0
AreStreams s asked [] [] = ⊤
AreStreams s asked [] (es ∷ streams) = ⊥
AreStreams s asked (reading ∷ readings) [] = ⊥
AreStreams s asked (reading ∷ readings) (es ∷ streams) =
    OfHeard (ReleasedAs s asked es) reading × AreStreams s asked readings streams

-- in one of these streams a test case names the pickle at the place of the text
abbrev pub is_run_in : List (List Envelope) → (text : Utf8) → (place : ℕ) → Bool
is_run_in streams text place = list_any (λ es. is_run_at es text place) streams

-- ---- what is counted of them

abbrev pub no_counts : GateCounts
no_counts = record { cases = 0; retried = 0; skipped = 0 }

-- test cases, pickles with more than one attempt, and last attempts with a skipped step
abbrev pub run_counts : Conditions → Policy → List Envelope → GateCounts
run_counts asked policy es = record {
  cases = length (cases es);
  retried = (release_counts_of asked policy es).retried;
  skipped = (release_counts_of asked policy es).skipped;
}

-- a count doesn't rise beyond the greatest
abbrev pub added_counts : GateCounts → GateCounts → GateCounts
added_counts a b = record {
  cases = min (a.cases + b.cases) greatest_count;
  retried = min (a.retried + b.retried) greatest_count;
  skipped = min (a.skipped + b.skipped) greatest_count;
}

abbrev pub counts_of_all : Conditions → Policy → List (List Envelope) → GateCounts
counts_of_all asked policy streams =
    fold (λ counts es. added_counts counts (run_counts asked policy es)) no_counts streams

-- ---- what the code made

abbrev pub run_report : Result made.JudgedRun AllocError → Report
run_report (Ok run) = report_made (Ok run.report)
run_report (Err refused) = trouble_report Memory

abbrev pub counts_made : Result made.JudgedRun AllocError → GateCounts
counts_made (Ok run) = run.counts
counts_made (Err refused) = no_counts

abbrev pub counted_by : ReleaseCounts → Verdict → GateCounts
counted_by found (verdict.Good counts) =
    record { cases = counts.cases; retried = found.retried; skipped = found.skipped }
counted_by found (verdict.Bad n b) = no_counts
counted_by found (verdict.Unsupported n u) = no_counts

abbrev pub counted_in : Result AuditedRelease Trouble → GateCounts
counted_in (Ok a) = counted_by a.found a.audited.verdict
counted_in (Err t) = no_counts

-- ---- what is marked

-- A run was released as this stream, what ran in it is marked, and this is counted of it.
pub record MarksStream (s : Settings) (asked : Conditions) (old new : Marks) (counts : GateCounts)
    (Gives : List Envelope → Type 0) : Type 0 where
  pub es : List Envelope
  pub gives : Gives es
  pub marked : MarksWhatRan es old new
  pub counted : counts ≡ run_counts asked s.policy es

-- From one state of a source to a later one a run was judged: its report is that of `gate`, and with status 0 it was marked.
pub record JudgesStream (s : Settings) (asked : Conditions) (i j : Input) (old new : Marks) (r : Report)
    (counts : GateCounts) : Type 0 where
  pub reported : IsReportOf (ask_gate s asked) r i j
  pub texts : marked_texts new ≡ marked_texts old
  pub done : r.status ≡ Done
      → MarksStream s asked old new counts (λ es. ReleasedAs s asked es i j)

-- the same by what was read of a run
pub record JudgesRun (s : Settings) (asked : Conditions) (reading : Reading) (old new : Marks)
    (r : Report) (counts : GateCounts) : Type 0 where
  pub reports : ReportsRun s asked reading r
  pub texts : marked_texts new ≡ marked_texts old
  pub done : r.status ≡ Done
      → MarksStream s asked old new counts (λ es. OfHeard (ReleasedAs s asked es) reading)

-- Each run was released as one of these streams, what ran in them is marked by whole rows, and this is counted of them.
pub record MarksStreams (s : Settings) (asked : Conditions) (readings : List Reading)
    (old new : Marks) (counts : GateCounts) : Type 0 where
  pub streams : List (List Envelope)
  pub are : AreStreams s asked readings streams
  pub marked : AlsoRan old new (is_run_in streams)
  pub rows : HasWholeRows old → HasWholeRows new
  pub counted : counts ≡ counts_of_all asked s.policy streams

-- All runs were judged: the report of all, and with status 0 that holds.
pub record JudgesRuns (g : RunsGate) (before after : List Opening) (i j : Input) (old new : Marks)
    (r : Report) (counts : GateCounts) : Type 0 where
  pub report : IsRunsReport g before after i j r
  pub texts : marked_texts new ≡ marked_texts old
  pub done : r.status ≡ Done → MarksStreams g.settings g.asked report.readings old new counts
