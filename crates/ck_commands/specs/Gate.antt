-- What the command `gate` prints: the line of `audit`, and of a run that is truthfully reported a second line, with the reason why
-- it isn't to be released and the lines that say it, or with what was let pass. Of another stream it is what is told of the line
-- that decides.
use Rattle.std.specs.Prelude.{◌≡◌, ℕ, Bool, List, [], ◌∷◌, ◌++◌, Option, Some, None, Result, Ok, codes, decimal, if◌then◌else◌, string_bytes}
use Rattle.cm_envelope.specs.Device.{Output, Writes}
use Rattle.cm_envelope.specs.Lines.{line_feed}
use Rattle.cm_envelope.specs.declared.feed.Trouble.{Trouble}
use Rattle.cm_attempt.specs.declared.status.Settings.{Settings}
use Rattle.cm_envelope.specs.declared.envelope.Envelope.{Envelope}
use Rattle.cm_stream.specs.References.{run_succeeded}
use Rattle.cm_stream.specs.Release.{Conditions, IsReleasedStream, hold_of, release_counts_of}
use Rattle.cm_stream.specs.Findings.{Finding, IsBad, IsUnsupported, stream_fault_named}
use Rattle.cm_stream.specs.Stream.{FirstFault, At, Troubled, NoFault, IsGoodRun, NoneIsGood, counts_of}
use Rattle.cm_stream.specs.declared.laws.ReleaseCounts.{ReleaseCounts}
use Rattle.cm_stream.specs.declared.laws.Audited.{Audited}
use Rattle.cm_stream.specs.declared.laws.Counts.{Counts}
use Rattle.cm_stream.specs.declared.laws.Hold.{Hold}
use Rattle.cm_stream.specs.declared.laws.Hold.TheVariants as hold
use Rattle.cm_stream.specs.declared.laws.StreamFault.{StreamFault}
use Rattle.cm_stream.specs.declared.laws.Verdict.{Verdict}
use Rattle.cm_stream.specs.declared.laws.Verdict.TheVariants as verdict
use Rattle.cm_release.specs.Reasons.{AreReasons}
use Rattle.cm_audit_release.specs.declared.audited_release.AuditedRelease.{AuditedRelease}
use Rattle.cm_fault_reasons.specs.AtLine.{IsToldUnder}
use Rattle.ck_commands.specs.Output.{IsReport, Report, ReportsAnswer, trouble_report}
use Rattle.ck_commands.specs.Verdicts.{counts_text, finding_status, finding_text}
use Rattle.ck_commands.specs.declared.report.ExitStatus.{ExitStatus}
use Rattle.ck_commands.specs.declared.report.ExitStatus.TheVariants.{Done, Held}
use Rattle.ck_commands.specs.declared.report.Report as made

abbrev pub hold_name : Hold → List ℕ
hold_name hold.NotSuccessful = codes "stop NotSuccessful"
hold_name hold.Empty = codes "stop Empty"
hold_name hold.Unrun = codes "stop Unrun"
hold_name hold.Retried = codes "stop Retried"
hold_name hold.Skipped = codes "stop Skipped"
hold_name hold.Stepless = codes "stop Stepless"
hold_name hold.Undefined = codes "stop Undefined"

-- how many pickles have more than one attempt, how many last attempts a skipped step, and how many pickles no test case
abbrev pub release_text : Counts → ReleaseCounts → List ℕ
release_text counts found =
    codes "release retried=" ++ decimal found.retried ++ codes " skipped=" ++ decimal found.skipped
    ++ codes " unrun=" ++ decimal counts.unrun ++ line_feed ∷ []

-- that line; of a part nothing is said of a release
abbrev pub release_line : (is_part : Bool) → Counts → ReleaseCounts → List ℕ
release_line is_part counts found = if is_part then [] else release_text counts found

-- the second line, and of a held run the lines of its reasons below it
abbrev pub second_line : (is_part : Bool) → Option Hold → Counts → ReleaseCounts
    → (reasons : List ℕ) → List ℕ
second_line is_part None counts found reasons = release_line is_part counts found
second_line is_part (Some h) counts found reasons =
    (hold_name h ++ line_feed ∷ []) ++ reasons

abbrev pub held_status : Option Hold → ExitStatus
held_status None = Done
held_status (Some h) = Held

-- the report of a good stream whose run is held for this, or isn't
abbrev pub held_report : (is_part : Bool) → Option Hold → Counts → ReleaseCounts
    → (reasons : List ℕ) → Report
held_report is_part held counts found reasons = record {
  text = counts_text counts ++ second_line is_part held counts found reasons;
  status = held_status held;
}

-- why the run of a good list of envelopes is held
abbrev pub hold_in : Settings → Conditions → List Envelope → Option Hold
hold_in settings asked es =
    hold_of asked (run_succeeded es) (counts_of es) (release_counts_of asked settings.policy es)

-- the report of a finding: the line of `audit`, and below it what is told of the line that decides
abbrev pub finding_told : ℕ → Finding → (reasons : List ℕ) → Report
finding_told n f reasons =
    record { text = finding_text n f ++ reasons; status = finding_status f }

abbrev pub IsFindingReport : Settings → (bytes : List ℕ) → ℕ → Finding → Report → Type 0
IsFindingReport settings bytes n f r =
    (reasons : List ℕ) × IsToldUnder settings bytes n f reasons × (r ≡ finding_told n f reasons)

abbrev pub IsGateReport : Settings → Conditions → (bytes : List ℕ) → FirstFault → Report → Type 0
IsGateReport settings asked bytes (NoFault es) r =
    (reasons : List ℕ) × AreReasons settings.policy asked es (hold_in settings asked es) reasons
    × (r ≡ held_report asked.is_part (hold_in settings asked es) (counts_of es)
    (release_counts_of asked settings.policy es) reasons)
IsGateReport settings asked bytes (At n f) r = IsFindingReport settings bytes n f r
IsGateReport settings asked bytes (Troubled t) r = r ≡ trouble_report t

-- the report of a good run's envelopes
abbrev pub IsReleaseReport : Settings → Conditions → List Envelope → (success : Bool) → Counts
    → ReleaseCounts → Report → Type 0
IsReleaseReport settings asked es success counts found r =
    (reasons : List ℕ)
    × AreReasons settings.policy asked es (hold_of asked success counts found) reasons
    × (r ≡ held_report asked.is_part (hold_of asked success counts found) counts found reasons)

-- the report of an audit's verdict on these bytes
abbrev pub ReleasesOrTells : Settings → Conditions → List ℕ → Audited → Verdict → Report → Type 0
ReleasesOrTells settings asked bytes a (verdict.Good counts) r =
    (run : IsGoodRun settings bytes counts a.success)
    × IsReleaseReport settings asked run.judged a.success counts
    (release_counts_of asked settings.policy run.judged) r
ReleasesOrTells settings asked bytes a (verdict.Bad n b) r =
    IsFindingReport settings bytes n (IsBad (stream_fault_named b)) r
ReleasesOrTells settings asked bytes a (verdict.Unsupported n u) r =
    IsFindingReport settings bytes n (IsUnsupported u) r

-- the counts of a released stream were printed
abbrev pub PrintsReleased : Settings → Conditions → (before after : Output) → (bytes : List ℕ)
    → Type 0
PrintsReleased settings asked before after bytes =
    (counts : Counts) × (found : ReleaseCounts)
    × IsReleasedStream settings asked bytes counts found
    × Writes before after (counts_text counts ++ release_line asked.is_part counts found)

-- a fault that no good stream begins with was printed, and what is told of its line
abbrev pub PrintsBadWhy : Settings → (before after : Output) → (bytes : List ℕ) → Type 0
PrintsBadWhy settings before after bytes =
    (n : ℕ) × (b : StreamFault) × NoneIsGood settings bytes (Ok (verdict.Bad n b))
    × (reasons : List ℕ) × IsToldUnder settings bytes n (IsBad (stream_fault_named b)) reasons
    × Writes before after (finding_text n (IsBad (stream_fault_named b)) ++ reasons)

-- ---- the report that the code makes

abbrev pub ReportsHeld : (is_part : Bool) → ReleaseCounts → Option Hold → (reasons : List ℕ)
    → Audited → Verdict → made.Report → Type 0
ReportsHeld is_part found held reasons a (verdict.Good counts) r =
    IsReport (held_report is_part held counts found reasons) r
ReportsHeld is_part found held reasons a (verdict.Bad n b) r =
    IsReport (finding_told n (IsBad (stream_fault_named b)) reasons) r
ReportsHeld is_part found held reasons a (verdict.Unsupported n u) r =
    IsReport (finding_told n (IsUnsupported u) reasons) r

abbrev pub ReportsRelease : (is_part : Bool) → Result AuditedRelease Trouble → made.Report
    → Type 0
ReportsRelease is_part =
    ReportsAnswer (λ a r. ReportsHeld is_part a.found a.hold (string_bytes a.reasons) a.audited
    a.audited.verdict r)
