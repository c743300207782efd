-- What the command `cases` prints, by the whole list of envelopes of a good stream.
use Rattle.std.specs.Prelude.{◌≡◌, ℕ, List, ◌++◌, Option, Result, Ok, string_bytes}
use Rattle.cm_envelope.specs.Device.{Output, Writes}
use Rattle.std.specs.List.{flat_map}
use Rattle.cm_attempt.specs.Results.{case_results}
use Rattle.cm_attempt.specs.Table.{Table}
use Rattle.cm_attempt.specs.declared.status.Settings.{Settings}
use Rattle.cm_attempt.specs.declared.status.Status.{Status}
use Rattle.cm_cases.specs.Listed.{listing_of}
use Rattle.cm_cases.specs.JsonLines.{case_json, unrun_json}
use Rattle.cm_cases.specs.Places.{case_place, unrun_lines}
use Rattle.cm_cases.specs.declared.listing.Listing.{Listing}
use Rattle.cm_envelope.specs.declared.envelope.Envelope.{Envelope}
use Rattle.cm_envelope.specs.declared.feed.Trouble.{Trouble}
use Rattle.cm_stream.specs.Good.{Good}
use Rattle.cm_stream.specs.Results.{results_of}
use Rattle.cm_stream.specs.Stream.{FirstFault, At, Troubled, NoFault, IsReadAs, answer_of_audit}
use Rattle.cm_stream.specs.Texts.{Utf8}
use Rattle.cm_stream.specs.declared.laws.Audited.{Audited}
use Rattle.cm_stream.specs.declared.laws.Verdict.{Verdict}
use Rattle.cm_stream.specs.declared.laws.Verdict.TheVariants as verdict
use Rattle.cm_audit_cases.specs.declared.audited_cases.AuditedCases.{AuditedCases}
use Rattle.ck_command_line.specs.declared.command_line.CaseForm.{CaseForm}
use Rattle.ck_command_line.specs.declared.command_line.CaseForm.TheVariants.{Plain, Json}
use Rattle.ck_commands.specs.Output.{IsReport, Report, ReportsAnswer, trouble_report}
use Rattle.ck_commands.specs.Statuses.{reported_word}
use Rattle.ck_commands.specs.Verdicts.{finding_report, verdict_report}
use Rattle.ck_commands.specs.declared.report.ExitStatus.TheVariants.{Done}
use Rattle.ck_commands.specs.declared.report.Report as made

-- `STATUS URI:LINE NAME` of a case, by its result
abbrev pub case_text : List Envelope → Utf8 × Option Status → List ℕ
case_text es r = reported_word r.1 ++ case_place es r.0

-- one line for each case, in order of declaration, and then one for each pickle that no case names, in order
abbrev pub cases_text : List Envelope → List ℕ
cases_text es = flat_map (case_text es) (results_of es) ++ unrun_lines es

-- the object of a case, by its result
abbrev pub case_object : List Envelope → Utf8 × Option Status → List ℕ
case_object es r = case_json es r.0 (reported_word r.1)

-- the same as JSON: an object a line for each case, and then for each pickle that no case names
abbrev pub cases_json : List Envelope → List ℕ
cases_json es = flat_map (case_object es) (results_of es) ++ unrun_json es

-- the lines in one of the forms
abbrev pub lines_in : CaseForm → List Envelope → List ℕ
lines_in Plain es = cases_text es
lines_in Json es = cases_json es

-- these lines; or the first fault, or why no further line could be read
abbrev pub cases_report : CaseForm → FirstFault → Report
cases_report form (NoFault es) = record { text = lines_in form es; status = Done }
cases_report form (At n f) = finding_report n f
cases_report form (Troubled t) = trouble_report t

-- the stream is good, and the lines of its cases and unrun pickles were printed
abbrev pub PrintsListed : Settings → CaseForm → (before after : Output) → (bytes : List ℕ)
    → Type 0
PrintsListed settings form before after bytes =
    (es : List Envelope) × IsReadAs settings bytes es × Good settings es
    × Writes before after (lines_in form es)

-- the lines of the cases of a good stream, and of any other verdict its line
abbrev pub ListsOrTells : Settings → CaseForm → List ℕ → Audited → Verdict → Report → Type 0
ListsOrTells settings form bytes a (verdict.Good counts) r =
    (es : List Envelope) × IsReadAs settings bytes es × Good settings es
    × (r ≡ record { text = lines_in form es; status = Done })
ListsOrTells settings form bytes a _ r = r ≡ verdict_report (answer_of_audit (Ok a))

-- ---- the report that the code makes

-- the text is that of the envelopes that the listing and the attempts are of
abbrev pub IsCasesText : CaseForm → Listing → Table → List ℕ → Type 0
IsCasesText form listing attempts text =
    (es : List Envelope) → listing ≡ listing_of es → case_results attempts ≡ results_of es
    → text ≡ lines_in form es

abbrev pub ReportsVerdict : CaseForm → Listing → Table → Audited → Verdict → made.Report → Type 0
ReportsVerdict form listing attempts a (verdict.Good counts) r =
    IsCasesText form listing attempts (string_bytes r.text) × (r.status ≡ Done)
ReportsVerdict form listing attempts a _ r = IsReport (verdict_report (answer_of_audit (Ok a))) r

abbrev pub ReportsCases : CaseForm → Result AuditedCases Trouble → made.Report → Type 0
ReportsCases form =
    ReportsAnswer (λ a r. ReportsVerdict form a.listing a.attempts a.audited a.audited.verdict r)
