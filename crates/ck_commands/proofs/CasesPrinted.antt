-- What the command `cases` reports.
use Rattle.std.proofs.Common.{◌≡◌, ◌∙◌, ◌⊎◌, ℕ, List, Result, Ok, Err, Bool, true, inl, inr, sym, ap}
use Rattle.std.specs.Prelude.{IfOk}
use Rattle.std.specs.declared.alloc.AllocError.{AllocError}
use Rattle.cm_attempt.specs.Table.{Table}
use Rattle.cm_attempt.specs.declared.status.Settings.{Settings}
use Rattle.cm_cases.specs.Listed.{listing_of}
use Rattle.cm_cases.specs.declared.listing.Listing.{Listing}
use Rattle.cm_envelope.specs.Device.{CountsFailure, Input, OfReads}
use Rattle.cm_envelope.specs.declared.envelope.Envelope.{Envelope}
use Rattle.cm_envelope.specs.declared.feed.Trouble.{Trouble}
use Rattle.cm_envelope.specs.declared.feed.Trouble.TheVariants.{ReadFailed, LineTooLong, StreamTooLong, Memory}
use Rattle.cm_stream.specs.Stream.{Answer, At, Failed, FirstFault, NoFault, Troubled, answer_for, answer_of_audit}
use Rattle.cm_stream.specs.declared.laws.Verdict.{Verdict}
use Rattle.cm_stream.specs.declared.laws.Verdict.TheVariants as verdict
use Rattle.cm_stream.proofs.ByGrammar.{is_first}
use Rattle.cm_stream.proofs.Streams.{read_is_told}
use Rattle.cm_audit.specs.Audit.{AnswersTold, GoodAtEnd, GoodAtEndIn, IsAuditOf}
use Rattle.cm_envelope.specs.Feeds.{is_failed_read}
use Rattle.cm_audit.specs.Watched.{FollowsGood}
use Rattle.cm_audit_cases.specs.CasesAudit.{IsCasesAuditOf, audited_in}
use Rattle.cm_audit_cases.specs.declared.audited_cases.AuditedCases.{AuditedCases}
use Rattle.ck_command_line.specs.CommandLine.{ask_cases}
use Rattle.ck_command_line.specs.declared.command_line.CaseForm.{CaseForm}
use Rattle.ck_commands.specs.Cases.{ListsOrTells, ReportsCases, ReportsVerdict, cases_report}
use Rattle.ck_commands.specs.Output.{IsReport, report_made, trouble_report}
use Rattle.ck_commands.specs.Run.{Reports}
use Rattle.ck_commands.specs.Verdicts.{verdict_report}
use Rattle.ck_commands.specs.declared.report.ExitStatus.TheVariants as exit
use Rattle.ck_commands.specs.declared.report.Report as made
use Rattle.ck_commands.proofs.AuditsBeside.{Shows, alone, audit_beside_is_reported, report_is}
use Rattle.ck_commands.specs.Run.{IsReportOf}

-- an answer that isn't Good has the same report
same_report : (form : CaseForm) (first : FirstFault) (a : Answer) → a ≡ answer_for first → ((es : List Envelope) → a ≡ answer_for (NoFault es) → ⊥) → verdict_report a ≡ cases_report form first
same_report form (At n f) a e none = ap verdict_report e
same_report form (Troubled t) a e none = ap verdict_report e
same_report form (NoFault es) a e none = absurd (none es e)

module _ (settings : Settings) (form : CaseForm) where
  told : (bytes : List ℕ) (x : made.Report) (first : FirstFault) (a : Answer) → a ≡ answer_for first → ((es : List Envelope) → a ≡ answer_for (NoFault es) → ⊥) → IsReport (verdict_report a) x
      → report_made (Ok x) ≡ cases_report form first
  told bytes x first a e none is = report_is (verdict_report a) x is ∙ same_report form first a e none

  module _ (listing : Listing) (attempts : Table) where
    of_verdict : (bytes : List ℕ) (success : Bool) (v : Verdict) (x : made.Report) → ReportsVerdict form listing attempts (record { verdict = v; success = success }) v x
        → FollowsGood settings (λ es. listing ≡ listing_of es) attempts bytes v → AnswersTold settings bytes (Ok (record { verdict = v; success = success })) → Reports (ask_cases settings form) bytes (report_made (Ok x))
    of_verdict bytes success (verdict.Good counts) x r f h = (
      NoFault f.judged,
      is_first settings bytes (NoFault f.judged) (read_is_told settings bytes f.judged f.read f.good),
      λ j. record { text = r.0 f.judged f.followed f.results j; status = r.1 j },
    )
    of_verdict bytes success (verdict.Bad n b) x r f h = (h.first, h.is_first, told bytes x h.first (answer_of_audit (Ok (record { verdict = verdict.Bad n b; success = success }))) h.answers (λ es e. cc) r)
    of_verdict bytes success (verdict.Unsupported n u) x r f h =
        (h.first, h.is_first, told bytes x h.first (answer_of_audit (Ok (record { verdict = verdict.Unsupported n u; success = success }))) h.answers (λ es e. cc) r)

    lists_or_tells : (bytes : List ℕ) (success : Bool) (v : Verdict) (x : made.Report) → ReportsVerdict form listing attempts (record { verdict = v; success = success }) v x
        → FollowsGood settings (λ es. listing ≡ listing_of es) attempts bytes v → ListsOrTells settings form bytes (record { verdict = v; success = success }) v (report_made (Ok x))
    lists_or_tells bytes success (verdict.Good counts) x r f = (f.judged, f.read, f.good, λ j. record { text = r.0 f.judged f.followed f.results j; status = r.1 j })
    lists_or_tells bytes success (verdict.Bad n b) x r f = report_is _ x r
    lists_or_tells bytes success (verdict.Unsupported n u) x r f = report_is _ x r

    done_at_end : (j : Input) (success : Bool) (v : Verdict) (x : made.Report) → ReportsVerdict form listing attempts (record { verdict = v; success = success }) v x → GoodAtEndIn j v → x.status ≡ exit.Done → j.is_over ≡ true
    done_at_end j success (verdict.Good counts) x r over done = over
    done_at_end j success (verdict.Bad n b) x r over done = let no : exit.Refused ≡ exit.Done = sym r.1 ∙ done in cc
    done_at_end j success (verdict.Unsupported n u) x r over done = let no : exit.Unsupported ≡ exit.Done = sym r.1 ∙ done in cc

  of_trouble : (t : Trouble) (x : made.Report) (bytes : List ℕ) → IsReport (trouble_report t) x → AnswersTold settings bytes (Err t) → (t ≡ LineTooLong) ⊎ (t ≡ StreamTooLong) → Reports (ask_cases settings form) bytes (report_made (Ok x))
  of_trouble LineTooLong x bytes is h e = (h.first, h.is_first, told bytes x h.first (Failed LineTooLong) h.answers (λ es e. cc) is)
  of_trouble StreamTooLong x bytes is h e = (h.first, h.is_first, told bytes x h.first (Failed StreamTooLong) h.answers (λ es e. cc) is)
  of_trouble ReadFailed x bytes is h (inl e) = cc
  of_trouble ReadFailed x bytes is h (inr e) = cc
  of_trouble Memory x bytes is h (inl e) = cc
  of_trouble Memory x bytes is h (inr e) = cc

  audit_alone : (answer : Result AuditedCases Trouble) (bytes rest : List ℕ) → IsCasesAuditOf settings answer bytes rest → IsAuditOf settings (alone (λ a. a.audited) answer) bytes rest
  audit_alone (Ok a) bytes rest h = h.audit
  audit_alone (Err t) bytes rest h = h.audit

  pub cases_show : Shows (ask_cases settings form) settings (λ a. a.audited) (λ a r. ReportsVerdict form a.listing a.attempts a.audited a.audited.verdict r) (IsCasesAuditOf settings)
  cases_show = record {
    audit = audit_alone;
    of_audit = λ a x bytes rest is h. of_verdict a.listing a.attempts bytes a.audited.success a.audited.verdict x is h.cases h.audit.told;
    of_trouble = of_trouble;
    tells = λ a x bytes rest is h. (a.audited, h.audit, lists_or_tells a.listing a.attempts bytes a.audited.success a.audited.verdict x is h.cases);
    at_end = λ a x j is end done. done_at_end a.listing a.attempts j a.audited.success a.audited.verdict x is end done;
    no_fault = λ bytes rest h. h;
  }

at_end_alone : (j : Input) (answer : Result AuditedCases Trouble) → GoodAtEnd j (audited_in answer) → GoodAtEnd j (alone (λ a. a.audited) answer)
at_end_alone j (Ok a) h = h
at_end_alone j (Err t) h = h

pub cases_are_reported : (settings : Settings) (form : CaseForm) (answer : Result AuditedCases Trouble) (m : Result made.Report AllocError) (i j : Input) → IfOk m (ReportsCases form answer) → OfReads i j (IsCasesAuditOf settings answer)
    → GoodAtEnd j (audited_in answer) → CountsFailure (is_failed_read answer) i.failed_calls j.failed_calls → IsReportOf (ask_cases settings form) (report_made m) i j
cases_are_reported settings form answer m i j is h end counts =
    audit_beside_is_reported (ask_cases settings form) settings (λ a. a.audited) (λ a r. ReportsVerdict form a.listing a.attempts a.audited a.audited.verdict r) (IsCasesAuditOf settings) (cases_show settings form)
    answer m i j is h (at_end_alone j answer end) counts
