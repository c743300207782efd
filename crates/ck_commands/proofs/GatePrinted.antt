-- What the command `gate` reports.
use Rattle.std.proofs.Common.{◌≡◌, ◌∙◌, ◌⊎◌, ℕ, List, Option, Result, Ok, Err, Bool, true, inl, inr, string_bytes, subst, sym, ap}
use Rattle.std.specs.Prelude.{IfOk}
use Rattle.std.specs.declared.alloc.AllocError.{AllocError}
use Rattle.cm_attempt.specs.declared.status.Settings.{Settings}
use Rattle.cm_envelope.specs.Device.{CountsFailure, Input, OfReads}
use Rattle.cm_envelope.specs.declared.envelope.Envelope.{Envelope}
use Rattle.cm_envelope.specs.declared.feed.Trouble.{Trouble}
use Rattle.cm_envelope.specs.declared.feed.Trouble.TheVariants.{ReadFailed, LineTooLong, StreamTooLong, Memory}
use Rattle.cm_stream.specs.References.{run_succeeded}
use Rattle.cm_stream.specs.Release.{Conditions, hold_of, release_counts_of}
use Rattle.cm_stream.specs.Findings.{Finding, IsBad, IsUnsupported, stream_fault_named}
use Rattle.cm_stream.specs.Stream.{At, Failed, FirstFault, Found, GoodRunIn, GoodWith, NoFault, Troubled, answer_for, counts_of}
use Rattle.cm_stream.specs.declared.laws.ReleaseCounts.{ReleaseCounts}
use Rattle.cm_stream.specs.declared.laws.Hold.{Hold}
use Rattle.cm_stream.specs.declared.laws.Verdict.{Verdict}
use Rattle.cm_stream.specs.declared.laws.Verdict.TheVariants as verdict
use Rattle.cm_stream.proofs.ByGrammar.{is_first, reported}
use Rattle.cm_stream.proofs.Streams.{read_is_told}
use Rattle.cm_audit.specs.Audit.{AnswersTold, GoodAtEnd, GoodAtEndIn, IsAuditOf}
use Rattle.cm_envelope.specs.Feeds.{is_failed_read}
use Rattle.cm_release.specs.Reasons.{AreReasons}
use Rattle.cm_audit_release.specs.ReleaseAudit.{CountsGood, IsReleaseAuditOf, audited_in}
use Rattle.cm_audit_release.specs.declared.audited_release.AuditedRelease.{AuditedRelease}
use Rattle.ck_command_line.specs.CommandLine.{ask_gate}
use Rattle.cm_fault_reasons.specs.AtLine.{IsToldUnder}
use Rattle.ck_commands.specs.Gate.{IsGateReport, ReleasesOrTells, ReportsHeld, ReportsRelease, finding_told, held_report, hold_in}
use Rattle.ck_commands.specs.Output.{IsReport, report_made, trouble_report}
use Rattle.ck_commands.specs.Run.{Reports}
use Rattle.ck_commands.specs.declared.report.ExitStatus.TheVariants as exit
use Rattle.ck_commands.specs.declared.report.Report as made
use Rattle.ck_commands.proofs.AuditsBeside.{Shows, alone, audit_beside_is_reported, report_is}
use Rattle.ck_commands.specs.Run.{IsReportOf}

-- by what is answered
finding_first : (first : FirstFault) (n : ℕ) (f : Finding) → Found n f ≡ answer_for first → At n f ≡ first
finding_first (At m g) n f e = cc
finding_first (Troubled t) n f e = cc
finding_first (NoFault es) n f e = cc

trouble_first : (first : FirstFault) (t : Trouble) → Failed t ≡ answer_for first → Troubled t ≡ first
trouble_first (At m g) t e = cc
trouble_first (Troubled u) t e = cc
trouble_first (NoFault es) t e = cc

module _ (settings : Settings) (asked : Conditions) where
  tells_finding : (bytes reasons : List ℕ) (first : FirstFault) (n : ℕ) (f : Finding) (x : made.Report) → Found n f ≡ answer_for first → IsToldUnder settings bytes n f reasons → IsReport (finding_told n f reasons) x
      → IsGateReport settings asked bytes first (report_made (Ok x))
  tells_finding bytes reasons first n f x e told is =
      subst (λ (o : FirstFault). IsGateReport settings asked bytes o (report_made (Ok x))) (finding_first first n f e) (reasons, told, report_is (finding_told n f reasons) x is)

  tells_trouble : (bytes : List ℕ) (first : FirstFault) (t : Trouble) (x : made.Report) → Failed t ≡ answer_for first → IsReport (trouble_report t) x → IsGateReport settings asked bytes first (report_made (Ok x))
  tells_trouble bytes first t x e is = subst (λ (o : FirstFault). IsGateReport settings asked bytes o (report_made (Ok x))) (trouble_first first t e) (report_is (trouble_report t) x is)

  module _ (found : ReleaseCounts) (held : Option Hold) (reasons : List ℕ) where
    of_verdict : (bytes : List ℕ) (success : Bool) (v : Verdict) (x : made.Report) → ReportsHeld asked.is_part found held reasons (record { verdict = v; success = success }) v x
        → CountsGood settings asked success found held reasons bytes v → AnswersTold settings bytes (Ok (record { verdict = v; success = success })) → Reports (ask_gate settings asked) bytes (report_made (Ok x))
    of_verdict bytes success (verdict.Good counts) x r c h =
        let es = c.judged in
        let good = read_is_told settings bytes c.judged c.read c.good in
        let first : h.first ≡ NoFault es = sym (reported settings bytes h.first h.is_first) ∙ good in
        let same : GoodWith counts success ≡ GoodWith (counts_of es) (run_succeeded es) = h.answers ∙ ap answer_for first in
        let counts_are : counts ≡ counts_of es = cc in
        let success_is : success ≡ run_succeeded es = cc in
        let same_hold : held ≡ hold_in settings asked es = c.is.first ∙ (λ j. hold_of asked (success_is j) (counts_are j) (c.is.counted j)) in (
          NoFault es,
          is_first settings bytes (NoFault es) good,
          (
            reasons,
            subst (λ (o : Option Hold). AreReasons settings.policy asked es o reasons) same_hold c.is.told,
            report_is (held_report asked.is_part held counts found reasons) x r ∙ (λ j. held_report asked.is_part (same_hold j) (counts_are j) (c.is.counted j) reasons),
          ),
        )
    of_verdict bytes success (verdict.Bad n b) x r c h = (h.first, h.is_first, tells_finding bytes reasons h.first n (IsBad (stream_fault_named b)) x h.answers c r)
    of_verdict bytes success (verdict.Unsupported n u) x r c h = (h.first, h.is_first, tells_finding bytes reasons h.first n (IsUnsupported u) x h.answers c r)

    releases_or_tells : (bytes : List ℕ) (success : Bool) (v : Verdict) (x : made.Report) → ReportsHeld asked.is_part found held reasons (record { verdict = v; success = success }) v x
        → CountsGood settings asked success found held reasons bytes v → GoodRunIn settings bytes v success → ReleasesOrTells settings asked bytes (record { verdict = v; success = success }) v (report_made (Ok x))
    releases_or_tells bytes success (verdict.Good counts) x r c run =
        let here = read_is_told settings bytes c.judged c.read c.good in
        let there = read_is_told settings bytes run.judged run.read run.good in
        let same : c.judged ≡ run.judged = cc in
        let counted : found ≡ release_counts_of asked settings.policy run.judged = c.is.counted ∙ ap (release_counts_of asked settings.policy) same in
        let same_hold : held ≡ hold_of asked success counts (release_counts_of asked settings.policy run.judged) = c.is.first ∙ ap (hold_of asked success counts) counted in (
          run,
          (
            reasons,
            subst (λ (o : Option Hold). AreReasons settings.policy asked run.judged o reasons) same_hold (subst (λ (es : List Envelope). AreReasons settings.policy asked es held reasons) same c.is.told),
            report_is (held_report asked.is_part held counts found reasons) x r ∙ (λ j. held_report asked.is_part (same_hold j) counts (counted j) reasons),
          ),
        )
    releases_or_tells bytes success (verdict.Bad n b) x r c run = (reasons, c, report_is _ x r)
    releases_or_tells bytes success (verdict.Unsupported n u) x r c run = (reasons, c, report_is _ x r)

    pub done_at_end : (j : Input) (success : Bool) (v : Verdict) (x : made.Report) → ReportsHeld asked.is_part found held reasons (record { verdict = v; success = success }) v x → GoodAtEndIn j v → x.status ≡ exit.Done → j.is_over ≡ true
    done_at_end j success (verdict.Good counts) x r over done = over
    done_at_end j success (verdict.Bad n b) x r over done = let no : exit.Refused ≡ exit.Done = sym r.1 ∙ done in cc
    done_at_end j success (verdict.Unsupported n u) x r over done = let no : exit.Unsupported ≡ exit.Done = sym r.1 ∙ done in cc

  of_trouble : (t : Trouble) (x : made.Report) (bytes : List ℕ) → IsReport (trouble_report t) x → AnswersTold settings bytes (Err t) → (t ≡ LineTooLong) ⊎ (t ≡ StreamTooLong) → Reports (ask_gate settings asked) bytes (report_made (Ok x))
  of_trouble LineTooLong x bytes is h e = (h.first, h.is_first, tells_trouble bytes h.first LineTooLong x h.answers is)
  of_trouble StreamTooLong x bytes is h e = (h.first, h.is_first, tells_trouble bytes h.first StreamTooLong x h.answers is)
  of_trouble ReadFailed x bytes is h (inl e) = cc
  of_trouble ReadFailed x bytes is h (inr e) = cc
  of_trouble Memory x bytes is h (inl e) = cc
  of_trouble Memory x bytes is h (inr e) = cc

  audit_alone : (answer : Result AuditedRelease Trouble) (bytes rest : List ℕ) → IsReleaseAuditOf settings asked answer bytes rest → IsAuditOf settings (alone (λ a. a.audited) answer) bytes rest
  audit_alone (Ok a) bytes rest h = h.audit
  audit_alone (Err t) bytes rest h = h.audit

  pub gate_shows : Shows (ask_gate settings asked) settings (λ a. a.audited) (λ a r. ReportsHeld asked.is_part a.found a.hold (string_bytes a.reasons) a.audited a.audited.verdict r) (IsReleaseAuditOf settings asked)
  gate_shows = record {
    audit = audit_alone;
    of_audit = λ a x bytes rest is h. of_verdict a.found a.hold (string_bytes a.reasons) bytes a.audited.success a.audited.verdict x is h.counted h.audit.told;
    of_trouble = of_trouble;
    tells = λ a x bytes rest is h. (a.audited, h.audit, releases_or_tells a.found a.hold (string_bytes a.reasons) bytes a.audited.success a.audited.verdict x is h.counted h.audit.good);
    at_end = λ a x j is end done. done_at_end a.found a.hold (string_bytes a.reasons) j a.audited.success a.audited.verdict x is end done;
    no_fault = λ bytes rest h. h;
  }

at_end_alone : (j : Input) (answer : Result AuditedRelease Trouble) → GoodAtEnd j (audited_in answer) → GoodAtEnd j (alone (λ a. a.audited) answer)
at_end_alone j (Ok a) h = h
at_end_alone j (Err t) h = h

pub gate_is_reported : (settings : Settings) (asked : Conditions) (answer : Result AuditedRelease Trouble) (m : Result made.Report AllocError) (i j : Input) → IfOk m (ReportsRelease asked.is_part answer) → OfReads i j (IsReleaseAuditOf settings asked answer)
    → GoodAtEnd j (audited_in answer) → CountsFailure (is_failed_read answer) i.failed_calls j.failed_calls → IsReportOf (ask_gate settings asked) (report_made m) i j
gate_is_reported settings asked answer m i j is h end counts =
    audit_beside_is_reported (ask_gate settings asked) settings (λ a. a.audited) (λ a r. ReportsHeld asked.is_part a.found a.hold (string_bytes a.reasons) a.audited a.audited.verdict r) (IsReleaseAuditOf settings asked) (gate_shows settings asked)
    answer m i j is h (at_end_alone j answer end) counts
