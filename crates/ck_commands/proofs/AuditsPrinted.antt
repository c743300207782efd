-- What the command `audit` reports.
use Rattle.std.proofs.Common.{◌≡◌, ◌≢◌, ◌∙◌, ℕ, Result, Ok, Err, Bool, true, inl, inr, refl, sym, ap}
use Rattle.cm_envelope.specs.Device.{CountsFailure, Input, OfInput, OfReads}
use Rattle.cm_envelope.proofs.Sources.{of_reads, reads_weaker}
use Rattle.cm_envelope.specs.declared.feed.Trouble.{Trouble}
use Rattle.cm_attempt.specs.declared.status.Settings.{Settings}
use Rattle.cm_audit.specs.Audit.{AnswersTold, Audits, GoodAtEnd, GoodAtEndIn, IsAuditOf, ShowNoFault}
use Rattle.cm_envelope.specs.Feeds.{is_failed_read}
use Rattle.cm_stream.specs.Findings.{Finding, IsBad, IsUnsupported}
use Rattle.cm_stream.specs.Stream.{Answer, Failed, Found, answer_of_audit}
use Rattle.cm_stream.specs.declared.laws.Audited.{Audited}
use Rattle.cm_stream.specs.declared.laws.Verdict.{Verdict}
use Rattle.cm_stream.specs.declared.laws.Verdict.TheVariants as verdict
use Rattle.ck_command_line.specs.CommandLine.{ask_audit}
use Rattle.ck_commands.specs.Output.{Report}
use Rattle.ck_commands.specs.Verdicts.{verdict_report}
use Rattle.ck_commands.specs.declared.report.ExitStatus.TheVariants as exit
use Rattle.ck_commands.proofs.Printing.{IsOne, audit_reported, failed_answer, first_reported, none_failed, read_failed_reported, some_failed}
use Rattle.ck_commands.specs.Run.{IsReportOf}

not_done : (n : ℕ) (f : Finding) → (verdict_report (Found n f)).status ≡ exit.Done → ⊥
not_done n (IsBad f) e = cc
not_done n (IsUnsupported r) e = cc

module _ (report : Answer → Report) (found : (n : ℕ) (f : Finding) → (report (Found n f)).status ≡ exit.Done → ⊥) (trouble : (t : Trouble) → (report (Failed t)).status ≡ exit.Trouble) where
  of_verdict : (j : Input) (v : Verdict) (success : Bool) → GoodAtEndIn j v → (report (answer_of_audit (Ok (record { verdict = v; success = success })))).status ≡ exit.Done → j.is_over ≡ true
  of_verdict j (verdict.Good counts) success over e = over
  of_verdict j (verdict.Bad n b) success over e = absurd (found n _ e)
  of_verdict j (verdict.Unsupported n r) success over e = absurd (found n _ e)

  -- with status 0 the source was at its end, and no read failed
  over_at : (j : Input) (answer : Result Audited Trouble) (r : Report) → GoodAtEnd j answer → IsOne (report (answer_of_audit answer)) r → r.status ≡ exit.Done → j.is_over ≡ true
  over_at j answer r over (inr e) done = let no : exit.Trouble ≡ exit.Done = ap (λ (x : Report). x.status) (sym e) ∙ done in cc
  over_at j (Ok a) r over (inl e) done = of_verdict j a.verdict a.success over (ap (λ (x : Report). x.status) (sym e) ∙ done)
  over_at j (Err t) r over (inl e) done = let no : exit.Trouble ≡ exit.Done = sym (trouble t) ∙ ap (λ (x : Report). x.status) (sym e) ∙ done in cc

  unread_at : (i j : Input) (answer : Result Audited Trouble) (r : Report) → CountsFailure (is_failed_read answer) i.failed_calls j.failed_calls → IsOne (report (answer_of_audit answer)) r → r.status ≡ exit.Done
      → j.failed_calls ≡ i.failed_calls
  unread_at i j answer r counts (inr e) done = let no : exit.Trouble ≡ exit.Done = ap (λ (x : Report). x.status) (sym e) ∙ done in cc
  unread_at i j (Ok a) r counts (inl e) done = counts
  unread_at i j (Err t) r counts (inl e) done = let no : exit.Trouble ≡ exit.Done = sym (trouble t) ∙ ap (λ (x : Report). x.status) (sym e) ∙ done in cc

told_of : (settings : Settings) (answer : Result Audited Trouble) (i j : Input) → Audits settings answer i j → OfInput i j (λ bytes. AnswersTold settings bytes answer)
told_of settings answer i j h = of_reads {P = IsAuditOf settings answer} {Q = λ bytes. AnswersTold settings bytes answer} i j h.heard (λ xs ys a. a.told)

no_fault_of : (settings : Settings) (answer : Result Audited Trouble) (i j : Input) → Audits settings answer i j → j.failed_calls ≢ i.failed_calls → OfReads i j (ShowNoFault settings)
no_fault_of settings answer i j h more =
    let failed = failed_answer answer (some_failed _ _ _ h.failures more) in
    reads_weaker {P = IsAuditOf settings answer} {Q = ShowNoFault settings} i j h.heard (λ xs ys a. a.read_failed failed)

pub audit_is_reported : (settings : Settings) (answer : Result Audited Trouble) (r : Report) (i j : Input) → Audits settings answer i j → IsOne (verdict_report (answer_of_audit answer)) r → IsReportOf (ask_audit settings) r i j
audit_is_reported settings answer r i j h one = record {
  answer = λ reads. first_reported verdict_report refl settings i j answer r (told_of settings answer i j h) (none_failed _ _ _ h.failures reads) one;
  tells = λ other. audit_reported verdict_report refl settings i j answer r (λ t. refl) one other h.heard;
  over = over_at verdict_report not_done (λ t. refl) j answer r h.at_end one;
  no_fault = no_fault_of settings answer i j h;
  read_failed = λ more. read_failed_reported verdict_report refl answer r refl (some_failed _ _ _ h.failures more) one;
  unread = unread_at verdict_report not_done (λ t. refl) i j answer r h.failures one;
}
