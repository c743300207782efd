-- Which report a run of `audit`, `gate` or `results` delivers.
use Rattle.std.proofs.Common.{◌≡◌, ◌∙◌, ◌⊎◌, ℕ, ◌<◌, List, Option, Some, Result, Ok, Err, Bool, true, false, inl, inr, refl, sym, ap, arith, string_bytes}
use Rattle.std.specs.Prelude.{IfOk}
use Rattle.std.specs.List.{flat_map}
use Rattle.std.specs.declared.alloc.AllocError.{AllocError}
use Rattle.cm_envelope.specs.Device.{CountsFailure, Input, OfInput, OfReads, count_up, greatest_count}
use Rattle.cm_envelope.proofs.Sources.{input_weaker, reads_weaker}
use Rattle.cm_envelope.specs.declared.feed.Trouble.{Trouble}
use Rattle.cm_envelope.specs.declared.feed.Trouble.TheVariants.{ReadFailed, LineTooLong, StreamTooLong, Memory}
use Rattle.cm_attempt.specs.Table.{Table}
use Rattle.cm_attempt.specs.declared.status.Settings.{Settings}
use Rattle.cm_attempt.specs.declared.status.Status.{Status}
use Rattle.cm_audit.specs.Audit.{AnswersAs, AnswersTold, IsAuditOf}
use Rattle.cm_envelope.specs.Feeds.{is_failed_read}
use Rattle.cm_stream.specs.Results.{first_results_fault}
use Rattle.cm_stream.specs.Stream.{Answer, At, Failed, FirstFault, Found, IsFirstFault, NoFault, Troubled, answer_for, answer_of_audit}
use Rattle.cm_stream.specs.Texts.{Utf8}
use Rattle.cm_stream.specs.declared.laws.Audited.{Audited}
use Rattle.ck_commands.specs.Output.{NoneFailed, Report, report_made, trouble_report}
use Rattle.ck_commands.specs.Reading.{HasOutcome, fault_answer, is_failed_attempts_read as results_failed, report_of_read}
use Rattle.ck_commands.specs.Results.{result_text, results_report}
use Rattle.ck_commands.specs.Run.{ReportsAudit, ReportsFirst}
use Rattle.ck_commands.specs.Verdicts.{verdict_report}
use Rattle.ck_commands.specs.declared.report.ExitStatus.TheVariants as exit
use Rattle.ck_commands.specs.declared.report.Report as made

-- this report, or that of no memory
abbrev pub IsOne : Report → Report → Type 0
IsOne report r = (r ≡ report) ⊎ (r ≡ trouble_report Memory)

-- a report that was made is the one that is asked for
pub made_is : (m : Result made.Report AllocError) (report : Report) → IfOk m (λ x. string_bytes x.text ≡ report.text) → IfOk m (λ x. x.status ≡ report.status) → IsOne report (report_made m)
made_is (Ok x) report text status = inl (λ j. record { text = text j; status = status j })
made_is (Err e) report text status = inr refl

-- ---- failed reads

-- where no call failed, none is counted
pub none_failed : (failed : Bool) (old new : ℕ) → CountsFailure failed old new → NoneFailed old new → failed ≡ false
none_failed false old new counts none = refl
none_failed true old new counts none = absurd (never old new counts none.0 none.1)
  where
    never : (old new : ℕ) → new ≡ count_up old → old < greatest_count → new ≡ old → ⊥
    never old new up few same = omega (arith, up, few, same)

-- where the count of failed calls is another, a call failed
pub some_failed : (failed : Bool) (old new : ℕ) → CountsFailure failed old new → (new ≡ old → ⊥) → failed ≡ true
some_failed true old new counts other = refl
some_failed false old new counts other = absurd (other counts)

pub failed_answer : (answer : Result Audited Trouble) → is_failed_read answer ≡ true → answer ≡ Err ReadFailed
failed_answer (Ok a) e = cc
failed_answer (Err ReadFailed) e = refl
failed_answer (Err LineTooLong) e = cc
failed_answer (Err StreamTooLong) e = cc
failed_answer (Err Memory) e = cc

-- ---- audits

module _ (report : Answer → Report) (no_memory : report (Failed Memory) ≡ trouble_report Memory) where
  -- the report of an answer is that of what it is an answer for, but where a read failed
  answer_is : (a : Answer) (answer : Result Audited Trouble) (r : Report) → AnswersAs a answer → is_failed_read answer ≡ false → IsOne (report (answer_of_audit answer)) r → IsOne (report a) r
  answer_is a answer r is none (inr e) = inr e
  answer_is a (Ok x) r is none (inl e) = inl (e ∙ ap report is)
  answer_is a (Err ReadFailed) r is none (inl e) = cc
  answer_is a (Err Memory) r is none (inl e) = inr (e ∙ no_memory)
  answer_is a (Err LineTooLong) r is none (inl e) = inl (e ∙ ap report is)
  answer_is a (Err StreamTooLong) r is none (inl e) = inl (e ∙ ap report is)

  by_first : (settings : Settings) (bytes : List ℕ) (first : FirstFault) (r : Report) → IsFirstFault settings bytes first → IsOne (report (answer_for first)) r
      → ReportsFirst (λ f. report (answer_for f)) settings bytes r ⊎ (r ≡ trouble_report Memory)
  by_first settings bytes first r is (inl e) = inl (first, is, e)
  by_first settings bytes first r is (inr e) = inr e

  pub first_reported : (settings : Settings) (i j : Input) (answer : Result Audited Trouble) (r : Report) → OfInput i j (λ bytes. AnswersTold settings bytes answer) → is_failed_read answer ≡ false
      → IsOne (report (answer_of_audit answer)) r → OfInput i j (λ bytes. ReportsFirst (λ f. report (answer_for f)) settings bytes r ⊎ (r ≡ trouble_report Memory))
  first_reported settings i j answer r told none one =
      input_weaker {P = λ bytes. AnswersTold settings bytes answer} {Q = λ bytes. ReportsFirst (λ f. report (answer_for f)) settings bytes r ⊎ (r ≡ trouble_report Memory)} i j told
      (λ xs h. by_first settings xs h.first r h.is_first (answer_is (answer_for h.first) answer r h.answers none one))

  pub read_failed_reported : (answer : Result Audited Trouble) (r : Report) → report (Failed ReadFailed) ≡ trouble_report ReadFailed → is_failed_read answer ≡ true → IsOne (report (answer_of_audit answer)) r → IsOne (trouble_report ReadFailed) r
  read_failed_reported answer r is failed (inr e) = inr e
  read_failed_reported answer r is failed (inl e) = inl (e ∙ ap (λ (x : Result Audited Trouble). report (answer_of_audit x)) (failed_answer answer failed) ∙ is)

  -- a status other than that of trouble is that of a verdict
  pub audit_reported : (settings : Settings) (i j : Input) (answer : Result Audited Trouble) (r : Report) → ((t : Trouble) → (report (Failed t)).status ≡ exit.Trouble) → IsOne (report (answer_of_audit answer)) r
      → (r.status ≡ exit.Trouble → ⊥) → OfReads i j (IsAuditOf settings answer) → OfReads i j (λ bytes rest. ReportsAudit (λ a x. x ≡ report (answer_of_audit (Ok a))) settings bytes rest r)
  audit_reported settings i j (Ok a) r trouble (inl e) other heard =
      reads_weaker {P = IsAuditOf settings (Ok a)} {Q = λ bytes rest. ReportsAudit (λ b x. x ≡ report (answer_of_audit (Ok b))) settings bytes rest r} i j heard (λ xs ys h. (a, h, e))
  audit_reported settings i j (Err t) r trouble (inl e) other heard = absurd (other (ap (λ (x : Report). x.status) e ∙ trouble t))
  audit_reported settings i j answer r trouble (inr e) other heard = absurd (other (ap (λ (x : Report). x.status) e))

-- ---- results

-- it is that of a failed read
pub failed_read : (held : Result Table (Result Audited Trouble)) → results_failed held ≡ true → held ≡ Err (Err ReadFailed)
failed_read (Ok t) e = cc
failed_read (Err (Ok a)) e = cc
failed_read (Err (Err ReadFailed)) e = refl
failed_read (Err (Err LineTooLong)) e = cc
failed_read (Err (Err StreamTooLong)) e = cc
failed_read (Err (Err Memory)) e = cc

pub failed_outcome : (held : Result Table (Result Audited Trouble)) (r : Report) → results_failed held ≡ true → IsOne (report_of_read held) r → IsOne (trouble_report ReadFailed) r
failed_outcome held r failed (inr e) = inr e
failed_outcome held r failed (inl e) = inl (e ∙ ap report_of_read (failed_read held failed))

-- the report of a first fault is that of its answer
answer_reported : (told : FirstFault) (a : Answer) → fault_answer told ≡ Some a → verdict_report a ≡ results_report told
answer_reported (At n f) a e = let same : a ≡ Found n f = cc in ap verdict_report same
answer_reported (Troubled t) a e = let same : a ≡ Failed t = cc in ap verdict_report same
answer_reported (NoFault es) a e = cc

-- what is reported is that of the stream, but where a read failed
outcome_is : (told : FirstFault) (held : Result Table (Result Audited Trouble)) (r : Report) → HasOutcome told held → results_failed held ≡ false → IsOne (report_of_read held) r → IsOne (results_report told) r
outcome_is told held r is none (inr e) = inr e
outcome_is told (Ok t) r is none (inl e) =
    inl (e ∙ ap (λ (rs : List (Utf8 × Option Status)). let x : Report = record { text = flat_map result_text rs; status = exit.Done } in x) is.2 ∙ ap results_report (sym is.1))
outcome_is told (Err (Ok a)) r is none (inl e) = inl (e ∙ answer_reported told (answer_of_audit (Ok a)) is)
outcome_is told (Err (Err ReadFailed)) r is none (inl e) = cc
outcome_is told (Err (Err LineTooLong)) r is none (inl e) = inl (e ∙ answer_reported told (Failed LineTooLong) is)
outcome_is told (Err (Err StreamTooLong)) r is none (inl e) = inl (e ∙ answer_reported told (Failed StreamTooLong) is)
outcome_is told (Err (Err Memory)) r is none (inl e) = inr e

pub outcome_reported : (first : ℕ) (i j : Input) (held : Result Table (Result Audited Trouble)) (r : Report) → OfInput i j (λ bytes. HasOutcome (first_results_fault first bytes) held) → results_failed held ≡ false
    → IsOne (report_of_read held) r → OfInput i j (λ bytes. IsOne (results_report (first_results_fault first bytes)) r)
outcome_reported first i j held r is none one =
    input_weaker {P = λ bytes. HasOutcome (first_results_fault first bytes) held} {Q = λ bytes. IsOne (results_report (first_results_fault first bytes)) r} i j is (λ xs h. outcome_is (first_results_fault first xs) held r h none one)
