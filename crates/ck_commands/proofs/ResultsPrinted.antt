-- What the command `results` reports.
use Rattle.std.proofs.Common.{◌≡◌, ◌∙◌, ℕ, List, Result, Ok, Err, true, false, inl, inr, refl, sym, ap}
use Rattle.cm_envelope.specs.Device.{CountsFailure, Input, OfInput, OfReads}
use Rattle.cm_envelope.proofs.Sources.{reads_weaker}
use Rattle.cm_envelope.specs.declared.feed.Trouble.{Trouble}
use Rattle.cm_envelope.specs.declared.feed.Trouble.TheVariants.{ReadFailed, LineTooLong, StreamTooLong, Memory}
use Rattle.cm_attempt.specs.Table.{Table}
use Rattle.cm_stream.specs.Results.{first_results_fault}
use Rattle.cm_stream.specs.declared.laws.Audited.{Audited}
use Rattle.cm_audit.specs.Audit.{audited_at}
use Rattle.cm_judge.specs.declared.stop.Stop.{Stop}
use Rattle.cm_judge.specs.declared.stop.Stop.TheVariants as stop
use Rattle.ck_command_line.specs.CommandLine.{ask_results}
use Rattle.ck_commands.specs.Output.{Report}
use Rattle.ck_commands.specs.Reading.{HasOutcome, is_failed_attempts_read, report_of_read}
use Rattle.ck_commands.specs.Results.{ResultsShowNoFault, results_report}
use Rattle.ck_commands.specs.declared.report.ExitStatus.TheVariants as exit
use Rattle.ck_commands.proofs.Printing.{IsOne, failed_outcome, failed_read, none_failed, outcome_reported, some_failed}
use Rattle.ck_commands.specs.Run.{IsReportOf}

-- with another status than that of trouble no read failed
was_read : (held : Result Table (Result Audited Trouble)) (r : Report) → IsOne (report_of_read held) r → (r.status ≡ exit.Trouble → ⊥) → is_failed_attempts_read held ≡ false
was_read held r (inr e) other = absurd (other (ap (λ (x : Report). x.status) e))
was_read (Ok t) r (inl e) other = refl
was_read (Err (Ok a)) r (inl e) other = refl
was_read (Err (Err ReadFailed)) r (inl e) other = absurd (other (ap (λ (x : Report). x.status) e))
was_read (Err (Err LineTooLong)) r (inl e) other = refl
was_read (Err (Err StreamTooLong)) r (inl e) other = refl
was_read (Err (Err Memory)) r (inl e) other = refl

made : (first : ℕ) (bytes : List ℕ) (r : Report) → IsOne (results_report (first_results_fault first bytes)) r → (r.status ≡ exit.Trouble → ⊥) → r ≡ results_report (first_results_fault first bytes)
made first bytes r (inl e) other = e
made first bytes r (inr e) other = absurd (other (ap (λ (x : Report). x.status) e))

not_counted : (held : Result Table (Result Audited Trouble)) (old new : ℕ) → CountsFailure (is_failed_attempts_read held) old new → (report_of_read held).status ≡ exit.Done → new ≡ old
not_counted (Ok t) old new counts done = counts
not_counted (Err (Ok a)) old new counts done = counts
not_counted (Err (Err ReadFailed)) old new counts done = cc
not_counted (Err (Err LineTooLong)) old new counts done = counts
not_counted (Err (Err StreamTooLong)) old new counts done = counts
not_counted (Err (Err Memory)) old new counts done = counts

done_of : (held : Result Table (Result Audited Trouble)) (r : Report) → IsOne (report_of_read held) r → r.status ≡ exit.Done → (report_of_read held).status ≡ exit.Done
done_of held r (inl e) done = sym (ap (λ (x : Report). x.status) e) ∙ done
done_of held r (inr e) done = let no : exit.Trouble ≡ exit.Done = sym (ap (λ (x : Report). x.status) e) ∙ done in cc

pub results_are_reported : (first : ℕ) (held : Result Table (Result Audited Trouble)) (r : Report) (i j : Input) → OfInput i j (λ bytes. HasOutcome (first_results_fault first bytes) held)
    → ((report_of_read held).status ≡ exit.Done → j.is_over ≡ true) → CountsFailure (is_failed_attempts_read held) i.failed_calls j.failed_calls
    → (held ≡ Err (Err ReadFailed) → OfReads i j (ResultsShowNoFault first)) → IsOne (report_of_read held) r → IsReportOf (ask_results first) r i j
results_are_reported first held r i j is over counts none one = record {
  answer = λ all. outcome_reported first i j held r is (none_failed _ _ _ counts all) one;
  tells = λ other.
      reads_weaker {P = λ bytes rest. IsOne (results_report (first_results_fault first bytes)) r} {Q = λ bytes rest. r ≡ results_report (first_results_fault first bytes)} i j
      (outcome_reported first i j held r is (was_read held r one other) one) (λ xs ys h. made first xs r h other);
  over = λ done. over (done_of held r one done);
  no_fault = λ more. none (failed_read held (some_failed _ _ _ counts more));
  read_failed = λ more. failed_outcome held r (some_failed _ _ _ counts more) one;
  unread = λ done. not_counted held _ _ counts (done_of held r one done);
}

-- the answer at a line isn't Good
pub not_good_at : (n : ℕ) (why : Stop) → (let held : Result Table (Result Audited Trouble) = Err (audited_at n why) in (report_of_read held).status) ≡ exit.Done → ⊥
not_good_at n (stop.Bad b) e = cc
not_good_at n (stop.Unsupported r) e = cc
not_good_at n stop.Memory e = cc
