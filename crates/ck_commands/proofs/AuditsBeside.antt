-- What a command reports that audits a stream, with something beside the audit.
use Rattle.std.proofs.Common.{◌≡◌, ◌∙◌, ◌⊎◌, ℕ, List, Result, Ok, Err, true, false, inl, inr, refl, sym}
use Rattle.std.specs.Prelude.{IfOk}
use Rattle.std.specs.declared.alloc.AllocError.{AllocError}
use Rattle.cm_attempt.specs.declared.status.Settings.{Settings}
use Rattle.cm_envelope.specs.Device.{CountsFailure, Input, OfReads}
use Rattle.cm_envelope.specs.Feeds.{is_failed_read}
use Rattle.cm_envelope.specs.declared.feed.Trouble.{Trouble}
use Rattle.cm_envelope.specs.declared.feed.Trouble.TheVariants.{ReadFailed, LineTooLong, StreamTooLong, Memory}
use Rattle.cm_envelope.proofs.Sources.{of_reads, reads_weaker}
use Rattle.cm_audit.specs.Audit.{AnswersTold, GoodAtEnd, IsAuditOf, ShowNoFault}
use Rattle.cm_stream.specs.declared.laws.Audited.{Audited}
use Rattle.ck_command_line.specs.CommandLine.{Command}
use Rattle.ck_commands.specs.Output.{IsReport, Report, ReportsAnswer, report_made, trouble_report}
use Rattle.ck_commands.specs.Run.{Reports, ShowsNone, Tells}
use Rattle.ck_commands.specs.declared.report.ExitStatus.TheVariants as exit
use Rattle.ck_commands.specs.declared.report.Report as made
use Rattle.ck_commands.proofs.Printing.{none_failed, some_failed}
use Rattle.ck_commands.specs.Run.{IsReportOf}

-- the report that was made is the one that is asked for
pub report_is : (report : Report) (x : made.Report) → IsReport report x → report_made (Ok x) ≡ report
report_is report x is = λ j. record { text = is.0 j; status = is.1 j }

-- the audit alone
abbrev pub alone : {A : Type 0} → (A → Audited) → Result A Trouble → Result Audited Trouble
alone audited (Ok a) = Ok (audited a)
alone audited (Err t) = Err t

-- What a command has to show: what it says of an audit with what is beside it, and of a trouble.
pub record Shows {A : Type 0} (c : Command) (settings : Settings) (audited : A → Audited) (P : A → made.Report → Type 0) (Holds : Result A Trouble → (bytes rest : List ℕ) → Type 0) : Type 0 where
  pub audit : (answer : Result A Trouble) (bytes rest : List ℕ) → Holds answer bytes rest → IsAuditOf settings (alone audited answer) bytes rest
  pub of_audit : (a : A) (x : made.Report) (bytes rest : List ℕ) → P a x → Holds (Ok a) bytes rest → Reports c bytes (report_made (Ok x))
  pub of_trouble : (t : Trouble) (x : made.Report) (bytes : List ℕ) → IsReport (trouble_report t) x → (told : AnswersTold settings bytes (Err t)) → (t ≡ LineTooLong) ⊎ (t ≡ StreamTooLong) → Reports c bytes (report_made (Ok x))
  pub tells : (a : A) (x : made.Report) (bytes rest : List ℕ) → P a x → Holds (Ok a) bytes rest → Tells c bytes rest (report_made (Ok x))
  pub at_end : (a : A) (x : made.Report) (j : Input) → P a x → GoodAtEnd j (Ok (audited a)) → x.status ≡ exit.Done → j.is_over ≡ true
  pub no_fault : (bytes rest : List ℕ) → ShowNoFault settings bytes rest → ShowsNone c bytes rest

module _ {A : Type 0} (c : Command) (settings : Settings) (audited : A → Audited) (P : A → made.Report → Type 0) (Holds : Result A Trouble → (bytes rest : List ℕ) → Type 0) (shows : Shows c settings audited P Holds) where
  -- this is what is reported, or that there was no memory
  abbrev IsReported : List ℕ → Report → Type 0
  IsReported bytes r = Reports c bytes r ⊎ (r ≡ trouble_report Memory)

  reports : (answer : Result A Trouble) (m : Result made.Report AllocError) (bytes rest : List ℕ) → IfOk m (ReportsAnswer P answer) → is_failed_read answer ≡ false → Holds answer bytes rest → IsReported bytes (report_made m)
  reports answer (Err e) bytes rest is none h = inr refl
  reports (Ok a) (Ok x) bytes rest is none h = inl (shows.of_audit a x bytes rest is h)
  reports (Err ReadFailed) (Ok x) bytes rest is none h = cc
  reports (Err Memory) (Ok x) bytes rest is none h = inr (report_is (trouble_report Memory) x is)
  reports (Err LineTooLong) (Ok x) bytes rest is none h = inl (shows.of_trouble LineTooLong x bytes is (shows.audit (Err LineTooLong) bytes rest h).told (inl refl))
  reports (Err StreamTooLong) (Ok x) bytes rest is none h = inl (shows.of_trouble StreamTooLong x bytes is (shows.audit (Err StreamTooLong) bytes rest h).told (inr refl))

  tells : (answer : Result A Trouble) (m : Result made.Report AllocError) (i j : Input) → IfOk m (ReportsAnswer P answer) → ((report_made m).status ≡ exit.Trouble → ⊥) → OfReads i j (Holds answer)
      → OfReads i j (λ bytes rest. Tells c bytes rest (report_made m))
  tells answer (Err e) i j is other h = absurd (other refl)
  tells (Ok a) (Ok x) i j is other h = reads_weaker {P = Holds (Ok a)} {Q = λ bytes rest. Tells c bytes rest (report_made (Ok x))} i j h (λ xs ys k. shows.tells a x xs ys is k)
  tells (Err t) (Ok x) i j is other h = absurd (other is.1)

  over : (answer : Result A Trouble) (m : Result made.Report AllocError) (j : Input) → IfOk m (ReportsAnswer P answer) → GoodAtEnd j (alone audited answer) → (report_made m).status ≡ exit.Done → j.is_over ≡ true
  over answer (Err e) j is end done = cc
  over (Ok a) (Ok x) j is end done = shows.at_end a x j is end done
  over (Err t) (Ok x) j is end done = let no : exit.Trouble ≡ exit.Done = sym is.1 ∙ done in cc

  unread : (answer : Result A Trouble) (m : Result made.Report AllocError) (old new : ℕ) → IfOk m (ReportsAnswer P answer) → CountsFailure (is_failed_read answer) old new → (report_made m).status ≡ exit.Done → new ≡ old
  unread answer (Err e) old new is counts done = cc
  unread (Ok a) (Ok x) old new is counts done = counts
  unread (Err t) (Ok x) old new is counts done = let no : exit.Trouble ≡ exit.Done = sym is.1 ∙ done in cc

  -- a failed read
  failed : (answer : Result A Trouble) → is_failed_read answer ≡ true → alone audited answer ≡ Err ReadFailed
  failed (Ok a) e = cc
  failed (Err ReadFailed) e = refl
  failed (Err LineTooLong) e = cc
  failed (Err StreamTooLong) e = cc
  failed (Err Memory) e = cc

  failure : (answer : Result A Trouble) (m : Result made.Report AllocError) → IfOk m (ReportsAnswer P answer) → is_failed_read answer ≡ true → (report_made m ≡ trouble_report ReadFailed) ⊎ (report_made m ≡ trouble_report Memory)
  failure answer (Err e) is k = inr refl
  failure (Ok a) (Ok x) is k = cc
  failure (Err ReadFailed) (Ok x) is k = inl (report_is (trouble_report ReadFailed) x is)
  failure (Err LineTooLong) (Ok x) is k = cc
  failure (Err StreamTooLong) (Ok x) is k = cc
  failure (Err Memory) (Ok x) is k = cc

  pub audit_beside_is_reported : (answer : Result A Trouble) (m : Result made.Report AllocError) (i j : Input) → IfOk m (ReportsAnswer P answer) → OfReads i j (Holds answer)
      → GoodAtEnd j (alone audited answer) → CountsFailure (is_failed_read answer) i.failed_calls j.failed_calls → IsReportOf c (report_made m) i j
  audit_beside_is_reported answer m i j is h end counts = record {
    answer = λ all. of_reads {P = Holds answer} {Q = λ bytes. IsReported bytes (report_made m)} i j h (λ xs ys k. reports answer m xs ys is (none_failed _ _ _ counts all) k);
    tells = λ other. tells answer m i j is other h;
    over = over answer m j is end;
    no_fault = λ more.
        let none = failed answer (some_failed _ _ _ counts more) in
        reads_weaker {P = Holds answer} {Q = ShowsNone c} i j h (λ xs ys k. shows.no_fault xs ys ((shows.audit answer xs ys k).read_failed none));
    read_failed = λ more. failure answer m is (some_failed _ _ _ counts more);
    unread = unread answer m _ _ is counts;
  }
