-- The audit with what is marked, from the audit that was watched.
use Rattle.std.proofs.Common.{◌≡◌, ◌∙◌, refl, sym, ap, subst, ℕ, true, List, Option, Some, None, Result, Ok, Err}
use Rattle.cm_attempt.specs.Table.{Table}
use Rattle.cm_attempt.specs.declared.status.Settings.{Settings}
use Rattle.cm_envelope.specs.declared.envelope.Envelope.{Envelope}
use Rattle.cm_envelope.specs.Device.{CountsFailure, Input, OfReads}
use Rattle.cm_envelope.specs.Feeds.{is_failed_read}
use Rattle.cm_envelope.specs.declared.feed.Trouble.{Trouble}
use Rattle.cm_envelope.proofs.Sources.{reads_weaker}
use Rattle.cm_stream.specs.Release.{Conditions}
use Rattle.cm_stream.specs.declared.laws.Audited.{Audited}
use Rattle.cm_stream.specs.declared.laws.Hold.{Hold}
use Rattle.cm_stream.specs.declared.laws.Verdict.{Verdict}
use Rattle.cm_stream.specs.declared.laws.Verdict.TheVariants as verdict
use Rattle.cm_audit.specs.Audit.{GoodAtEnd, GoodAtEndIn, IsAuditOf}
use Rattle.cm_judge.specs.State.{summary_of}
use Rattle.cm_audit.specs.Watched.{FollowsGood, IsWatchedAuditOf, audit_in}
use Rattle.cm_audit.specs.declared.auditing.WatchedAudit.{WatchedAudit}
use Rattle.cm_ran.specs.Marks.{MarksWhatRan}
use Rattle.cm_ran.specs.declared.marks.Marks.{Marks}
use Rattle.cm_audit_release.specs.PartAudit.{IsMarkedBy, IsPartAuditOf, MarksJudged, is_released, is_unheld}
use Rattle.cm_audit_release.specs.ReleaseAudit.{CountsWatched, IsReleaseAuditOf, audited_in, release_in}
use Rattle.cm_release.specs.Tallied.{IsTallyOf}
use Rattle.cm_release.specs.declared.tally.Tally.{Tally}
use Rattle.cm_audit_release.specs.Watched.{Follows}
use Rattle.cm_audit_release.specs.declared.audited_release.AuditedRelease.{AuditedRelease}
use Rattle.cm_audit_release.specs.declared.audited_release.JudgedAudit.{JudgedAudit}
use Rattle.cm_audit_release.specs.declared.audited_release.ReleaseWatch.{ReleaseWatch}
use Rattle.cm_audit_release.proofs.ReleaseAudit.{memory_too, release_at_end, release_failures, told}

module _ (settings : Settings) (asked : Conditions) (old new : Marks) where
  marked_by : (watch : ReleaseWatch) (table : Table) (xs : List ℕ) (v : Verdict) (hold : Option Hold) → is_unheld v hold ≡ true → FollowsGood settings (Follows watch) table xs v
      → ((es : List Envelope) → IsTallyOf watch.tally es → MarksWhatRan es old new) → IsMarkedBy settings old new xs
  marked_by watch table xs (verdict.Good counts) None is h mark = record { judged = h.judged; read = h.read; good = h.good; marked = mark h.judged h.followed }
  marked_by watch table xs (verdict.Good counts) (Some hold) is h mark = cc
  marked_by watch table xs (verdict.Bad n b) hold is h mark = cc
  marked_by watch table xs (verdict.Unsupported n r) hold is h mark = cc

  part : (answer : Result (WatchedAudit ReleaseWatch) Trouble) (judged : Result JudgedAudit Trouble) (result : Result AuditedRelease Trouble) (xs ys : List ℕ) → CountsWatched settings asked answer judged → MarksJudged judged old new result
      → IsWatchedAuditOf settings Follows answer xs ys → IsPartAuditOf settings asked old new result xs ys
  part (Ok w) (Ok j) (Ok b) xs ys k m h = record {
    release = subst (λ (x : AuditedRelease). IsReleaseAuditOf settings asked (Ok x) xs ys) (sym m.0) (told settings asked (Ok w) (Ok j) xs ys k h);
    marked = (
      λ is.
          let unheld = ap (λ (x : Audited). is_unheld x.verdict j.release.hold) (sym k.audited) ∙ ap is_released (sym m.0) ∙ is in
          let mark = subst (λ (t : Tally). (es : List Envelope) → IsTallyOf t es → MarksWhatRan es old new) k.tally (m.1 (ap is_released (sym m.0) ∙ is)) in
          marked_by w.watch (summary_of w.state).table xs w.audited.verdict j.release.hold unheld h.followed mark,
      λ held. m.2 (ap is_released (sym m.0) ∙ held),
    );
  }
  part (Ok w) (Ok j) (Err t) xs ys k m h = record {
    release = record { audit = subst (λ (x : Trouble). IsAuditOf settings (Err x) xs ys) (sym m) (memory_too settings (Ok w.audited) xs ys h.audit); counted = tt };
    marked = tt;
  }
  part (Ok w) (Err t) result xs ys k m h =
      let same : IsPartAuditOf settings asked old new (Err t) xs ys = record { release = told settings asked (Ok w) (Err t) xs ys k h; marked = tt } in
      subst (λ (r : Result AuditedRelease Trouble). IsPartAuditOf settings asked old new r xs ys) (sym m) same
  part (Err t) (Ok j) result xs ys k m h = cc
  part (Err t) (Err u) result xs ys k m h =
      let same : IsPartAuditOf settings asked old new (Err u) xs ys = record { release = told settings asked (Err t) (Err u) xs ys k h; marked = tt } in
      subst (λ (r : Result AuditedRelease Trouble). IsPartAuditOf settings asked old new r xs ys) (sym m) same

  pub part_told : (answer : Result (WatchedAudit ReleaseWatch) Trouble) (judged : Result JudgedAudit Trouble) (result : Result AuditedRelease Trouble) (a b : Input) → CountsWatched settings asked answer judged → MarksJudged judged old new result
      → OfReads a b (IsWatchedAuditOf settings Follows answer) → OfReads a b (IsPartAuditOf settings asked old new result)
  part_told answer judged result a b k m p = reads_weaker {P = IsWatchedAuditOf settings Follows answer} {Q = IsPartAuditOf settings asked old new result} a b p (λ xs ys. part answer judged result xs ys k m)

  part_at_end : (judged : Result JudgedAudit Trouble) (result : Result AuditedRelease Trouble) (after : Input) → MarksJudged judged old new result → GoodAtEnd after (audited_in (release_in judged)) → GoodAtEnd after (audited_in result)
  part_at_end (Ok j) (Ok b) after m h = subst (λ (x : AuditedRelease). GoodAtEndIn after x.audited.verdict) (sym m.0) h
  part_at_end (Ok j) (Err t) after m h = tt
  part_at_end (Err t) result after m h = subst (λ (r : Result AuditedRelease Trouble). GoodAtEnd after (audited_in r)) (sym m) tt

  pub watched_at_end : (answer : Result (WatchedAudit ReleaseWatch) Trouble) (judged : Result JudgedAudit Trouble) (result : Result AuditedRelease Trouble) (after : Input) → CountsWatched settings asked answer judged → MarksJudged judged old new result
      → GoodAtEnd after (audit_in answer) → GoodAtEnd after (audited_in result)
  watched_at_end answer judged result after k m h = part_at_end judged result after m (release_at_end settings asked answer judged after k h)

  -- a read failed where it did before what ran is marked
  same_failure : (judged : Result JudgedAudit Trouble) (result : Result AuditedRelease Trouble) → MarksJudged judged old new result → is_failed_read (release_in judged) ≡ is_failed_read result
  same_failure (Ok j) (Ok b) m = refl
  same_failure (Ok j) (Err t) m = sym (ap (λ (x : Trouble). is_failed_read {A = AuditedRelease} (Err x)) m)
  same_failure (Err t) result m = sym (ap is_failed_read m)

  pub part_failures : (answer : Result (WatchedAudit ReleaseWatch) Trouble) (judged : Result JudgedAudit Trouble) (result : Result AuditedRelease Trouble) (n m : ℕ) → CountsWatched settings asked answer judged → MarksJudged judged old new result
      → CountsFailure (is_failed_read answer) n m → CountsFailure (is_failed_read result) n m
  part_failures answer judged result n m k marks h = subst (λ b. CountsFailure b n m) (same_failure judged result marks) (release_failures settings asked answer judged n m k h)
