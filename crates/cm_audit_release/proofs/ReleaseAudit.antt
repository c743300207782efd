-- The audit with what is counted, from the audit that was watched.
use Rattle.std.proofs.Common.{◌≡◌, ◌∙◌, refl, sym, ap, subst, string_bytes, ℕ, Bool, List, Option, Result, Ok, Err}
use Rattle.cm_attempt.specs.declared.status.Settings.{Settings}
use Rattle.std.specs.Prelude.{IfOk}
use Rattle.std.specs.declared.alloc.AllocError.{AllocError}
use Rattle.cm_envelope.specs.Device.{CountsFailure, Input, OfReads}
use Rattle.cm_envelope.specs.Feeds.{is_failed_read}
use Rattle.cm_envelope.specs.declared.envelope.Envelope.{Envelope}
use Rattle.cm_envelope.specs.declared.feed.Trouble.{Trouble}
use Rattle.cm_envelope.specs.declared.feed.Trouble.TheVariants.{LineTooLong, Memory, ReadFailed, StreamTooLong}
use Rattle.cm_envelope.proofs.Sources.{reads_weaker}
use Rattle.cm_stream.specs.Release.{Conditions}
use Rattle.cm_stream.specs.Stream.{FirstFault, IsFirstFault, answer_for, answer_in}
use Rattle.cm_stream.specs.declared.laws.ReleaseCounts.{ReleaseCounts}
use Rattle.cm_stream.specs.declared.laws.Audited.{Audited}
use Rattle.cm_stream.specs.declared.laws.Hold.{Hold}
use Rattle.cm_stream.specs.declared.laws.Verdict.{Verdict}
use Rattle.cm_stream.specs.declared.laws.Verdict.TheVariants as verdict
use Rattle.cm_audit.specs.Audit.{GoodAtEnd, GoodAtEndIn, IsAuditOf}
use Rattle.cm_judge.specs.State.{summary_of}
use Rattle.cm_judge.specs.Deciding.{DecidesVerdict}
use Rattle.cm_audit.specs.Watched.{FollowsGood, IsWatchedAuditOf, audit_in}
use Rattle.cm_audit.specs.declared.auditing.WatchedAudit.{WatchedAudit}
use Rattle.cm_judge.specs.declared.state.State.{State}
use Rattle.cm_fault_reasons.proofs.AtLine.{told_with}
use Rattle.cm_fault_reasons.specs.AtLine.{TellsWith}
use Rattle.cm_release.specs.declared.tally.Tally.{Tally}
use Rattle.cm_stream.specs.declared.laws.Counts.{Counts}
use Rattle.cm_release.specs.declared.judgement.Judgement.{Judgement}
use Rattle.cm_audit_release.specs.ReleaseAudit.{CountsGood, CountsWatched, IsReleaseAuditOf, JudgesVerdict, audited_in, release_in, with_tally}
use Rattle.cm_audit_release.specs.Watched.{Follows}
use Rattle.cm_audit_release.specs.declared.audited_release.AuditedRelease.{AuditedRelease}
use Rattle.cm_audit_release.specs.declared.audited_release.JudgedAudit.{JudgedAudit}
use Rattle.cm_audit_release.specs.declared.audited_release.ReleaseWatch.{ReleaseWatch}

-- want of memory after an audit
pub memory_too : (settings : Settings) (answer : Result Audited Trouble) (xs ys : List ℕ) → IsAuditOf settings answer xs ys → IsAuditOf settings (Err Memory) xs ys
memory_too settings answer xs ys h = record {
  good = tt;
  bad = tt;
  told = record { first = h.told.first; is_first = h.told.is_first; answers = tt };
  decided = λ counts success run. tt;
  unsupported = tt;
  read_failed = λ no. cc;
  ahead = tt;
}

module _ (settings : Settings) (asked : Conditions) (found : ReleaseCounts) (held : Option Hold) (reasons : List ℕ) where
  counted_by : (w : WatchedAudit ReleaseWatch) (xs : List ℕ) (v : Verdict) (first : FirstFault) → IsFirstFault settings xs first → answer_in v w.audited.success ≡ answer_for first → FollowsGood settings (Follows w.watch) (summary_of w.state).table xs v → DecidesVerdict settings (Follows w.watch) w.last (summary_of w.state) xs v
      → JudgesVerdict settings asked w.watch.tally w.last w.state w.audited.success found held reasons v → CountsGood settings asked w.audited.success found held reasons xs v
  counted_by w xs (verdict.Good counts) first is answers h d k = record { judged = h.judged; read = h.read; good = h.good; is = k h.judged h.followed h.good h.results }
  counted_by w xs (verdict.Bad n b) first is answers h d k = told_with settings (Follows w.watch) xs (verdict.Bad n b) w.audited.success (summary_of w.state) w.watch.tally.trail reasons (λ es f. f.1) w.last first is answers d k
  counted_by w xs (verdict.Unsupported n r) first is answers h d k = told_with settings (Follows w.watch) xs (verdict.Unsupported n r) w.audited.success (summary_of w.state) w.watch.tally.trail reasons (λ es f. f.1) w.last first is answers d k

module _ (settings : Settings) (asked : Conditions) where
  pub judged_so : (w : WatchedAudit ReleaseWatch) (m : Result Judgement AllocError) (judged : Result JudgedAudit Trouble) → judged ≡ with_tally w.audited m w.watch.tally
      → IfOk m (λ x. JudgesVerdict settings asked w.watch.tally w.last w.state w.audited.success x.found x.hold (string_bytes x.reasons) w.audited.verdict) → CountsWatched settings asked (Ok w) judged
  judged_so w (Ok x) judged is h = subst (CountsWatched settings asked (Ok w)) (sym is) (record { audited = refl; judges = h; tally = refl })
  judged_so w (Err e) judged is h = subst (CountsWatched settings asked (Ok w)) (sym is) refl

  -- what is told of a line is said of a stream that isn't good
  pub told_so : (tally : Tally) (last : Option Envelope) (s : State) (success : Bool) (v : Verdict) → ((counts : Counts) → v ≡ verdict.Good counts → ⊥) → (x : Judgement) → TellsWith settings (summary_of s) tally.trail last v (string_bytes x.reasons)
      → JudgesVerdict settings asked tally last s success x.found x.hold (string_bytes x.reasons) v
  told_so tally last s success (verdict.Good counts) other x tells = absurd (other counts refl)
  told_so tally last s success (verdict.Bad n b) other x tells = tells
  told_so tally last s success (verdict.Unsupported n r) other x tells = tells

  pub told : (answer : Result (WatchedAudit ReleaseWatch) Trouble) (judged : Result JudgedAudit Trouble) (xs ys : List ℕ) → CountsWatched settings asked answer judged
      → IsWatchedAuditOf settings Follows answer xs ys → IsReleaseAuditOf settings asked (release_in judged) xs ys
  told (Ok w) (Ok j) xs ys k h =
      let a = j.release in
      record {
        audit = subst (λ (x : Audited). IsAuditOf settings (Ok x) xs ys) (sym k.audited) h.audit;
        counted = subst (λ (x : Audited). CountsGood settings asked x.success a.found a.hold (string_bytes a.reasons) xs x.verdict) (sym k.audited)
            (counted_by settings asked a.found a.hold (string_bytes a.reasons) w xs w.audited.verdict h.audit.told.first h.audit.told.is_first h.audit.told.answers h.followed h.decided k.judges);
      }
  told (Ok w) (Err t) xs ys k h = record { audit = subst (λ (x : Trouble). IsAuditOf settings (Err x) xs ys) (sym k) (memory_too settings (Ok w.audited) xs ys h.audit); counted = tt }
  told (Err t) judged xs ys k h =
      let same : IsReleaseAuditOf settings asked (Err t) xs ys = record { audit = h.audit; counted = tt } in
      subst (λ (r : Result JudgedAudit Trouble). IsReleaseAuditOf settings asked (release_in r) xs ys) (sym k) same

  pub release_told : (answer : Result (WatchedAudit ReleaseWatch) Trouble) (judged : Result JudgedAudit Trouble) (a b : Input) → CountsWatched settings asked answer judged
      → OfReads a b (IsWatchedAuditOf settings Follows answer) → OfReads a b (IsReleaseAuditOf settings asked (release_in judged))
  release_told answer judged a b k p = reads_weaker {P = IsWatchedAuditOf settings Follows answer} {Q = IsReleaseAuditOf settings asked (release_in judged)} a b p (λ xs ys. told answer judged xs ys k)

  pub release_at_end : (answer : Result (WatchedAudit ReleaseWatch) Trouble) (judged : Result JudgedAudit Trouble) (after : Input) → CountsWatched settings asked answer judged
      → GoodAtEnd after (audit_in answer) → GoodAtEnd after (audited_in (release_in judged))
  release_at_end (Ok w) (Ok j) after k h = subst (λ (x : Audited). GoodAtEndIn after x.verdict) (sym k.audited) h
  release_at_end (Ok w) (Err t) after k h = tt
  release_at_end (Err t) judged after k h = subst (λ (r : Result JudgedAudit Trouble). GoodAtEnd after (audited_in (release_in r))) (sym k) tt

  -- a read failed where it did in the audit that was watched
  same_failure : (answer : Result (WatchedAudit ReleaseWatch) Trouble) (judged : Result JudgedAudit Trouble) → CountsWatched settings asked answer judged → is_failed_read answer ≡ is_failed_read (release_in judged)
  same_failure (Ok w) (Ok j) k = refl
  same_failure (Ok w) (Err t) k = sym (ap (λ (x : Trouble). is_failed_read {A = AuditedRelease} (Err x)) k)
  same_failure (Err t) judged k = failed t ∙ sym (ap (λ (r : Result JudgedAudit Trouble). is_failed_read (release_in r)) k)
    where
      failed : (t : Trouble) → is_failed_read {A = WatchedAudit ReleaseWatch} (Err t) ≡ is_failed_read {A = AuditedRelease} (Err t)
      failed ReadFailed = refl
      failed LineTooLong = refl
      failed StreamTooLong = refl
      failed Memory = refl

  pub release_failures : (answer : Result (WatchedAudit ReleaseWatch) Trouble) (judged : Result JudgedAudit Trouble) (n m : ℕ) → CountsWatched settings asked answer judged
      → CountsFailure (is_failed_read answer) n m → CountsFailure (is_failed_read (release_in judged)) n m
  release_failures answer judged n m k h = subst (λ b. CountsFailure b n m) (same_failure answer judged k) h
