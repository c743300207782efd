-- A stream isn't judged only where a line shows the reason.
use Rattle.std.proofs.Common.{◌≡◌, refl, ap, ◌∙◌, subst, ℕ, ◌+◌, List, [], ◌∷◌, ◌++◌, Option, Some, None, Result, Ok, Err, true, false, Bool, ◌&&◌, length, arith}
use Rattle.std.proofs.lemmas.Bool.{not-true}
use Rattle.std.specs.Prelude.{if◌then◌else◌}
use Rattle.std.specs.List.{AllByRecursion}
use Rattle.std.specs.Str.{bytes_eq}
use Rattle.gk_grammar.specs.Documents.{IsTooLong}
use Rattle.cm_envelope.specs.Reading.{LineFault}
use Rattle.cm_envelope.specs.declared.envelope.Envelope.{Envelope}
use Rattle.cm_envelope.specs.declared.envelope.Envelope.TheVariants as envelope
use Rattle.cm_envelope.specs.declared.feed.Trouble.{Trouble}
use Rattle.cm_attempt.specs.declared.status.Settings.{Settings}
use Rattle.cm_stream.specs.Texts.{Utf8}
use Rattle.cm_stream.specs.Readings.{Reading, Accepted, Refused, OtherLanguage, TooLong, IsReading, IsInOtherLanguage}
use Rattle.cm_stream.specs.OnePass.{reads}
use Rattle.cm_stream.specs.References.{has_run_finished}
use Rattle.cm_stream.specs.Findings.{Fault, Finding, IsBad, IsUnsupported, NoRunFinished}
use Rattle.cm_stream.specs.Redeclared.{is_redeclared, judged_as, line_judged_as, passed_over}
use Rattle.cm_stream.specs.Sources.{plain}
use Rattle.cm_stream.specs.Checks.{Check, ◌if◌, ◌unsupported_if◌, first_failed, is_too_long, is_other_language}
use Rattle.cm_stream.specs.ByOnePass.{checks, fault, first_fault, first_fault_line, first_fault_of}
use Rattle.cm_stream.specs.Stream.{At, feed_of, envelope_unless_blank, at_end, at_line}
use Rattle.cm_stream.specs.Unsupported.{HasReason, ShowsReason, ReasonsAreShown}
use Rattle.cm_stream.specs.declared.laws.Reason.{Reason}
use Rattle.cm_stream.specs.declared.laws.Reason.TheVariants as reason
use Rattle.cm_stream.proofs.OnePass.{is_read}
use Rattle.cm_stream.proofs.ByGrammar.{reported}

-- ---- a check

-- where the check fails for a reason, the envelope has that reason
abbrev IsGrounded : Envelope → Check → Type 0
IsGrounded e c = (r : Reason) → c.fails ≡ true → c.finding ≡ IsUnsupported r → HasReason r e

bad_is_grounded : (e : Envelope) (b : Fault) (fails : Bool) → IsGrounded e (b if fails)
bad_is_grounded e b fails r yes_so is = absurd cc

grounded : (e : Envelope) (r : Reason) (fails : Bool) → (fails ≡ true → HasReason r e) → IsGrounded e (r unsupported_if fails)
grounded e r fails has s yes_so is = let same : r ≡ s = cc in subst (λ t. HasReason t e) same (has yes_so)

too_long : (text : Utf8) → is_too_long (reads text) ≡ true → IsTooLong text
too_long text = go (reads text) (is_read text)
  where
    go : (r : Reading) → IsReading text r → is_too_long r ≡ true → IsTooLong text
    go (Accepted d) i h = cc
    go Refused i h = cc
    go OtherLanguage i h = cc
    go TooLong i h = i

other_language : (text : Utf8) → is_other_language (reads text) ≡ true → (IsTooLong text → ⊥) × IsInOtherLanguage text
other_language text = go (reads text) (is_read text)
  where
    go : (r : Reading) → IsReading text r → is_other_language r ≡ true → (IsTooLong text → ⊥) × IsInOtherLanguage text
    go (Accepted d) i h = cc
    go Refused i h = cc
    go OtherLanguage i h = i
    go TooLong i h = cc

-- ---- the checks of a line

each_grounded : (settings : Settings) (es : List Envelope) (e : Envelope) → AllByRecursion (IsGrounded e) (checks settings es e)
each_grounded settings es (envelope.Source s) =
    let e = envelope.Source s in (
      bad_is_grounded e _ _,
      (
        bad_is_grounded e _ _,
        (
          grounded e reason.MediaType _ (not-true (bytes_eq s.media_type plain)),
          (grounded e reason.SourceTooLong _ (too_long s.content), (grounded e reason.Language _ (other_language s.content), tt)),
        ),
      ),
    )
each_grounded settings es (envelope.GherkinDocument d) =
    let e = envelope.GherkinDocument d in
    (bad_is_grounded e _ _, (bad_is_grounded e _ _, (bad_is_grounded e _ _, (bad_is_grounded e _ _, (bad_is_grounded e _ _, (bad_is_grounded e _ _, tt))))))
each_grounded settings es (envelope.ParseError p) = let e = envelope.ParseError p in (bad_is_grounded e _ _, (bad_is_grounded e _ _, (bad_is_grounded e _ _, tt)))
each_grounded settings es (envelope.Pickle p) =
    let e = envelope.Pickle p in
    (bad_is_grounded e _ _, (bad_is_grounded e _ _, (bad_is_grounded e _ _, (bad_is_grounded e _ _, tt))))
each_grounded settings es (envelope.StepDefinition d) = let e = envelope.StepDefinition d in (bad_is_grounded e _ _, (bad_is_grounded e _ _, tt))
each_grounded settings es (envelope.Hook h) = let e = envelope.Hook h in (bad_is_grounded e _ _, (bad_is_grounded e _ _, tt))
each_grounded settings es (envelope.TestCase c) =
    let e = envelope.TestCase c in
    (bad_is_grounded e _ _, (bad_is_grounded e _ _, (bad_is_grounded e _ _, (bad_is_grounded e _ _, tt))))
each_grounded settings es (envelope.TestRunStarted r) = let e = envelope.TestRunStarted r in (bad_is_grounded e _ _, (bad_is_grounded e _ _, tt))
each_grounded settings es (envelope.TestCaseStarted s) =
    let e = envelope.TestCaseStarted s in
    (bad_is_grounded e _ _, (bad_is_grounded e _ _, (bad_is_grounded e _ _, (bad_is_grounded e _ _, (bad_is_grounded e _ _, (bad_is_grounded e _ _, tt))))))
each_grounded settings es (envelope.TestStepStarted s) = let e = envelope.TestStepStarted s in (bad_is_grounded e _ _, (bad_is_grounded e _ _, (bad_is_grounded e _ _, tt)))
each_grounded settings es (envelope.TestStepFinished s) =
    let e = envelope.TestStepFinished s in
    (bad_is_grounded e _ _, (bad_is_grounded e _ _, (bad_is_grounded e _ _, (grounded e reason.UnknownStatus _ (λ h. h), tt))))
each_grounded settings es (envelope.TestCaseFinished f) =
    let e = envelope.TestCaseFinished f in
    (bad_is_grounded e _ _, (bad_is_grounded e _ _, (bad_is_grounded e _ _, (bad_is_grounded e _ _, tt))))
each_grounded settings es (envelope.TestRunFinished f) =
    let e = envelope.TestRunFinished f in
    (bad_is_grounded e _ _, (bad_is_grounded e _ _, (bad_is_grounded e _ _, (bad_is_grounded e _ _, (bad_is_grounded e _ _, (bad_is_grounded e _ _, (bad_is_grounded e _ _, tt)))))))
each_grounded settings es (envelope.Attachment a) = let e = envelope.Attachment a in (bad_is_grounded e _ _, (bad_is_grounded e _ _, tt))
each_grounded settings es (envelope.TestRunHookStarted s) =
    let e = envelope.TestRunHookStarted s in
    (bad_is_grounded e _ _, (bad_is_grounded e _ _, (bad_is_grounded e _ _, (bad_is_grounded e _ _, tt))))
each_grounded settings es (envelope.TestRunHookFinished f) =
    let e = envelope.TestRunHookFinished f in
    (bad_is_grounded e _ _, (bad_is_grounded e _ _, (bad_is_grounded e _ _, (grounded e reason.UnknownStatus _ (λ h. h), tt))))
each_grounded settings es envelope.Other = (bad_is_grounded envelope.Other _ _, tt)

first_is_grounded : (e : Envelope) (cs : List Check) (r : Reason) → AllByRecursion (IsGrounded e) cs → first_failed cs ≡ Some (IsUnsupported r) → HasReason r e
first_is_grounded e [] r each h = cc
first_is_grounded e (c ∷ cs) r each h = go c.fails refl h (first_is_grounded e cs r each.1)
  where
    go : (b : Bool) → c.fails ≡ b → (if b then Some c.finding else first_failed cs) ≡ Some (IsUnsupported r) → (first_failed cs ≡ Some (IsUnsupported r) → HasReason r e) → HasReason r e
    go true k told rec = each.0 r k cc
    go false k told rec = rec told

-- the fault of a line is for a reason that the line has
fault_has_reason : (settings : Settings) (es : List Envelope) (e : Envelope) (r : Reason) → fault settings es e ≡ Some (IsUnsupported r) → HasReason r e
fault_has_reason settings es e r h = first_is_grounded e (checks settings es e) r (each_grounded settings es e) h

-- ---- what is judged

passed_over_has_none : (r : Reason) → HasReason r passed_over → ⊥
passed_over_has_none reason.UnknownStatus h = cc
passed_over_has_none _ h = h

chosen_has_it : (r : Reason) (e : Envelope) (b : Bool) → HasReason r (if b then passed_over else e) → HasReason r e
chosen_has_it r e true h = absurd (passed_over_has_none r h)
chosen_has_it r e false h = h

-- an envelope has the reason that it has as it is judged
judged_has_reason : (settings : Settings) (before : List Envelope) (e : Envelope) (r : Reason) → HasReason r (judged_as settings before e) → HasReason r e
judged_has_reason settings before e r h = chosen_has_it r e (is_redeclared before e && settings.allows_redeclared) h

-- ---- the line

record ShownIn (n : ℕ) (ls : List (List ℕ)) (m : ℕ) (r : Reason) : Type 0 where
  before : List (List ℕ)
  line : List ℕ
  after : List (List ℕ)
  cut : ls ≡ before ++ line ∷ after
  count : m ≡ length before + n
  said : Envelope
  read : envelope_unless_blank line ≡ Some (Ok said)
  why : HasReason r said

module _ (settings : Settings) (m : ℕ) (r : Reason) where
  shown_later : (n : ℕ) (l : List ℕ) (ls : List (List ℕ)) → ShownIn (n + 1) ls m r → ShownIn n (l ∷ ls) m r
  shown_later n l ls s = record {
    before = l ∷ s.before;
    line = s.line;
    after = s.after;
    cut = ap (λ ks. l ∷ ks) s.cut;
    count = let count = s.count in omega arith;
    said = s.said;
    read = s.read;
    why = s.why;
  }

  -- what of these lines shows the reason, where the fault is in them
  abbrev Later : (n : ℕ) → List (List ℕ) → Option Trouble → List Envelope → Type 0
  Later n ls t now = first_fault_of settings now n ls t ≡ At m (IsUnsupported r) → ShownIn n ls m r

  shown_in : (before : List Envelope) (n : ℕ) (ls : List (List ℕ)) (t : Option Trouble) → first_fault_of settings before n ls t ≡ At m (IsUnsupported r) → ShownIn n ls m r
  shown_in before n [] (Some t) h = cc
  shown_in before n [] None h = go (has_run_finished before) h
    where
      go : (b : Bool) → at_end n before (if b then None else Some (IsBad NoRunFinished)) ≡ At m (IsUnsupported r) → ShownIn n [] m r
      go true k = cc
      go false k = absurd cc
  shown_in before n (l ∷ ls) t h = go (envelope_unless_blank l) refl h (shown_in before (n + 1) ls t) (λ e. shown_in (before ++ e ∷ []) (n + 1) ls t)
    where
      on_fault : (e : Envelope) → envelope_unless_blank l ≡ Some (Ok e) → (o : Option Finding) → fault settings before (judged_as settings before e) ≡ o → at_line n o (first_fault_of settings (before ++ judged_as settings before e ∷ []) (n + 1) ls t) ≡ At m (IsUnsupported r)
          → Later (n + 1) ls t (before ++ judged_as settings before e ∷ []) → ShownIn n (l ∷ ls) m r
      on_fault e is None k told rec = shown_later n l ls (rec told)
      on_fault e is (Some f) k told rec =
          let here : n ≡ m = cc in
          let its : f ≡ IsUnsupported r = cc in
          record {
            before = [];
            line = l;
            after = ls;
            cut = refl;
            count = omega arith;
            said = e;
            read = is;
            why = judged_has_reason settings before e r (fault_has_reason settings before (judged_as settings before e) r (k ∙ ap Some its));
          }

      go : (o : Option (Result Envelope LineFault)) → envelope_unless_blank l ≡ o → first_fault_line settings before n (line_judged_as settings before o) (λ (now : List Envelope). first_fault_of settings now (n + 1) ls t) ≡ At m (IsUnsupported r) → Later (n + 1) ls t before
          → ((e : Envelope) → Later (n + 1) ls t (before ++ e ∷ [])) → ShownIn n (l ∷ ls) m r
      go None is k skip rec = shown_later n l ls (skip k)
      go (Some (Err b)) is k skip rec = absurd cc
      go (Some (Ok e)) is k skip rec = on_fault e is (fault settings before (judged_as settings before e)) refl k (rec (judged_as settings before e))

pub shows_reason : (settings : Settings) (bytes : List ℕ) (n : ℕ) (r : Reason) → first_fault settings bytes ≡ At n (IsUnsupported r) → ShowsReason bytes n r
shows_reason settings bytes n r h =
    let s = shown_in settings n r [] 1 (feed_of bytes).lines (feed_of bytes).trouble h in
    record { before = s.before; line = s.line; after = s.after; cut = s.cut; count = s.count; said = s.said; read = s.read; why = s.why }

pub reasons_are_shown : ReasonsAreShown
reasons_are_shown settings bytes n r h = shows_reason settings bytes n r (reported settings bytes (At n (IsUnsupported r)) h)
