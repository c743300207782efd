-- Only past the last line a run is said not to end.
use Rattle.std.proofs.Common.{◌≡◌, ◌∙◌, refl, sym, ap, arith, ℕ, suc, ◌+◌, ◌<◌, Bool, true, false, not, ◌&&◌, List, [], ◌∷◌, ◌++◌, Option, Some, None, Result, Ok, Err, length}
use Rattle.std.specs.Prelude.{if◌then◌else◌}
use Rattle.std.specs.List.{list_all}
use Rattle.cm_attempt.specs.declared.status.Settings.{Settings}
use Rattle.cm_envelope.specs.Reading.{LineFault}
use Rattle.cm_envelope.specs.declared.envelope.Envelope.{Envelope}
use Rattle.cm_envelope.specs.declared.envelope.Envelope.TheVariants as envelope
use Rattle.cm_envelope.specs.declared.feed.Trouble.{Trouble}
use Rattle.cm_stream.specs.Checks.{Check, checks_by, fault_at_end, fault_by, first_failed}
use Rattle.cm_stream.specs.Findings.{Finding, IsBad, NoEnvelope, NoRunFinished}
use Rattle.cm_stream.specs.Readings.{Reading}
use Rattle.cm_stream.specs.Redeclared.{line_judged_as}
use Rattle.cm_stream.specs.Stream.{At, FirstFault, Found, IsFirstFault, NoFault, Troubled, answer_for, answer_in, at_end, at_line, envelope_unless_blank, feed_of, first_fault_line_by, first_fault_of_by}
use Rattle.cm_stream.specs.Texts.{Utf8}
use Rattle.cm_stream.specs.declared.laws.StreamFault.TheVariants as fault
use Rattle.cm_stream.specs.declared.laws.Verdict.TheVariants as verdict

-- ---- no line has that finding

abbrev is_no_end : Finding → Bool
is_no_end (IsBad NoRunFinished) = true
is_no_end _ = false

first_is_other : (cs : List Check) → list_all (λ c. not (is_no_end c.finding)) cs ≡ true → (f : Finding) → first_failed cs ≡ Some f → is_no_end f ≡ false
first_is_other [] h f e = cc
first_is_other (c ∷ cs) h f e = go c.fails (is_no_end c.finding) refl h e (first_is_other cs)
  where
    go : (fails no : Bool) → is_no_end c.finding ≡ no → (not no && list_all (λ c. not (is_no_end c.finding)) cs) ≡ true → (if fails then Some c.finding else first_failed cs) ≡ Some f
        → (list_all (λ c. not (is_no_end c.finding)) cs ≡ true → (f : Finding) → first_failed cs ≡ Some f → is_no_end f ≡ false) → is_no_end f ≡ false
    go fails true k h e rec = cc
    go true false k h e rec = let same : c.finding ≡ f = cc in sym (ap is_no_end same) ∙ k
    go false false k h e rec = rec h f e

others : (read : Utf8 → Reading) (settings : Settings) (es : List Envelope) (e : Envelope) → list_all (λ c. not (is_no_end c.finding)) (checks_by read settings es e) ≡ true
others read settings es (envelope.Source x) = refl
others read settings es (envelope.GherkinDocument x) = refl
others read settings es (envelope.ParseError x) = refl
others read settings es (envelope.Pickle x) = refl
others read settings es (envelope.StepDefinition x) = refl
others read settings es (envelope.Hook x) = refl
others read settings es (envelope.TestCase x) = refl
others read settings es (envelope.TestRunStarted x) = refl
others read settings es (envelope.TestCaseStarted x) = refl
others read settings es (envelope.TestStepStarted x) = refl
others read settings es (envelope.TestStepFinished x) = refl
others read settings es (envelope.TestCaseFinished x) = refl
others read settings es (envelope.TestRunFinished x) = refl
others read settings es (envelope.Attachment x) = refl
others read settings es (envelope.TestRunHookStarted x) = refl
others read settings es (envelope.TestRunHookFinished x) = refl
others read settings es envelope.Other = refl

-- ---- the first fault

none_more : (n m : ℕ) → n ≡ m → n ≡ 0 + m
none_more n m e = omega (arith, e)

past_one : (n k m : ℕ) → n ≡ k + (m + 1) → n ≡ suc k + m
past_one n k m e = omega (arith, e)

ended_at : (m n : ℕ) (es : List Envelope) (o : Option Finding) → at_end m es o ≡ At n (IsBad NoRunFinished) → n ≡ m
ended_at m n es None e = absurd cc
ended_at m n es (Some f) e = let same : m ≡ n = cc in sym same

module _ (read : Utf8 → Reading) (settings : Settings) (n : ℕ) where
  abbrev IsEnd : FirstFault → Type 0
  IsEnd f = f ≡ At n (IsBad NoRunFinished)

  past_line : (before : List Envelope) (m k : ℕ) (more : List Envelope → FirstFault) → ((now : List Envelope) → IsEnd (more now) → n ≡ k + (m + 1)) → (o : Option (Result Envelope LineFault)) → IsEnd (first_fault_line_by read settings before m o more) → n ≡ k + (m + 1)
  past_line before m k more rec None e = rec before e
  past_line before m k more rec (Some (Err b)) e = let same : IsBad (NoEnvelope b) ≡ IsBad NoRunFinished = cc in absurd cc
  past_line before m k more rec (Some (Ok x)) e = go (fault_by read settings before x) refl e
    where
      go : (o : Option Finding) → fault_by read settings before x ≡ o → IsEnd (at_line m o (more (before ++ x ∷ []))) → n ≡ k + (m + 1)
      go None h e = rec (before ++ x ∷ []) e
      go (Some f) h e =
          let same : f ≡ IsBad NoRunFinished = cc in
          let no : is_no_end f ≡ false = first_is_other (checks_by read settings before x) (others read settings before x) f h in
          let yes : is_no_end f ≡ true = ap is_no_end same in
          cc

  past_lines : (before : List Envelope) (m : ℕ) (ls : List (List ℕ)) (t : Option Trouble) → IsEnd (first_fault_of_by read settings before m ls t) → n ≡ length ls + m
  past_lines before m [] (Some t) e = absurd cc
  past_lines before m [] None e = none_more n m (ended_at m n before (fault_at_end before) e)
  past_lines before m (l ∷ ls) t e =
      past_one n (length ls) m (past_line before m (length ls) (λ now. first_fault_of_by read settings now (m + 1) ls t) (λ now. past_lines now (m + 1) ls t) (line_judged_as settings before (envelope_unless_blank l)) e)

-- ---- an answer

no_end_found : (f : FirstFault) (n : ℕ) → Found n (IsBad NoRunFinished) ≡ answer_for f → f ≡ At n (IsBad NoRunFinished)
no_end_found (At m g) n e =
    let here : m ≡ n = cc in
    let its : g ≡ IsBad NoRunFinished = cc in
    ap (λ k. At k g) here ∙ ap (At n) its
no_end_found (Troubled t) n e = absurd cc
no_end_found (NoFault es) n e = absurd cc

after_all : (n k : ℕ) → n ≡ k + 1 → k < n
after_all n k e = omega (arith, e)

pub past_end : (settings : Settings) (bytes : List ℕ) (n : ℕ) (success : Bool) (f : FirstFault) → IsFirstFault settings bytes f → answer_in (verdict.Bad n fault.NoRunFinished) success ≡ answer_for f → length (feed_of bytes).lines < n
past_end settings bytes n success f is answers =
    after_all n (length (feed_of bytes).lines)
    (past_lines is.read settings n [] 1 (feed_of bytes).lines (feed_of bytes).trouble (sym is.first ∙ no_end_found f n answers))
