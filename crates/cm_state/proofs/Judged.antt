-- Judging a stream line by line is judging it over all its lines.
use Rattle.std.proofs.Common.{◌≡◌, ℕ, ◌+◌, refl, sym, ap, subst, ◌∙◌, ◌&&◌, List, [], ◌∷◌, ◌++◌, Option, Some, None, Result, Ok, Err, true, false, Bool, ◌⊎◌, inl, inr}
use Rattle.std.specs.Prelude.{if◌then◌else◌}
use Rattle.cm_attempt.specs.Table.{has_text}
use Rattle.cm_envelope.specs.Lines.{is_blank}
use Rattle.cm_envelope.specs.Reading.{LineFault, envelope_of_line}
use Rattle.cm_envelope.specs.declared.envelope.Envelope.{Envelope}
use Rattle.cm_envelope.specs.declared.envelope.Envelope.TheVariants as envelope
use Rattle.cm_envelope.specs.declared.feed.Trouble.{Trouble}
use Rattle.cm_attempt.specs.declared.status.Settings.{Settings}
use Rattle.cm_stream.specs.Checks.{declares_again, fault_at_end}
use Rattle.cm_stream.specs.Redeclared.{judged_as, line_judged_as, passed_over}
use Rattle.cm_stream.specs.Findings.{Finding}
use Rattle.cm_stream.specs.References.{Definition, HookNamed, has_run_finished, run_succeeded}
use Rattle.cm_stream.specs.Stream.{answer_for}
use Rattle.cm_stream.specs.Stream as stream
use Rattle.cm_stream.specs.declared.laws.Counts.{Counts}
use Rattle.cm_stream.specs.ByOnePass.{fault, first_fault_line, first_fault_of, IsFaultless}
use Rattle.cm_state.specs.Summary.{Summary, declarations_in, empty_summary}
use Rattle.cm_state.specs.StateChecks.{finding_at_end, judged_by, line_judged_by}
use Rattle.cm_state.proofs.Checked.{again_one, findings_are_faults as findings}
use Rattle.cm_state.proofs.Tests.{definition_declared, hook_declared}
use Rattle.cm_state.proofs.Steps.{summaries_step as steps}
use Rattle.cm_state.proofs.Counted.{counts_kept}
use Rattle.cm_stream.specs.OnePass.{reads}
use Rattle.cm_stream.proofs.ByGrammar.{by_the_grammar}
use Rattle.cm_state.specs.Laws.{JudgedIsTold, JudgedIsToldBy, answer_at_end, answer_at_line}
use Rattle.cm_state.specs.ByOnePass.{summary_of_lines, summary_after_line, finding, answer_of_line, answer_of_lines}

-- ---- one more line without a fault

empty_isnt : {X : Type 0} (b : List X) (x : X) (a : List X) → [] ≡ b ++ x ∷ a → ⊥
empty_isnt [] x a h = cc
empty_isnt (y ∷ b) x a h = cc

-- an element of a list with one more at its end is the last one, or is before it
cut_before : {X : Type 0} (xs : List X) (e : X) (b : List X) (x : X) (a : List X) → xs ++ e ∷ [] ≡ b ++ x ∷ a → ((b ≡ xs) × (x ≡ e)) ⊎ ((more : List X) × (xs ≡ b ++ x ∷ more))
cut_before [] e [] x a h = let same : e ≡ x = cc in inl (refl, sym same)
cut_before [] e (y ∷ b) x a h = let none : [] ≡ b ++ x ∷ a = cc in absurd (empty_isnt b x a none)
cut_before (z ∷ xs) e [] x a h = let same : z ≡ x = cc in inr (xs, ap (λ y. y ∷ xs) same)
cut_before {X} (z ∷ xs) e (y ∷ b) x a h =
    let same : z ≡ y = cc in
    let rest : xs ++ e ∷ [] ≡ b ++ x ∷ a = cc in
    go same (cut_before xs e b x a rest)
  where
    go : z ≡ y → ((b ≡ xs) × (x ≡ e)) ⊎ ((more : List X) × (xs ≡ b ++ x ∷ more)) → ((y ∷ b ≡ z ∷ xs) × (x ≡ e)) ⊎ ((more : List X) × (z ∷ xs ≡ y ∷ b ++ x ∷ more))
    go same (inl k) = inl (rw (k.0, same) refl, k.1)
    go same (inr k) = inr (k.0, rw same (ap (λ ys. y ∷ ys) k.1))

pub one_more_line : (settings : Settings) (before : List Envelope) (e : Envelope) → IsFaultless settings before → fault settings before e ≡ None → IsFaultless settings (before ++ e ∷ [])
one_more_line settings before e h none b x a cut = go (cut_before before e b x a cut)
  where
    go : ((b ≡ before) × (x ≡ e)) ⊎ ((more : List Envelope) × (before ≡ b ++ x ∷ more)) → fault settings b x ≡ None
    go (inl k) = ap (λ ys. fault settings ys x) k.0 ∙ ap (fault settings before) k.1 ∙ none
    go (inr k) = h b x k.0 k.1

-- ---- what a line is judged as

chosen : (settings : Settings) (e : Envelope) (b c : Bool) → b ≡ c → (if b && settings.allows_redeclared then passed_over else e) ≡ (if c && settings.allows_redeclared then passed_over else e)
chosen settings e b c same = ap (λ (x : Bool). if x && settings.allows_redeclared then passed_over else e) same

-- by what is kept, as by the lines
pub same_judged : (settings : Settings) (es : List Envelope) (e : Envelope) → judged_by settings (summary_of_lines settings.first_attempt es) e ≡ judged_as settings es e
same_judged settings es (envelope.Hook h) =
    chosen settings (envelope.Hook h) (has_text h.id (declarations_in es).hooks) (declares_again es (envelope.Hook h)) (again_one (HookNamed h.id) es (has_text h.id (declarations_in es).hooks) (hook_declared h.id es))
same_judged settings es (envelope.StepDefinition d) =
    chosen settings (envelope.StepDefinition d) (has_text d.id (declarations_in es).definitions) (declares_again es (envelope.StepDefinition d)) (again_one (Definition d.id) es (has_text d.id (declarations_in es).definitions) (definition_declared d.id es))
same_judged settings es _ = refl

pub same_line : (settings : Settings) (es : List Envelope) (r : Option (Result Envelope LineFault)) → line_judged_by settings (summary_of_lines settings.first_attempt es) r ≡ line_judged_as settings es r
same_line settings es None = refl
same_line settings es (Some (Err b)) = refl
same_line settings es (Some (Ok e)) = ap (λ (x : Envelope). Some (Ok x)) (same_judged settings es e)

-- ---- all lines

finished : (settings : Settings) (n : ℕ) (before : List Envelope) → IsFaultless settings before → answer_at_end n (summary_of_lines settings.first_attempt before) (finding_at_end (summary_of_lines settings.first_attempt before)) ≡ answer_for (stream.at_end n before (fault_at_end before))
finished settings n before h = go (has_run_finished before) refl
  where
    go : (b : Bool) → has_run_finished before ≡ b → answer_at_end n (summary_of_lines settings.first_attempt before) (finding_at_end (summary_of_lines settings.first_attempt before)) ≡ answer_for (stream.at_end n before (fault_at_end before))
    go true e = rw e (ap (λ (c : Counts). stream.GoodWith c (run_succeeded before)) (counts_kept settings before h))
    go false e = rw e refl

module _ (settings : Settings) where
  same : (before : List Envelope) (s : Summary) → s ≡ summary_of_lines settings.first_attempt before → IsFaultless settings before → (n : ℕ) (ls : List (List ℕ)) (t : Option Trouble) → answer_of_lines settings s n ls t ≡ answer_for (first_fault_of settings before n ls t)
  same before s is h n [] (Some t) = refl
  same before s is h n [] None = ap (λ u. answer_at_end n u (finding_at_end u)) is ∙ finished settings n before h
  same before s is h n (l ∷ ls) t = go (is_blank l) refl (same before s is h (n + 1) ls t) (λ e u k more. same (before ++ e ∷ []) u k more (n + 1) ls t)
    where
      Later : Envelope → Type 0
      Later e = (u : Summary) → u ≡ summary_of_lines settings.first_attempt (before ++ e ∷ []) → IsFaultless settings (before ++ e ∷ []) → answer_of_lines settings u (n + 1) ls t ≡ answer_for (first_fault_of settings (before ++ e ∷ []) (n + 1) ls t)

      on_fault : (e : Envelope) (o : Option Finding) → fault settings before e ≡ o → Later e → answer_at_line n o (answer_of_lines settings (summary_after_line s e) (n + 1) ls t) ≡ answer_for (stream.at_line n o (first_fault_of settings (before ++ e ∷ []) (n + 1) ls t))
      on_fault e (Some f) k rec = refl
      on_fault e None k rec =
          let more = one_more_line settings before e h k in
          rec (summary_after_line s e) (ap (λ u. summary_after_line u e) is ∙ sym (steps settings before e more)) more

      on_read : (r : Result Envelope LineFault) → ((e : Envelope) → Later e)
          → answer_of_line settings s n (line_judged_by settings s (Some r)) (λ (now : Summary). answer_of_lines settings now (n + 1) ls t) ≡ answer_for (first_fault_line settings before n (line_judged_as settings before (Some r)) (λ (now : List Envelope). first_fault_of settings now (n + 1) ls t))
      on_read (Err b) rec = refl
      on_read (Ok e) rec =
          let said = judged_as settings before e in
          let same_said : judged_by settings s e ≡ said = ap (λ u. judged_by settings u e) is ∙ same_judged settings before e in
          let found : finding settings s said ≡ fault settings before said = ap (λ u. finding settings u said) is ∙ findings settings before said h in
          subst (λ (x : Envelope). answer_of_line settings s n (Some (Ok x)) (λ (now : Summary). answer_of_lines settings now (n + 1) ls t) ≡ answer_for (first_fault_line settings before n (Some (Ok said)) (λ (now : List Envelope). first_fault_of settings now (n + 1) ls t)))
          (sym same_said) (rw found (on_fault said (fault settings before said) refl (rec said)))

      go : (b : Bool) → is_blank l ≡ b → answer_of_lines settings s (n + 1) ls t ≡ answer_for (first_fault_of settings before (n + 1) ls t) → ((e : Envelope) → Later e) → answer_of_lines settings s n (l ∷ ls) t ≡ answer_for (first_fault_of settings before n (l ∷ ls) t)
      go true k skip rec = rw k skip
      go false k skip rec = rw k (on_read (envelope_of_line l) rec)

  pub none_yet : IsFaultless settings []
  none_yet b x a cut = absurd (empty_isnt b x a cut)

  judged_as_told : (lines : List (List ℕ)) (t : Option Trouble) → answer_of_lines settings (empty_summary settings.first_attempt) 1 lines t ≡ answer_for (first_fault_of settings [] 1 lines t)
  judged_as_told lines t = same [] (empty_summary settings.first_attempt) refl none_yet 1 lines t

pub judged_is_told : JudgedIsToldBy reads
judged_is_told settings lines t = judged_as_told settings lines t

pub judged_is_told_law : JudgedIsTold
judged_is_told_law = by_the_grammar JudgedIsToldBy judged_is_told
