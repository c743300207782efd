-- That nothing failed is told exactly where all is well.
use Rattle.std.proofs.Common.{◌≡◌, ◌∙◌, refl, sym, ap, ℕ, ◌-◌, Bool, true, false, not, List, [], ◌∷◌, ◌++◌, Option, None, Some, ⊎_elim, append_assoc, arith, map, length, take}
use Rattle.std.specs.Prelude.{option_map}
use Rattle.std.specs.List.{AllByRecursion, filter_map}
use Rattle.cm_attempt.specs.Calls.{result_of}
use Rattle.cm_attempt.specs.declared.status.Policy.{Policy}
use Rattle.cm_attempt.specs.declared.status.Status.{Status}
use Rattle.cm_attempt.specs.declared.status.Status.TheVariants.{Unknown, Passed, Skipped, Pending, Undefined, Ambiguous, Failed}
use Rattle.cm_envelope.specs.Lines.{line_feed}
use Rattle.cm_envelope.specs.declared.envelope.Envelope.{Envelope}
use Rattle.cm_envelope.specs.declared.envelope.Source.{Source}
use Rattle.cm_envelope.specs.declared.envelope.TestRunHookStarted.{TestRunHookStarted}
use Rattle.cm_stream.specs.Calls.{calls_of}
use Rattle.cm_stream.specs.References.{cases, is_good_case, run_hooks, sources}
use Rattle.cm_stream.specs.Texts.{Utf8}
use Rattle.std.specs.List.{filter}
use Rattle.cm_reasons.specs.Lines.{text_of_lines, limited_text, more_text}
use Rattle.cm_reasons.specs.RunReasons.{AreRefusedLines, bad_end, bad_hook_line, hook_causes}
use Rattle.cm_causes.specs.Causes.{IsCauses, case_causes, cause_of_case, exception_line, nothing_failed, result_line, told_causes}
use Rattle.cm_causes.specs.Laws.{NothingFailedIsAllWell}
use Rattle.cm_causes.proofs.Shown.{first_shown}
use Rattle.cm_causes.proofs.Well.{no_cause}

abbrev first_of : List ℕ → ℕ
first_of [] = 0
first_of (x ∷ xs) = x

-- a line that doesn't begin as that nothing failed does
abbrev BeginsOtherwise : List ℕ → Type 0
BeginsOtherwise line = (rest more : List ℕ) → line ++ rest ≡ 110 ∷ more → ⊥

-- ---- each of the lines does

case_line : (es : List Envelope) (case : Utf8) (o : Option Status) → BeginsOtherwise (result_line es case o)
case_line es case None rest more h = let k : ◌≡◌ {A = ℕ} 78 110 = ap first_of h in omega arith
case_line es case (Some Unknown) rest more h = let k : ◌≡◌ {A = ℕ} 85 110 = ap first_of h in omega arith
case_line es case (Some Passed) rest more h = let k : ◌≡◌ {A = ℕ} 80 110 = ap first_of h in omega arith
case_line es case (Some Skipped) rest more h = let k : ◌≡◌ {A = ℕ} 83 110 = ap first_of h in omega arith
case_line es case (Some Pending) rest more h = let k : ◌≡◌ {A = ℕ} 80 110 = ap first_of h in omega arith
case_line es case (Some Undefined) rest more h = let k : ◌≡◌ {A = ℕ} 85 110 = ap first_of h in omega arith
case_line es case (Some Ambiguous) rest more h = let k : ◌≡◌ {A = ℕ} 65 110 = ap first_of h in omega arith
case_line es case (Some Failed) rest more h = let k : ◌≡◌ {A = ℕ} 70 110 = ap first_of h in omega arith

hook_line : (hook : Utf8) (status : Status) → BeginsOtherwise (bad_hook_line hook status)
hook_line hook status rest more h = let k : ◌≡◌ {A = ℕ} 82 110 = ap first_of h in omega arith

each_map : {X : Type 0} (P : List ℕ → Type 0) (f : X → List ℕ) → ((x : X) → P (f x)) → (xs : List X) → AllByRecursion P (map f xs)
each_map P f h [] = tt
each_map P f h (x ∷ xs) = (h x, each_map P f h xs)

each_given : {X Y : Type 0} (P : List ℕ → Type 0) (g : X → Y → List ℕ) (b : X → Option Y) → ((x : X) (y : Y) → P (g x y)) → (xs : List X) → AllByRecursion P (filter_map (λ x. option_map (g x) (b x)) xs)
each_given P g b h [] = tt
each_given {X} {Y} P g b h (x ∷ xs) = go (b x) refl (each_given P g b h xs)
  where
    go : (o : Option Y) → b x ≡ o → AllByRecursion P (filter_map (λ z. option_map (g z) (b z)) xs) → AllByRecursion P (filter_map (λ z. option_map (g z) (b z)) (x ∷ xs))
    go None e rec = rw e rec
    go (Some y) e rec = rw e (h x y, rec)

refused_lines : (ss : List Source) (lines : List (List ℕ)) → AreRefusedLines ss lines → AllByRecursion BeginsOtherwise lines
refused_lines [] lines are = rw are tt
refused_lines (s ∷ ss) lines are =
    ⊎_elim (λ r. rw (r.2) ((λ rest more h. let k : ◌≡◌ {A = ℕ} 114 110 = ap first_of h in omega arith), refused_lines ss r.1 r.3)) (λ a. refused_lines ss lines a.1) are

-- ---- and so do all of them

past : (lines : List (List ℕ)) → AllByRecursion BeginsOtherwise lines → (rest more : List ℕ) → limited_text lines ++ rest ≡ 110 ∷ more → rest ≡ 110 ∷ more
past [] h rest more e = e
past (line ∷ lines) h rest more e =
    let later = line_feed ∷ (text_of_lines (take 99 lines) ++ more_text (length (line ∷ lines) - 100)) in
    absurd (h.0 (later ++ rest) more (sym (append_assoc line later rest) ∙ ap (λ (t : List ℕ). t ++ rest) (sym (first_shown line lines)) ∙ e))

no_exception_begins : (b : Bool) (more : List ℕ) → exception_line b ≡ 110 ∷ more → ⊥
no_exception_begins true more h = let k : ◌≡◌ {A = ℕ} 101 110 = ap first_of h in omega arith
no_exception_begins false more h = cc

causes_begin : (policy : Policy) (es : List Envelope) (has_exception : Bool) (causes : List ℕ) → IsCauses policy es has_exception causes → (more : List ℕ) → causes ≡ 110 ∷ more → ⊥
causes_begin policy es has_exception causes are more h =
    let a = limited_text (case_causes policy es) in
    let b = limited_text (hook_causes policy es) in
    let c = limited_text are.refused in
    let end = exception_line has_exception in
    let apart : a ++ (b ++ (c ++ end)) ≡ 110 ∷ more = sym (append_assoc a b (c ++ end)) ∙ sym (append_assoc (a ++ b) c end) ∙ sym are.all ∙ h in
    let one = past (case_causes policy es) (each_map BeginsOtherwise (cause_of_case es) (λ c. case_line es c.id (result_of c.id (calls_of es))) (filter (λ c. not (is_good_case policy es c)) (cases es))) (b ++ (c ++ end)) more apart in
    let two = past (hook_causes policy es) (each_given BeginsOtherwise (λ (s : TestRunHookStarted). bad_hook_line s.hook_id) (bad_end policy es) (λ s status rest more h. hook_line s.hook_id status rest more h) (run_hooks es)) (c ++ end) more one in
    let three = past are.refused (refused_lines (sources es) are.refused are.are_refused) end more two in
    no_exception_begins has_exception more three

none_told : (policy : Policy) (es : List Envelope) (b : Bool) (causes : List ℕ) → IsCauses policy es b causes → told_causes causes ≡ nothing_failed → causes ≡ []
none_told policy es b [] are h = refl
none_told policy es b (c ∷ more) are h = absurd (begins h)
  where
    begins : c ∷ more ≡ nothing_failed → ⊥
    begins k = let first : c ≡ 110 = ap first_of k in causes_begin policy es b (c ∷ more) are more (ap (λ x. x ∷ more) first)

pub nothing_failed_law : NothingFailedIsAllWell
nothing_failed_law policy es f text known told =
    let well = no_cause policy es f told.causes known told.are_causes in
    ((λ h. well.0 (none_told policy es f.has_exception told.causes told.are_causes (sym told.told ∙ h))), (λ w. told.told ∙ ap told_causes (well.1 w)))
