-- What is reported of a line by what is kept of the lines before it is the line's fault over all of them.
use Rattle.std.proofs.Common.{◌≡◌, ℕ, refl, sym, ap, ◌∙◌, List, [], ◌∷◌, ◌++◌, Some, true, false, Bool, not, ◌&&◌, ◌||◌, ◌==◌}
use Rattle.std.specs.Prelude.{is_some, nat_lt, if◌then◌else◌}
use Rattle.std.specs.Option.{option_or}
use Rattle.cm_attempt.specs.declared.status.Policy.{Policy}
use Rattle.cm_stream.specs.References.{Name, SourceOf, DocumentOf, Definition, HookNamed, RunHook, times_declared, is_judged, has_run_started, has_run_finished}
use Rattle.cm_stream.specs.Checks.{Check, ◌if◌, first_failed, refers_to_unknown, has_steps_of_pickle, same_flag}
use Rattle.cm_stream.specs.ByOnePass.{checks_of, success_check}
use Rattle.cm_stream.specs.CallFaults.{own_checks}
use Rattle.cm_stream.specs.Findings as bad
use Rattle.cm_stream.specs.Findings.{IsBad}
use Rattle.cm_refs.specs.Declarations.{find_run_hook}
use Rattle.cm_attempt.specs.Table.{has_text}
use Rattle.cm_envelope.specs.declared.envelope.Envelope.{Envelope}
use Rattle.cm_envelope.specs.declared.envelope.Envelope.TheVariants as envelope
use Rattle.cm_stream.proofs.Passing.{AllPass, plain_passes}
use Rattle.cm_stream.proofs.TableSteps.{AreAccepted, none_is_refused, own_refused}
use Rattle.cm_stream.proofs.TableWords.{none_open}
use Rattle.cm_state.specs.Summary.{declarations_in}
use Rattle.cm_stream.specs.OnePass.{reads}
use Rattle.cm_stream.proofs.ByGrammar.{by_the_grammar}
use Rattle.cm_state.specs.Laws.{FindingsAreFaults, FindingsAreFaultsBy}
use Rattle.cm_state.specs.StateChecks.{checks_after, success_by}
use Rattle.cm_state.specs.ByOnePass.{summary_of_lines, checks_before, plain_finding, finding_inside}
use Rattle.cm_state.proofs.Tests.{IsDeclaredIf, source_declared, document_declared, definition_declared, hook_declared, run_hook_declared, started_is, run_known}
use Rattle.cm_state.proofs.StepTests.{both_known, pickle_again, case_known, steps_are}
use Rattle.cm_state.proofs.SourceTests.{same_accepted, same_awaited, same_next, same_incomplete}
use Rattle.cm_state.proofs.AttemptTests.{same_well, place_known}
use Rattle.cm_state.proofs.RunHooks.{hook_finished_by, no_hook_open, hook_start_known}
use Rattle.cm_stream.proofs.Lists.{or_no}

-- ---- checks in turn

in_turn : (xs ys : List Check) → first_failed (xs ++ ys) ≡ option_or (first_failed xs) (first_failed ys)
in_turn [] ys = refl
in_turn (c ∷ xs) ys = go c.fails refl (in_turn xs ys)
  where
    go : (b : Bool) → c.fails ≡ b → first_failed (xs ++ ys) ≡ option_or (first_failed xs) (first_failed ys) → first_failed ((c ∷ xs) ++ ys) ≡ option_or (first_failed (c ∷ xs)) (first_failed ys)
    go true e rec = rw e refl
    go false e rec = rw e rec

-- the checks report the same, and up to the first that a line fails it fails the same of them
abbrev AreSame : List Check → List Check → Type 0
AreSame [] [] = Unit {0}
AreSame (x ∷ xs) (y ∷ ys) = (x.finding ≡ y.finding) × (x.fails ≡ y.fails) × (x.fails ≡ false → AreSame xs ys)
AreSame _ _ = ⊥

same_failed : (xs ys : List Check) → AreSame xs ys → first_failed xs ≡ first_failed ys
same_failed [] [] h = refl
same_failed [] (y ∷ ys) h = absurd h
same_failed (x ∷ xs) [] h = absurd h
same_failed (x ∷ xs) (y ∷ ys) h = go x.fails refl (λ e. same_failed xs ys (h.2 e))
  where
    go : (b : Bool) → x.fails ≡ b → (x.fails ≡ false → first_failed xs ≡ first_failed ys) → first_failed (x ∷ xs) ≡ first_failed (y ∷ ys)
    go true e rest = rw (e, sym h.1 ∙ e) (ap Some h.0)
    go false e rest = rw (e, sym h.1 ∙ e) (rest e)

-- the checks of a line before those that its call makes
abbrev checks_first : (first : ℕ) → List Envelope → Envelope → List Check
checks_first first es (envelope.TestCase c) = bad.UnknownReference if refers_to_unknown es (envelope.TestCase c) ∷ bad.CaseStepsDiffer if not (has_steps_of_pickle es c) ∷ []
checks_first first es (envelope.TestCaseStarted s) = bad.OutsideRun if not (has_run_started es) ∷ []
checks_first first es (envelope.TestStepStarted s) = []
checks_first first es (envelope.TestStepFinished s) = []
checks_first first es (envelope.TestCaseFinished f) = []
checks_first first es e = checks_of first es e

in_parts : (first : ℕ) (es : List Envelope) (e : Envelope) → checks_of first es e ≡ checks_first first es e ++ (own_checks first es e ++ checks_after e)
in_parts first es (envelope.TestCase c) = refl
in_parts first es (envelope.TestCaseStarted s) = refl
in_parts first es (envelope.TestStepStarted s) = refl
in_parts first es (envelope.TestStepFinished s) = refl
in_parts first es (envelope.TestCaseFinished f) = refl
in_parts first es _ = refl

-- ---- one name

unknown_one : (name : Name) (es : List Envelope) (b : Bool) → IsDeclaredIf name es b → not b ≡ ((times_declared name es == 0) || false)
unknown_one name es b k = sym k.unknown ∙ sym (or_no (times_declared name es == 0))

pub again_one : (name : Name) (es : List Envelope) (b : Bool) → IsDeclaredIf name es b → b ≡ (nat_lt 0 (times_declared name es) || false)
again_one name es b k = sym k.again ∙ sym (or_no (nat_lt 0 (times_declared name es)))

-- ---- each line

agree : (first : ℕ) (es : List Envelope) → AllPass es → AreAccepted first es → (e : Envelope) → AreSame (checks_before (summary_of_lines first es) e) (checks_first first es e)
agree first es pass accepted (envelope.Source x) =
    (refl, again_one (SourceOf x.uri) es (has_text x.uri (declarations_in es).sources) (source_declared x.uri es), λ _. (refl, refl, λ _. (refl, refl, λ _. (refl, refl, λ _. tt))))
agree first es pass accepted (envelope.GherkinDocument d) =
    let source = unknown_one (SourceOf d.uri) es (has_text d.uri (declarations_in es).sources) (source_declared d.uri es) in
    let document = again_one (DocumentOf d.uri) es (has_text d.uri (declarations_in es).documents) (document_declared d.uri es) in
    let accepted = ap not (same_accepted first es d.uri) in
    (refl, source, λ _. (refl, document, λ new. (refl, accepted, λ _. (refl, ap not (same_awaited first es d new), λ _. (refl, refl, λ _. tt)))))
agree first es pass accepted (envelope.ParseError p) =
    let source = unknown_one (SourceOf p.source.uri) es (has_text p.source.uri (declarations_in es).sources) (source_declared p.source.uri es) in
    (refl, source, λ _. (refl, same_accepted first es p.source.uri, λ _. tt))
agree first es pass accepted (envelope.Pickle p) =
    let source = (source_declared p.uri es).unknown in
    let document = unknown_one (DocumentOf p.uri) es (has_text p.uri (declarations_in es).documents) (document_declared p.uri es) in
    let both = both_known (has_text p.uri (declarations_in es).sources) (has_text p.uri (declarations_in es).documents) in
    (refl, sym both ∙ (λ i. sym source i || document i), λ _. (refl, ap not (same_next first es p), λ _. (refl, pickle_again es p, λ _. tt)))
agree first es pass accepted (envelope.StepDefinition d) = (refl, again_one (Definition d.id) es (has_text d.id (declarations_in es).definitions) (definition_declared d.id es), λ _. tt)
agree first es pass accepted (envelope.Hook h) = (refl, again_one (HookNamed h.id) es (has_text h.id (declarations_in es).hooks) (hook_declared h.id es), λ _. tt)
agree first es pass accepted (envelope.TestCase c) = (refl, sym (case_known first es pass c), λ _. (refl, ap not (steps_are first es c), λ _. tt))
agree first es pass accepted (envelope.TestRunStarted r) = (refl, started_is es, λ _. tt)
agree first es pass accepted (envelope.TestCaseStarted x) = (refl, ap not (started_is es), λ _. tt)
agree first es pass accepted (envelope.TestRunFinished f) =
    let run = sym (run_known first es pass f.test_run_started_id) in
    (refl, ap not (started_is es), λ _. (refl, run, λ _. (refl, ap not (none_open first es accepted), λ _. (refl, ap not (no_hook_open es), λ _. (refl, same_incomplete es, λ _. tt)))))
agree first es pass accepted (envelope.Attachment a) = (refl, sym (place_known first es accepted a.test_case_started_id a.test_step_id), λ _. tt)
agree first es pass accepted (envelope.TestRunHookStarted x) =
    let again = again_one (RunHook x.id) es (is_some (find_run_hook (declarations_in es) x.id)) (run_hook_declared x.id es) in
    (refl, ap not (started_is es), λ _. (refl, sym (hook_start_known first es pass x), λ _. (refl, again, λ _. tt)))
agree first es pass accepted (envelope.TestRunHookFinished f) =
    let known = unknown_one (RunHook f.test_run_hook_started_id) es (is_some (find_run_hook (declarations_in es) f.test_run_hook_started_id)) (run_hook_declared f.test_run_hook_started_id es) in
    (refl, known, λ _. (refl, hook_finished_by first es pass f.test_run_hook_started_id, λ _. (refl, refl, λ _. tt)))
agree first es pass accepted _ = tt

agree_last : (policy : Policy) (first : ℕ) (es : List Envelope) → AllPass es → AreAccepted first es → (e : Envelope) → AreSame (success_by policy (summary_of_lines first es) e) (success_check policy es e)
agree_last policy first es pass accepted (envelope.TestRunFinished f) = (refl, ap (λ (b : Bool). not (same_flag f.success (b && not f.has_exception))) (same_well policy first es pass accepted), λ _. tt)
agree_last policy first es pass accepted _ = tt

plainly : (first : ℕ) (es : List Envelope) (e : Envelope) → AllPass es → AreAccepted first es → plain_finding (summary_of_lines first es) e ≡ first_failed (checks_of first es e)
plainly first es e pass accepted =
    let front = same_failed (checks_before (summary_of_lines first es) e) (checks_first first es e) (agree first es pass accepted e) in
    let own = own_refused first es e accepted in
    (λ i. option_or (front i) (option_or (own i) (first_failed (checks_after e))))
    ∙ ap (option_or (first_failed (checks_first first es e))) (sym (in_turn (own_checks first es e) (checks_after e)))
    ∙ sym (in_turn (checks_first first es e) (own_checks first es e ++ checks_after e))
    ∙ ap first_failed (sym (in_parts first es e))

inside : (policy : Policy) (first : ℕ) (es : List Envelope) (e : Envelope) → AllPass es → AreAccepted first es → finding_inside policy (summary_of_lines first es) e ≡ first_failed (checks_of first es e ++ success_check policy es e)
inside policy first es e pass accepted =
    let plain = plainly first es e pass accepted in
    let last = same_failed (success_by policy (summary_of_lines first es) e) (success_check policy es e) (agree_last policy first es pass accepted e) in
    (λ i. option_or (plain i) (last i)) ∙ sym (in_turn (checks_of first es e) (success_check policy es e))

pub findings_are_faults : FindingsAreFaultsBy reads
findings_are_faults settings es e none =
    let told = inside settings.policy settings.first_attempt es e (plain_passes settings es none) (none_is_refused settings es none) in
    ap (λ o. if is_judged e && has_run_finished es then Some (IsBad bad.AfterRunFinished) else o) told

pub findings_are_faults_law : FindingsAreFaults
findings_are_faults_law = by_the_grammar FindingsAreFaultsBy findings_are_faults
