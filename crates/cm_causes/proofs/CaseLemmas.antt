-- The lines of results are the causes of test cases.
use Rattle.std.proofs.Common.{◌≡◌, ◌∙◌, refl, sym, ap, ℕ, Bool, true, false, not, ◌&&◌, List, [], ◌∷◌, ◌++◌, Option, None, Some, append-nil, map}
use Rattle.std.specs.Prelude.{codes, if◌then◌else◌, option_map}
use Rattle.std.specs.List.{filter, flat_map}
use Rattle.std.specs.Option.{option_and_then, option_map_or}
use Rattle.std.proofs.lemmas.List.Elements.{filter_agree}
use Rattle.cm_attempt.specs.Calls as call
use Rattle.cm_attempt.specs.Calls.{DeclaredCase, last_of, result_of}
use Rattle.cm_attempt.specs.Results.{case_results, result_view}
use Rattle.cm_attempt.specs.Table.{Table, is_good_status}
use Rattle.cm_attempt.specs.Worst.{worst_of}
use Rattle.cm_attempt.specs.declared.status.Policy.{Policy}
use Rattle.cm_attempt.specs.declared.status.Status.{Status}
use Rattle.cm_attempt.specs.declared.status.Status.TheVariants.{Unknown, Passed, Skipped, Pending, Undefined, Ambiguous, Failed}
use Rattle.cm_attempt.specs.declared.track.CaseResult.{CaseResult}
use Rattle.cm_envelope.specs.declared.envelope.Envelope.{Envelope}
use Rattle.cm_envelope.specs.declared.envelope.TestCase.{TestCase}
use Rattle.cm_envelope.specs.declared.envelope.TestCaseStarted.{TestCaseStarted}
use Rattle.cm_stream.specs.Calls.{calls_of}
use Rattle.cm_stream.specs.References.{cases, if_any, is_final, is_good_case, starts_of, statuses}
use Rattle.cm_stream.specs.Results.{results_of}
use Rattle.cm_stream.specs.Texts.{Utf8}
use Rattle.cm_stream.proofs.CallWords.{case_told, cases_told, final_told, start_told, starts_of_told, statuses_told}
use Rattle.cm_stream.proofs.Lists.{map_twice}
use Rattle.cm_steps.specs.Attempts.{is_quiet, last_attempt, step_with}
use Rattle.cm_steps.specs.Steps.{named_case_step}
use Rattle.cm_causes.specs.Causes.{case_causes, cause_of_case, last_step_cause, result_line, step_cause}
use Rattle.cm_causes.specs.Told.{is_bad, told_result}
use Rattle.cm_causes.proofs.CauseLists.{filter_of_map, map_kept}

last_map : {X Y : Type 0} (f : X → Y) (xs : List X) → last_of (map f xs) ≡ option_map f (last_of xs)
last_map f [] = refl
last_map f (x ∷ []) = refl
last_map f (x ∷ y ∷ more) = last_map f (y ∷ more)

-- a result isn't good exactly where its test case isn't
pub bad_result : (policy : Policy) (es : List Envelope) (c : TestCase) → is_bad policy (result_of c.id (calls_of es)) ≡ not (is_good_case policy es c)
bad_result policy es c =
    ap (λ o. is_bad policy (option_and_then (call.final_status (calls_of es)) o)) (ap last_of (starts_of_told c.id es) ∙ last_map start_told (starts_of c.id es))
    ∙ go (last_of (starts_of c.id es))
  where
    both : (b : Bool) (worst : Status) → is_bad policy (if b then Some worst else None) ≡ not (b && is_good_status policy worst)
    both true worst = refl
    both false worst = refl

    go : (o : Option TestCaseStarted) → is_bad policy (option_and_then (call.final_status (calls_of es)) (option_map start_told o))
        ≡ not (option_map_or (λ (s : TestCaseStarted). is_final s.id es && is_good_status policy (worst_of (statuses s.id es))) o false)
    go None = refl
    go (Some s) = (λ i. is_bad policy (if final_told s.id es i then Some (worst_of (statuses_told s.id es i)) else None)) ∙ both (is_final s.id es) (worst_of (statuses s.id es))

loud_if_bad : (policy : Policy) (s : Status) → is_bad policy (Some s) ≡ true → is_quiet s ≡ false
loud_if_bad policy Unknown h = refl
loud_if_bad policy Passed h = cc
loud_if_bad policy Skipped h = cc
loud_if_bad policy Pending h = refl
loud_if_bad policy Undefined h = refl
loud_if_bad policy Ambiguous h = refl
loud_if_bad policy Failed h = refl

told_same : (policy : Policy) (es : List Envelope) (r : Utf8 × Option Status) → is_bad policy r.1 ≡ true → told_result es r.0 r.1 ≡ result_line es r.0 r.1
told_same policy es r = go r.1
  where
    go : (o : Option Status) → is_bad policy o ≡ true → told_result es r.0 o ≡ result_line es r.0 o
    go None h = refl
    go (Some s) h = let loud = loud_if_bad policy s h in rw loud refl

pub bad_lines : (policy : Policy) (es : List Envelope) → map (λ (r : Utf8 × Option Status). told_result es r.0 r.1) (filter (λ r. is_bad policy r.1) (results_of es)) ≡ case_causes policy es
bad_lines policy es =
    let p : Utf8 × Option Status → Bool = λ r. is_bad policy r.1 in
    let line : Utf8 × Option Status → List ℕ = λ r. result_line es r.0 r.1 in
    let told : DeclaredCase → Utf8 × Option Status = λ c. (c.id, result_of c.id (calls_of es)) in
    let here : TestCase → Utf8 × Option Status = λ c. (c.id, result_of c.id (calls_of es)) in
    map_kept p (λ r. told_result es r.0 r.1) line (told_same policy es) (results_of es)
    ∙ ap (λ (rs : List (Utf8 × Option Status)). map line (filter p rs)) (ap (map told) (cases_told es) ∙ map_twice told case_told (cases es))
    ∙ ap (map line) (filter_of_map p here (cases es))
    ∙ map_twice line here (filter (λ (c : TestCase). p (here c)) (cases es))
    ∙ ap (map (cause_of_case es)) (filter_agree (λ (c : TestCase). p (here c)) (λ c. not (is_good_case policy es c)) (bad_result policy es) (cases es))

-- the lines of the results that the code finds
pub found_lines : (policy : Policy) (es : List Envelope) (t : Table) (bad : List CaseResult) → map result_view bad ≡ filter (λ r. is_bad policy r.1) (case_results t) → case_results t ≡ results_of es
    → map (λ (r : CaseResult). told_result es r.id.now r.status) bad ≡ case_causes policy es
found_lines policy es t bad found same =
    sym (map_twice (λ (r : Utf8 × Option Status). told_result es r.0 r.1) result_view bad)
    ∙ ap (map (λ (r : Utf8 × Option Status). told_result es r.0 r.1)) (found ∙ ap (filter (λ (r : Utf8 × Option Status). is_bad policy r.1)) same)
    ∙ bad_lines policy es

-- ---- the step that has the status

pub step_told : (es : List Envelope) (case attempt step : Utf8) (status : Status) → Some attempt ≡ last_attempt case es → Some step ≡ step_with attempt status es → last_step_cause es case status ≡ codes " " ++ named_case_step es case step
step_told es case attempt step status last first =
    ap (λ (o : Option Utf8). flat_map (λ (x : Utf8). step_cause es case x status) (if_any o)) (sym last)
    ∙ append-nil (step_cause es case attempt status)
    ∙ ap (λ (o : Option Utf8). flat_map (λ (x : Utf8). codes " " ++ named_case_step es case x) (if_any o)) (sym first)
    ∙ append-nil (codes " " ++ named_case_step es case step)
