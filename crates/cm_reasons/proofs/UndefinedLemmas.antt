-- A step is told as undefined exactly where one is counted.
use Rattle.std.proofs.Common.{◌≡◌, ◌∙◌, ap, sym, refl, Bool, true, false, ◌&&◌, List, [], ◌∷◌, ◌++◌, length, map, Option, None, Some}
use Rattle.std.specs.Prelude.{find}
use Rattle.std.specs.List.{filter, flat_map, list_any}
use Rattle.std.specs.Option.{option_and_then, option_map_or}
use Rattle.std.specs.Str.{bytes_eq}
use Rattle.std.proofs.lemmas.Bool.{both_ways, false_from_ne_true}
use Rattle.std.proofs.lemmas.Grind.{flat_map-append}
use Rattle.std.proofs.lemmas.List.{length-map}
use Rattle.cm_attempt.specs.declared.status.Policy.{Policy}
use Rattle.cm_envelope.specs.declared.envelope.Envelope.{Envelope}
use Rattle.cm_envelope.specs.declared.envelope.Envelope.TheVariants as envelope
use Rattle.cm_envelope.specs.declared.envelope.TestCase.{TestCase}
use Rattle.cm_envelope.specs.declared.envelope.TestStep.{TestStep}
use Rattle.cm_envelope.specs.declared.envelope.TestStepFinished.{TestStepFinished}
use Rattle.cm_stream.specs.References.{case_of, cases, find_case}
use Rattle.cm_stream.specs.Release.{is_passing, is_unmatched, passes_unmatched, test_step_of}
use Rattle.cm_stream.specs.Statuses.{kept_status}
use Rattle.cm_stream.specs.Texts.{Utf8}
use Rattle.cm_stream.proofs.Found.{eq_back}
use Rattle.cm_stream.proofs.Lists.{and_true, any_here, count_none, keeps_none, none_counted, none_kept}
use Rattle.cm_stream.proofs.Steps.{both_none, never}
use Rattle.cm_reasons.specs.Laws.{UndefinedStepsAreTold}
use Rattle.cm_reasons.specs.Reasons.{is_end_of, is_undefined_step, undefined_steps, undefined_steps_of}

-- ---- lists

-- a list that is cut at an element that passes a test
record FoundIn {X : Type 0} (p : X → Bool) (xs : List X) (x : X) : Type 0 where
  front : List X
  back : List X
  cut : xs ≡ front ++ x ∷ back
  passes : p x ≡ true

found_in : {X : Type 0} (p : X → Bool) (xs : List X) (x : X) → find p xs ≡ Some x → FoundIn p xs x
found_in p [] x h = cc
found_in {X} p (y ∷ ys) x h = go (p y) refl (λ later. found_in p ys x later)
  where
    go : (b : Bool) → p y ≡ b → (find p ys ≡ Some x → FoundIn p ys x) → FoundIn p (y ∷ ys) x
    go true e rec =
        let here : Some y ≡ Some x = rw e at h in
        let same : y ≡ x = cc in
        record { front = []; back = ys; cut = ap (λ z. z ∷ ys) same; passes = sym (ap p same) ∙ e }
    go false e rec =
        let later = rec (rw e at h) in
        record { front = y ∷ later.front; back = later.back; cut = ap (λ l. y ∷ l) later.cut; passes = later.passes }

each_fails : {X : Type 0} (p : X → Bool) (xs : List X) → ((front : List X) (x : X) (back : List X) → xs ≡ front ++ x ∷ back → p x ≡ false) → list_any p xs ≡ false
each_fails p [] h = refl
each_fails p (x ∷ xs) h = rw (h [] x xs refl) (each_fails p xs (λ front y back cut. h (x ∷ front) y back (ap (λ l. x ∷ l) cut)))

nil_first : {X : Type 0} (xs ys : List X) → xs ++ ys ≡ [] → xs ≡ []
nil_first [] ys h = refl
nil_first (x ∷ xs) ys h = cc

nil_last : {X : Type 0} (xs ys : List X) → xs ++ ys ≡ [] → ys ≡ []
nil_last [] ys h = h
nil_last (x ∷ xs) ys h = cc

nil_here : {X Y : Type 0} (g : X → List Y) (xs front : List X) (x : X) (back : List X) → flat_map g xs ≡ [] → xs ≡ front ++ x ∷ back → g x ≡ []
nil_here g xs front x back none cut =
    nil_first (g x) (flat_map g back)
    (nil_last (flat_map g front) (g x ++ flat_map g back) (sym (flat_map-append g front (x ∷ back)) ∙ sym (ap (flat_map g) cut) ∙ none))

flat_nil : {X Y : Type 0} (g : X → List Y) → ((x : X) → g x ≡ []) → (xs : List X) → flat_map g xs ≡ []
flat_nil g h [] = refl
flat_nil g h (x ∷ xs) = rw (h x) (flat_nil g h xs)

all_fail : {X : Type 0} (p : X → Bool) → ((x : X) → p x ≡ false) → (xs : List X) → list_any p xs ≡ false
all_fail p h [] = refl
all_fail p h (x ∷ xs) = rw (h x) (all_fail p h xs)

-- ---- no step is counted

none_told : (policy : Policy) (es : List Envelope) → list_any (passes_unmatched policy es) es ≡ false → undefined_steps policy es ≡ []
none_told policy es none =
    flat_nil (undefined_steps_of policy es)
    (λ c.
    let each : (t : TestStep) → is_undefined_step policy es c t ≡ false =
    λ t. ap (λ b. is_unmatched t && b) (both_none (passes_unmatched policy es) (is_end_of es c.id t.id) es none) ∙ never (is_unmatched t) in
    ap (map (λ (t : TestStep). record { test_case = c.id; step = t.id }))
    (keeps_none (is_undefined_step policy es c) c.test_steps (all_fail (is_undefined_step policy es c) each c.test_steps)))
    (cases es)

-- ---- no step is told

module _ (policy : Policy) (es : List Envelope) (none : undefined_steps policy es ≡ []) where
  step_none : (q : TestCase → Bool) (c : TestCase) → FoundIn q (cases es) c → (r : TestStep → Bool) (t : TestStep) → FoundIn r c.test_steps t → is_undefined_step policy es c t ≡ false
  step_none q c at r t in_case =
      let nil : undefined_steps_of policy es c ≡ [] = nil_here (undefined_steps_of policy es) (cases es) at.front c at.back none at.cut in
      let kept = filter (is_undefined_step policy es c) c.test_steps in
      let fails : list_any (is_undefined_step policy es c) c.test_steps ≡ false =
      none_kept (is_undefined_step policy es c) c.test_steps (sym (length-map kept (λ (s : TestStep). record { test_case = c.id; step = s.id })) ∙ ap length nil) in
      any_here (is_undefined_step policy es c) in_case.front t in_case.back (sym (ap (list_any (is_undefined_step policy es c)) in_case.cut) ∙ fails)

  module _ (front : List Envelope) (f : TestStepFinished) (back : List Envelope) (cut : es ≡ front ++ envelope.TestStepFinished f ∷ back) where
    abbrev passing : Bool
    passing = is_passing policy (kept_status f.test_step_result.status)

    abbrev of_case : Option TestCase → Option TestStep
    of_case o = option_and_then (λ c. find (λ t. bytes_eq f.test_step_id t.id) c.test_steps) o

    abbrev of_id : Option Utf8 → Option TestCase
    of_id o = option_and_then (λ id. find_case id es) o

    at_step : (id : Utf8) → case_of f.test_case_started_id es ≡ Some id → (c : TestCase) → find_case id es ≡ Some c
        → (t : TestStep) → find (λ t. bytes_eq f.test_step_id t.id) c.test_steps ≡ Some t → (passing && is_unmatched t) ≡ false
    at_step id of c is t found =
        false_from_ne_true _
        (λ yes.
        let parts = and_true passing (is_unmatched t) yes in
        let case_at = found_in (λ (x : TestCase). bytes_eq id x.id) (cases es) c is in
        let step_at = found_in (λ (x : TestStep). bytes_eq f.test_step_id x.id) c.test_steps t found in
        let test : test_step_of f.test_case_started_id f.test_step_id es ≡ Some t = ap (λ o. of_case (of_id o)) of ∙ ap of_case is ∙ found in
        let passes : passes_unmatched policy es (envelope.TestStepFinished f) ≡ true = ap (λ o. passing && option_map_or is_unmatched o false) test ∙ yes in
        let ends : is_end_of es c.id t.id (envelope.TestStepFinished f) ≡ true =
        (λ j. (eq_back t.id f.test_step_id ∙ step_at.passes) j && option_map_or (bytes_eq c.id) (of j) false) ∙ eq_back c.id id ∙ case_at.passes in
        let fails = step_none _ c case_at _ t step_at in
        let any_fails : list_any (λ e. passes_unmatched policy es e && is_end_of es c.id t.id e) es ≡ false =
        sym (ap (λ b. b && list_any (λ e. passes_unmatched policy es e && is_end_of es c.id t.id e) es) parts.1) ∙ fails in
        let here : (passes_unmatched policy es (envelope.TestStepFinished f) && is_end_of es c.id t.id (envelope.TestStepFinished f)) ≡ false =
        any_here (λ e. passes_unmatched policy es e && is_end_of es c.id t.id e) front (envelope.TestStepFinished f) back
        (sym (ap (list_any (λ e. passes_unmatched policy es e && is_end_of es c.id t.id e)) cut) ∙ any_fails) in
        both_ways _ here (λ j. passes j && ends j))

    at_case : (id : Utf8) → case_of f.test_case_started_id es ≡ Some id → (c : TestCase) → find_case id es ≡ Some c
        → (o : Option TestStep) → find (λ t. bytes_eq f.test_step_id t.id) c.test_steps ≡ o → (passing && option_map_or is_unmatched o false) ≡ false
    at_case id of c is None found = never passing
    at_case id of c is (Some t) found = at_step id of c is t found

    at_id : (id : Utf8) → case_of f.test_case_started_id es ≡ Some id → (o : Option TestCase) → find_case id es ≡ o → (passing && option_map_or is_unmatched (of_case o) false) ≡ false
    at_id id of None is = never passing
    at_id id of (Some c) is = at_case id of c is (find (λ t. bytes_eq f.test_step_id t.id) c.test_steps) refl

    at_attempt : (o : Option Utf8) → case_of f.test_case_started_id es ≡ o → (passing && option_map_or is_unmatched (of_case (of_id o)) false) ≡ false
    at_attempt None of = never passing
    at_attempt (Some id) of = at_id id of (find_case id es) refl

  none_passes : (front : List Envelope) (e : Envelope) (back : List Envelope) → es ≡ front ++ e ∷ back → passes_unmatched policy es e ≡ false
  none_passes front (envelope.TestStepFinished f) back cut = at_attempt front f back cut (case_of f.test_case_started_id es) refl
  none_passes front (envelope.Pickle x) back cut = refl
  none_passes front (envelope.TestCase x) back cut = refl
  none_passes front (envelope.TestCaseStarted x) back cut = refl
  none_passes front (envelope.Source x) back cut = refl
  none_passes front (envelope.GherkinDocument x) back cut = refl
  none_passes front (envelope.ParseError x) back cut = refl
  none_passes front (envelope.StepDefinition x) back cut = refl
  none_passes front (envelope.Hook x) back cut = refl
  none_passes front (envelope.TestRunStarted x) back cut = refl
  none_passes front (envelope.TestStepStarted x) back cut = refl
  none_passes front (envelope.TestCaseFinished x) back cut = refl
  none_passes front (envelope.TestRunFinished x) back cut = refl
  none_passes front (envelope.Attachment x) back cut = refl
  none_passes front (envelope.TestRunHookStarted x) back cut = refl
  none_passes front (envelope.TestRunHookFinished x) back cut = refl
  none_passes front envelope.Other back cut = refl

pub undefined_steps_are_told : UndefinedStepsAreTold
undefined_steps_are_told policy es = (
  λ none. none_counted (passes_unmatched policy es) es (each_fails (passes_unmatched policy es) es (none_passes policy es none)),
  λ none. none_told policy es (count_none (passes_unmatched policy es) es none),
)
