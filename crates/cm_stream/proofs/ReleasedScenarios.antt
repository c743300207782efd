-- What a released run says by the conditions of its release.
use Rattle.cm_stream.specs.Statuses.{kept_status}
use Rattle.std.proofs.Common.{◌≡◌, ◌∙◌, ◌⊎◌, ℕ, suc, inl, inr, refl, sym, ap, ap₂, subst, List, [], ◌∷◌, ◌++◌, Option, Some, None, true, false, Bool, ◌&&◌, ◌||◌, ◌==◌, map, length, arith}
use Rattle.std.specs.Prelude.{◌≢◌, count_by, find, nat_lt}
use Rattle.std.specs.List.{AllByRecursion, filter, flat_map, list_any, list_all}
use Rattle.std.specs.Option.{option_and_then, option_map_or}
use Rattle.std.specs.Str.{bytes_eq}
use Rattle.std.proofs.lemmas.Bool.Decides.{nat_tests}
use Rattle.cm_attempt.specs.Calls.{last_of}
use Rattle.cm_attempt.specs.Table.{is_good_status}
use Rattle.cm_attempt.specs.declared.status.Policy.{Policy}
use Rattle.cm_attempt.specs.declared.status.Policy.TheVariants.{Strict, PendingPasses}
use Rattle.cm_attempt.specs.declared.status.Status.{Status}
use Rattle.cm_attempt.specs.declared.status.Status.TheVariants.{Unknown, Passed, Skipped, Pending, Undefined, Ambiguous, Failed}
use Rattle.cm_attempt.proofs.WorstLemmas.{good_worst, is_known}
use Rattle.cm_attempt.proofs.Growing.{all_weaker}
use Rattle.cm_attempt.specs.declared.status.Settings.{Settings}
use Rattle.gk_pickle.specs.Pickles.{pickles as compiled}
use Rattle.cm_envelope.specs.declared.envelope.Envelope.{Envelope}
use Rattle.cm_envelope.specs.declared.envelope.Envelope.TheVariants as envelope
use Rattle.cm_envelope.specs.declared.envelope.Source.{Source}
use Rattle.cm_envelope.specs.declared.envelope.Status as stream
use Rattle.cm_envelope.specs.declared.envelope.Status.TheVariants as line
use Rattle.cm_envelope.specs.declared.envelope.TestCase.{TestCase}
use Rattle.cm_envelope.specs.declared.envelope.TestCaseStarted.{TestCaseStarted}
use Rattle.cm_envelope.specs.declared.envelope.TestStep.{TestStep}
use Rattle.cm_envelope.specs.declared.pickle.Pickle.{Pickle}
use Rattle.cm_envelope.specs.declared.pickle.PickleTag.{PickleTag}
use Rattle.cm_stream.specs.Good.{Everywhere, ReferencesGood, has_unknown_result, is_unknown}
use Rattle.cm_stream.specs.References.{Name, PickleNamed, HookNamed, PickleStep, Definition, Run, as_case, if_any, case_of, cases, starts, pickles, pickles_of, find_case, statuses, test_step_names, declares_it, times_declared, status_in, sources}
use Rattle.cm_stream.specs.Release.{Conditions, IsReleasedStream, NoneIs, attempts_of, has_skip, is_attempt_of, is_retried_pickle, is_skipped, is_stepless, may_stay_unrun, passes_unmatched, strict_conditions, test_step_of}
use Rattle.cm_stream.specs.ReleasedRuns.{CaseMeets, CaseRan, EachScenarioRan, IsCompiled, RanOrMayNot, ReleasedCasesMeet, ReleasedScenariosRan, ReleasedStepsMatched, PicklePassed, ScenarioPassed, ScenarioRan, StepMatched, StrictlyRan, StrictlyReleased, may_be_left_out, PickleRan, EachScenarioPassed}
use Rattle.cm_stream.specs.Sources.{DuePickle, DueTag, english, ids_at, is_due, is_due_step, is_due_tag}
use Rattle.cm_stream.specs.declared.laws.ReleaseCounts.{ReleaseCounts}
use Rattle.cm_stream.specs.declared.laws.Counts.{Counts}
use Rattle.cm_stream.specs.Texts.{Utf8, same_list, same_texts}
use Rattle.cm_stream.proofs.Declared.{case_is, same_any}
use Rattle.cm_stream.proofs.Found.{bytes_are, bytes_same, each_found}
use Rattle.cm_stream.proofs.Lists.{all_here, and_true, each_false, none_counted, or_false, all_true}
use Rattle.cm_stream.proofs.Released.{each_mapped, kept_so, released_ran, some_there}

-- ---- the scenarios of a text

module _ (ids : List Utf8) where
  tags_have : (tag : Utf8) (ts : List PickleTag) (ds : List DueTag) → same_list (is_due_tag ids) ts ds ≡ true → list_any (λ t. bytes_eq tag t.name) ts ≡ list_any (λ t. bytes_eq tag t.name) ds
  tags_have tag [] [] h = refl
  tags_have tag [] (d ∷ ds) h = cc
  tags_have tag (t ∷ ts) [] h = cc
  tags_have tag (t ∷ ts) (d ∷ ds) h =
      let both = and_true (is_due_tag ids t d) (same_list (is_due_tag ids) ts ds) h in
      let name : t.name ≡ d.name = bytes_are t.name d.name (and_true (bytes_eq t.name d.name) _ both.0).0 in
      ap₂ (λ (a b : Bool). a || b) (ap (bytes_eq tag) name) (tags_have tag ts ds both.1)

  -- the tags of a pickle are those of its scenario
  due_tags : (p : Pickle) (due : DuePickle) → is_due ids p due ≡ true → same_list (is_due_tag ids) p.tags due.tags ≡ true
  due_tags p due h =
      let tags = same_list (is_due_tag ids) p.tags due.tags in
      let before = bytes_eq p.language english && bytes_eq p.name due.name && same_texts p.ast_node_ids (ids_at ids due.nodes) in
      (and_true before tags (and_true (before && tags) (same_list (is_due_step ids) p.steps due.steps) h).0).1

  may_same : (asked : Conditions) (p : Pickle) (due : DuePickle) → is_due ids p due ≡ true → may_stay_unrun asked p ≡ may_be_left_out asked due
  may_same asked p due h =
      ap (λ (b : Bool). asked.allows_unrun || b)
      (same_any (λ tag. list_any (λ t. bytes_eq tag t.name) p.tags) (λ tag. list_any (λ t. bytes_eq tag t.name) due.tags) (λ tag. tags_have tag p.tags due.tags (due_tags p due h)) asked.allowed_tags)

  module _ (asked : Conditions) (policy : Policy) (es : List Envelope) where
    scenario_ran : (p : Pickle) (due : DuePickle) → is_due ids p due ≡ true → RanOrMayNot asked policy es p → ScenarioRan asked policy es ids due
    scenario_ran p due h (inl ran) = record { pickle = p; is_its = h; ran = inl ran }
    scenario_ran p due h (inr may) = record { pickle = p; is_its = h; ran = inr (sym (may_same asked p due h) ∙ may) }

    each_scenario : (ps : List Pickle) (ds : List DuePickle) → same_list (is_due ids) ps ds ≡ true → AllByRecursion (RanOrMayNot asked policy es) ps → AllByRecursion (ScenarioRan asked policy es ids) ds
    each_scenario [] [] h all = tt
    each_scenario [] (d ∷ ds) h all = cc
    each_scenario (p ∷ ps) [] h all = cc
    each_scenario (p ∷ ps) (d ∷ ds) h all =
        let both = and_true (is_due ids p d) (same_list (is_due ids) ps ds) h in
        (scenario_ran p d both.0 all.0, each_scenario ps ds both.1 all.1)

pub released_scenarios_ran : ReleasedScenariosRan
released_scenarios_ran settings asked bytes counts found r whole =
    let es = r.judged in
    let h = released_ran settings asked bytes counts found r in
    all_weaker (IsCompiled es) (EachScenarioRan asked settings.policy es) (one (h.1 whole)) _ h.0.each_source
  where
    one : AllByRecursion (RanOrMayNot asked settings.policy r.judged) (pickles r.judged) → (s : Source) → IsCompiled r.judged s → EachScenarioRan asked settings.policy r.judged s
    one all s c =
        let es = r.judged in
        let P = RanOrMayNot asked settings.policy es in
        let its = kept_so P (λ p. bytes_eq s.uri p.uri) (pickles es) all in
        (c, each_scenario c.found.ids asked settings.policy es (pickles_of s.uri es) _ c.same_pickles (all_weaker (λ p. P p × (bytes_eq s.uri p.uri ≡ true)) P (λ p k. k.0) (pickles_of s.uri es) its))

-- ---- the only attempt

module _ {X : Type 0} (p q : X → Bool) (within : (x : X) → p x ≡ true → q x ≡ true) where
  filter_within : (xs : List X) → filter p (filter q xs) ≡ filter p xs
  filter_within [] = refl
  filter_within (x ∷ xs) = go (p x) (q x) refl refl (filter_within xs)
    where
      go : (b c : Bool) → p x ≡ b → q x ≡ c → filter p (filter q xs) ≡ filter p xs → filter p (filter q (x ∷ xs)) ≡ filter p (x ∷ xs)
      go true true e f rec = rw (e, f) (rw e (ap (λ ys. x ∷ ys) rec))
      go true false e f rec = let yes = within x e in cc
      go false true e f rec = rw (e, f) (rw e rec)
      go false false e f rec = rw (e, f) rec

  only_one : (ys : List X) (x : X) → nat_lt 1 (length ys) ≡ false → last_of (filter p ys) ≡ Some x → ys ≡ x ∷ []
  only_one [] x few last = cc
  only_one (y ∷ []) x few last = go (p y) refl
    where
      go : (b : Bool) → p y ≡ b → y ∷ [] ≡ x ∷ []
      go true e = let at : Some y ≡ Some x = rw e at last in let same : y ≡ x = cc in ap (λ z. z ∷ []) same
      go false e = let at : None ≡ Some x = rw e at last in cc
  only_one (y ∷ z ∷ more) x few last = absurd (several (length more) few)
    where
      several : (n : ℕ) → nat_lt 1 (suc (suc n)) ≡ false → ⊥
      several n e = grind (arith, nat_tests)

  one_kept : (xs : List X) (x : X) → nat_lt 1 (length (filter q xs)) ≡ false → last_of (filter p xs) ≡ Some x → filter q xs ≡ x ∷ []
  one_kept xs x few last = only_one (filter q xs) x few (ap last_of (filter_within xs) ∙ last)

module _ (policy : Policy) (es : List Envelope) (c : TestCase) (p : Pickle) (ran : CaseRan policy es c p) (is_its : bytes_eq p.id c.pickle_id ≡ true) where
  -- an attempt of the case is one of its pickle
  attempt_of : (s : TestCaseStarted) → bytes_eq c.id s.test_case_id ≡ true → is_attempt_of es p s ≡ true
  attempt_of s of_case =
      let same : s.test_case_id ≡ c.id = sym (bytes_are c.id s.test_case_id of_case) in
      ap (λ (id : Utf8). option_map_or (λ (x : TestCase). bytes_eq p.id x.pickle_id) (find_case id es) false) same
      ∙ ap (λ (o : Option TestCase). option_map_or (λ (x : TestCase). bytes_eq p.id x.pickle_id) o false) ran.is_there ∙ is_its

  only_attempt : is_retried_pickle es p ≡ false → attempts_of es p ≡ ran.attempt ∷ []
  only_attempt few = one_kept (λ (s : TestCaseStarted). bytes_eq c.id s.test_case_id) (is_attempt_of es p) attempt_of (starts es) ran.attempt few ran.is_last

  none_skipped : has_skip es c ≡ false → list_any is_skipped (statuses ran.attempt.id es) ≡ false
  none_skipped none = sym (ap (λ (o : Option TestCaseStarted). option_map_or (λ (s : TestCaseStarted). list_any is_skipped (statuses s.id es)) o false) ran.is_last) ∙ none

  has_steps : is_stepless es c ≡ false → p.steps ≢ []
  has_steps none = some_there p.steps (sym (ap (λ (o : Option Pickle). option_map_or (λ (x : Pickle). length x.steps == 0) o false) ran.of_pickle) ∙ none)

-- what is found is one of them, and passes
found_has : {X : Type 0} (P : X → Type 0) (q : X → Bool) (xs : List X) (x : X) → AllByRecursion P xs → find q xs ≡ Some x → P x
found_has P q [] x all e = cc
found_has {X} P q (y ∷ ys) x all e = go (q y) refl (found_has P q ys x all.1)
  where
    go : (b : Bool) → q y ≡ b → (find q ys ≡ Some x → P x) → P x
    go true k later = let at : Some y ≡ Some x = rw k at e in let same : y ≡ x = cc in subst P same all.0
    go false k later = later (rw k at e)

found_passes : {X : Type 0} (q : X → Bool) (xs : List X) (x : X) → find q xs ≡ Some x → q x ≡ true
found_passes q [] x e = cc
found_passes {X} q (y ∷ ys) x e = go (q y) refl (found_passes q ys x)
  where
    go : (b : Bool) → q y ≡ b → (find q ys ≡ Some x → q x ≡ true) → q x ≡ true
    go true k later = let at : Some y ≡ Some x = rw k at e in let same : y ≡ x = cc in ap q (sym same) ∙ k
    go false k later = later (rw k at e)

-- what holds of each, where it is asked for, holds of each with what else holds of it
module _ {X : Type 0} (skips stepless : Type 0) (P Q R S : X → Type 0) (f : (x : X) → P x → (skips → Q x) → (stepless → R x) → S x) where
  each_meets : (xs : List X) → AllByRecursion P xs → (skips → AllByRecursion Q xs) → (stepless → AllByRecursion R xs) → AllByRecursion S xs
  each_meets [] all q r = tt
  each_meets (x ∷ xs) all q r = (f x all.0 (λ k. (q k).0) (λ k. (r k).0), each_meets xs all.1 (λ k. (q k).1) (λ k. (r k).1))

module _ (settings : Settings) (asked : Conditions) (bytes : List ℕ) (counts : Counts) (found : ReleaseCounts) (r : IsReleasedStream settings asked bytes counts found) where
  abbrev es : List Envelope
  es = r.judged

  abbrev Meets : TestCase → Type 0
  Meets c = (p : Pickle) × (ran : CaseRan settings.policy es c p) × CaseMeets asked es p ran.attempt

  meets : (c : TestCase) (p : Pickle) (ran : CaseRan settings.policy es c p) → (asked.no_skips ≡ true → has_skip es c ≡ false) → (asked.no_stepless ≡ true → is_stepless es c ≡ false) → CaseMeets asked es p ran.attempt
  meets c p ran skips stepless =
      let q = λ (x : Pickle). bytes_eq c.pickle_id x.id in
      let its : c.pickle_id ≡ p.id = bytes_are c.pickle_id p.id (found_passes q (pickles es) p ran.of_pickle) in
      let is_its : bytes_eq p.id c.pickle_id ≡ true = ap (bytes_eq p.id) its ∙ bytes_same p.id in
      record {
        only_attempt = λ a. only_attempt settings.policy es c p ran is_its (found_has (λ x. is_retried_pickle es x ≡ false) q (pickles es) p (r.none_retried a) ran.of_pickle);
        none_skipped = λ a. none_skipped settings.policy es c p ran is_its (skips a);
        has_steps = λ a. has_steps settings.policy es c p ran is_its (stepless a);
      }

  -- of a case that is found by its id
  found_meets : (c : TestCase) (p : Pickle) (ran : CaseRan settings.policy es c p) → CaseMeets asked es p ran.attempt
  found_meets c p ran =
      let q = λ (x : TestCase). bytes_eq c.id x.id in
      meets c p ran (λ a. found_has (λ x. has_skip es x ≡ false) q (cases es) c (r.none_skipped a) ran.is_there) (λ a. found_has (λ x. is_stepless es x ≡ false) q (cases es) c (r.none_stepless a) ran.is_there)

  one_meets : (c : TestCase) → (p : Pickle) × CaseRan settings.policy es c p → (asked.no_skips ≡ true → has_skip es c ≡ false) → (asked.no_stepless ≡ true → is_stepless es c ≡ false) → Meets c
  one_meets c k skips stepless = (k.0, k.1, meets c k.0 k.1 skips stepless)

  cases_meet : AllByRecursion Meets (cases es)
  cases_meet =
      each_meets (asked.no_skips ≡ true) (asked.no_stepless ≡ true) (λ c. (p : Pickle) × CaseRan settings.policy es c p) (λ c. has_skip es c ≡ false) (λ c. is_stepless es c ≡ false) Meets one_meets
      (cases es) (released_ran settings asked bytes counts found r).0.each_case r.none_skipped r.none_stepless

pub released_cases_meet : ReleasedCasesMeet
released_cases_meet settings asked bytes counts found r = cases_meet settings asked bytes counts found r

-- ---- the step definitions of a step

from_some : {X Y : Type 0} (f : X → Option Y) (o : Option X) (y : Y) → option_and_then f o ≡ Some y → (x : X) × (o ≡ Some x) × (f x ≡ Some y)
from_some f None y e = cc
from_some f (Some x) y e = (x, refl, e)

module _ {X : Type 0} (P : X → Type 0) where
  all_left : (xs ys : List X) → AllByRecursion P (xs ++ ys) → AllByRecursion P xs
  all_left [] ys h = tt
  all_left (x ∷ xs) ys h = (h.0, all_left xs ys h.1)

  all_right : (xs ys : List X) → AllByRecursion P (xs ++ ys) → AllByRecursion P ys
  all_right [] ys h = h
  all_right (x ∷ xs) ys h = all_right xs ys h.1

  all_parts : {Y : Type 0} (f : Y → List X) (ys : List Y) → AllByRecursion P (flat_map f ys) → AllByRecursion (λ y. AllByRecursion P (f y)) ys
  all_parts f [] h = tt
  all_parts f (y ∷ ys) h = (all_left (f y) (flat_map f ys) h, all_parts f ys (all_right (f y) (flat_map f ys) h))

any_front : {X : Type 0} (q : X → Bool) (xs ys : List X) → list_any q xs ≡ true → list_any q (xs ++ ys) ≡ true
any_front q [] ys h = cc
any_front {X} q (x ∷ xs) ys h = go (q x) refl (any_front q xs ys)
  where
    go : (b : Bool) → q x ≡ b → (list_any q xs ≡ true → list_any q (xs ++ ys) ≡ true) → (q x || list_any q (xs ++ ys)) ≡ true
    go true e later = rw e refl
    go false e later = rw e (later (rw e at h))

not_one : ◌≡◌ {A = ℕ} 1 0 → ⊥
not_one e = cc

counted_any : {X : Type 0} (q : X → Bool) (xs : List X) → count_by q xs ≡ 1 → list_any q xs ≡ true
counted_any {X} q xs h = go (list_any q xs) refl
  where
    go : (b : Bool) → list_any q xs ≡ b → list_any q xs ≡ true
    go true e = e
    go false e = let no : ◌≡◌ {A = ℕ} 1 0 = sym h ∙ none_counted q xs e in absurd (not_one no)

module _ (es : List Envelope) (references : ReferencesGood es) where
  abbrev IsThere : Utf8 → Type 0
  IsThere id = list_any (declares_it (Definition id)) es ≡ true

  abbrev AreThere : TestStep → Type 0
  AreThere t = AllByRecursion IsThere t.step_definition_ids

  there_at : (front back : List Envelope) (c : TestCase) → es ≡ front ++ envelope.TestCase c ∷ back → AllByRecursion AreThere c.test_steps
  there_at front back c cut =
      let P = λ (name : Name). times_declared name front ≡ 1 in
      let names = references front (envelope.TestCase c) back cut in
      let others = all_right P (map Run (if_any c.test_run_started_id)) (PickleNamed c.pickle_id ∷ flat_map (test_step_names c.pickle_id) c.test_steps) names in
      all_weaker (λ t. AllByRecursion P (test_step_names c.pickle_id t)) AreThere one c.test_steps (all_parts P (test_step_names c.pickle_id) c.test_steps others.1)
    where
      is_there : (id : Utf8) → times_declared (Definition id) front ≡ 1 → IsThere id
      is_there id h = ap (list_any (declares_it (Definition id))) cut ∙ any_front (declares_it (Definition id)) front (envelope.TestCase c ∷ back) (counted_any (declares_it (Definition id)) front h)

      one : (t : TestStep) → AllByRecursion (λ (name : Name). times_declared name front ≡ 1) (test_step_names c.pickle_id t) → AreThere t
      one t h =
          let P = λ (name : Name). times_declared name front ≡ 1 in
          let hooks = map HookNamed (if_any t.hook_id) in
          let steps = map (PickleStep c.pickle_id) (if_any t.pickle_step_id) in
          let definitions = map Definition t.step_definition_ids in
          all_weaker (λ id. P (Definition id)) IsThere is_there t.step_definition_ids
          (each_mapped P Definition t.step_definition_ids (all_right P (hooks ++ steps) definitions h))

  all_there : AllByRecursion (λ c. AllByRecursion AreThere c.test_steps) (cases es)
  all_there = each_found as_case (λ c. AllByRecursion AreThere c.test_steps) es
      (λ front here back c cut is. there_at front back c (cut ∙ ap (λ x. front ++ x ∷ back) (case_is here c is)))

  step_there : (attempt step : Utf8) (t : TestStep) → test_step_of attempt step es ≡ Some t → AreThere t
  step_there attempt step t e =
      let u = from_some (λ c. find (λ x. bytes_eq step x.id) c.test_steps) _ t e in
      let v = from_some (λ id. find_case id es) (case_of attempt es) u.0 u.1 in
      let its = found_has (λ c. AllByRecursion AreThere c.test_steps) (λ c. bytes_eq v.0 c.id) (cases es) u.0 all_there v.2 in
      found_has AreThere (λ x. bytes_eq step x.id) u.0.test_steps t its u.2

pub released_steps_matched : ReleasedStepsMatched
released_steps_matched settings asked bytes counts found r asks = matched
  where
    matched : (front : List Envelope) (e : Envelope) (back : List Envelope) → r.judged ≡ front ++ e ∷ back → StepMatched settings.policy r.judged e
    matched front (envelope.TestStepFinished f) back cut = λ passing t its is_pickle.
        let es = r.judged in
        let test = passes_unmatched settings.policy es in
        let here : test (envelope.TestStepFinished f) ≡ false = all_here (λ x. test x ≡ false) front (envelope.TestStepFinished f) back (subst (λ xs. NoneIs test xs) cut (r.none_undefined asks)) in
        let none : (length t.step_definition_ids == 0) ≡ false = rw (passing, its, is_pickle) at here in
        (some_there t.step_definition_ids none, step_there es r.good.sound.references f.test_case_started_id f.test_step_id t its)
    matched front _ back cut = tt

-- ---- each step passed

known_status : (s : stream.Status) → is_unknown s ≡ false → is_known (kept_status s) ≡ true
known_status line.Unknown h = cc
known_status line.Passed h = refl
known_status line.Skipped h = refl
known_status line.Pending h = refl
known_status line.Undefined h = refl
known_status line.Ambiguous h = refl
known_status line.Failed h = refl

known_here : (a : Utf8) (e : Envelope) → has_unknown_result e ≡ false → (s : Status) → status_in a e ≡ Some s → is_known s ≡ true
known_here a (envelope.TestStepFinished f) h s e = go (bytes_eq a f.test_case_started_id) refl
  where
    go : (b : Bool) → bytes_eq a f.test_case_started_id ≡ b → is_known s ≡ true
    go true k =
        let at : Some (kept_status f.test_step_result.status) ≡ Some s = rw k at e in
        let same : kept_status f.test_step_result.status ≡ s = cc in
        subst (λ (x : Status). is_known x ≡ true) same (known_status f.test_step_result.status h)
    go false k = let at : None ≡ Some s = rw k at e in cc
known_here a _ h s e = cc

all_known : (a : Utf8) (es : List Envelope) → list_any has_unknown_result es ≡ false → list_all is_known (statuses a es) ≡ true
all_known a es none =
    all_true is_known (statuses a es) (each_found (status_in a) (λ s. is_known s ≡ true) es
    (λ front here back s cut is. known_here a here (all_here (λ x. has_unknown_result x ≡ false) front here back (subst (NoneIs has_unknown_result) cut (each_false has_unknown_result es none))) s is))

passed_one : (s : Status) → is_good_status Strict s ≡ true → is_skipped s ≡ false → s ≡ Passed
passed_one Unknown g n = cc
passed_one Passed g n = refl
passed_one Skipped g n = cc
passed_one Pending g n = cc
passed_one Undefined g n = cc
passed_one Ambiguous g n = cc
passed_one Failed g n = cc

each_passed : (ss : List Status) → list_all (is_good_status Strict) ss ≡ true → list_any is_skipped ss ≡ false → AllByRecursion (λ s. s ≡ Passed) ss
each_passed [] good none = tt
each_passed (s ∷ ss) good none =
    let g = and_true (is_good_status Strict s) (list_all (is_good_status Strict) ss) good in
    let n = or_false (is_skipped s) (list_any is_skipped ss) none in
    (passed_one s g.0 n.0, each_passed ss g.1 n.1)

abbrev strict_settings : (first : ℕ) (again : Bool) → Settings
strict_settings first again = record { policy = Strict; first_attempt = first; allows_redeclared = again }

pickle_passed : (first : ℕ) (again : Bool) (asked : Conditions) (bytes : List ℕ) (counts : Counts) (found : ReleaseCounts) (r : IsReleasedStream (strict_settings first again) asked bytes counts found)
    → asked.no_retries ≡ true → asked.no_skips ≡ true → asked.no_stepless ≡ true → (p : Pickle) → PickleRan Strict r.judged p → PicklePassed r.judged p
pickle_passed first again asked bytes counts found r retries skips stepless p ran =
    let meet = found_meets (strict_settings first again) asked bytes counts found r ran.0 p ran.1 in
    let attempt = ran.1.attempt in
    let all = statuses attempt.id r.judged in
    let good = sym (good_worst Strict all (all_known attempt.id r.judged r.good.sound.known)) ∙ ran.1.good_status in
    record {
      has_steps = meet.has_steps stepless;
      test_case = ran.0;
      ran = ran.1;
      only_attempt = meet.only_attempt retries;
      each_passed = each_passed all good (meet.none_skipped skips);
    }

module _ (first : ℕ) (again : Bool) (bytes : List ℕ) (counts : Counts) (found : ReleaseCounts) (r : IsReleasedStream (strict_settings first again) strict_conditions bytes counts found) where
  abbrev strict_es : List Envelope
  strict_es = r.judged

  scenario_passed : (ids : List Utf8) (due : DuePickle) → ScenarioRan strict_conditions Strict strict_es ids due → ScenarioPassed strict_es ids due
  scenario_passed ids due s = go s.ran
    where
      go : PickleRan Strict r.judged s.pickle ⊎ (may_be_left_out strict_conditions due ≡ true) → ScenarioPassed r.judged ids due
      go (inl ran) = record { pickle = s.pickle; is_its = s.is_its; passed = pickle_passed first again strict_conditions bytes counts found r refl refl refl s.pickle ran }
      go (inr may) = cc

  each_scenario_passed : AllByRecursion (EachScenarioPassed strict_es) (sources strict_es)
  each_scenario_passed =
      all_weaker (EachScenarioRan strict_conditions Strict strict_es) (EachScenarioPassed strict_es)
      (λ s h. (h.0, all_weaker (ScenarioRan strict_conditions Strict strict_es h.0.found.ids) (ScenarioPassed strict_es h.0.found.ids) (scenario_passed h.0.found.ids) (compiled h.0.document) h.1))
      (sources strict_es) (released_scenarios_ran (strict_settings first again) strict_conditions bytes counts found r refl)

pub strictly_released : StrictlyReleased
strictly_released settings bytes counts found r is = by_policy settings.policy is settings.first_attempt settings.allows_redeclared bytes counts found r
  where
    by_policy : (policy : Policy) → policy ≡ Strict → (first : ℕ) (again : Bool) (bytes : List ℕ) (counts : Counts) (found : ReleaseCounts) (r : IsReleasedStream (record { policy = policy; first_attempt = first; allows_redeclared = again }) strict_conditions bytes counts found)
        → AllByRecursion (EachScenarioPassed r.judged) (sources r.judged) × Everywhere (λ before e after. StepMatched Strict r.judged e) r.judged
    by_policy Strict e first again bytes counts found r =
        (each_scenario_passed first again bytes counts found r, released_steps_matched (record { policy = Strict; first_attempt = first; allows_redeclared = again }) strict_conditions bytes counts found r refl)
    by_policy PendingPasses e first again bytes counts found r = cc

pub strictly_ran : StrictlyRan
strictly_ran settings asked bytes counts found r is = by_policy settings.policy is settings.first_attempt settings.allows_redeclared asked bytes counts found r
  where
    by_policy : (policy : Policy) → policy ≡ Strict → (first : ℕ) (again : Bool) (asked : Conditions) (bytes : List ℕ) (counts : Counts) (found : ReleaseCounts) (r : IsReleasedStream (record { policy = policy; first_attempt = first; allows_redeclared = again }) asked bytes counts found)
        → asked.no_retries ≡ true → asked.no_skips ≡ true → asked.no_stepless ≡ true → (p : Pickle) → PickleRan policy r.judged p → PicklePassed r.judged p
    by_policy Strict e first again asked bytes counts found r = pickle_passed first again asked bytes counts found r
    by_policy PendingPasses e first again asked bytes counts found r = cc
