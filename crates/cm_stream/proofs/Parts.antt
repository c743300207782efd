-- Lines that pass their checks have good cases, retries, numbers and results.
use Rattle.std.proofs.Common.{◌≡◌, ℕ, ◌+◌, refl, sym, ap, ◌∙◌, List, [], ◌∷◌, ◌++◌, Option, Some, None, true, false, Bool, not, ◌&&◌, ◌==◌, map, length, arith}
use Rattle.std.specs.List.{list_any, list_all}
use Rattle.std.specs.Option.{option_map_or}
use Rattle.std.specs.Str.{bytes_eq}
use Rattle.std.proofs.lemmas.Bool.Decides.{nat_tests}
use Rattle.std.proofs.lemmas.Bool.{not-false}
use Rattle.cm_stream.specs.Texts.{Utf8, same_list, same_texts}
use Rattle.cm_stream.specs.References.{is_retried, starts_of, find_pickle, pickle_step_ids, as_pickle}
use Rattle.cm_stream.specs.Good.{CasesGood, CaseGood, RetriesGood, RetryGood, NumbersGood, NumberGood, SuccessGood, SuccessOf, has_unknown_result}
use Rattle.cm_stream.specs.Checks.{same_flag}
use Rattle.cm_stream.specs.ByOnePass.{IsFaultless, all_well, plain_checks, success_check}
use Rattle.cm_attempt.specs.declared.status.Policy.{Policy}
use Rattle.cm_attempt.specs.declared.status.Settings.{Settings}
use Rattle.cm_envelope.specs.declared.envelope.Envelope.{Envelope}
use Rattle.cm_envelope.specs.declared.envelope.Envelope.TheVariants as envelope
use Rattle.cm_envelope.specs.declared.pickle.Pickle.{Pickle}
use Rattle.cm_envelope.specs.declared.envelope.TestCase.{TestCase}
use Rattle.cm_stream.proofs.Readings.{success_is}
use Rattle.cm_stream.proofs.Lists.{and_true}
use Rattle.cm_stream.proofs.Found.{bytes_are, still_found}
use Rattle.cm_stream.proofs.Ends.{EndsRun, same_well}
use Rattle.cm_stream.proofs.Passing.{Passes, LinePasses, AllPass, SuccessPasses, plain_pass}
use Rattle.cm_stream.proofs.Order.{everywhere_none, after_end}

-- ---- cases

pub texts_are : (xs ys : List Utf8) → same_texts xs ys ≡ true → xs ≡ ys
texts_are [] [] h = refl
texts_are [] (y ∷ ys) h = cc
texts_are (x ∷ xs) [] h = cc
texts_are (x ∷ xs) (y ∷ ys) h =
    let k = and_true (bytes_eq x y) (same_list bytes_eq xs ys) h in
    let one : x ≡ y = bytes_are x y k.0 in
    let more : xs ≡ ys = texts_are xs ys k.1 in
    cc

pub all_cases : (es : List Envelope) → AllPass es → CasesGood es
all_cases es pass before e after cut = at e cut (pass before e after cut)
  where
    go : (c : TestCase) → es ≡ before ++ envelope.TestCase c ∷ after → (o : Option Pickle) → find_pickle c.pickle_id before ≡ o
        → option_map_or (λ p. same_texts (map (λ s. s.id) p.steps) (pickle_step_ids c)) o false ≡ true → CaseGood es (envelope.TestCase c)
    go c cut None is h = cc
    go c cut (Some p) is h =
        let in_all : find_pickle c.pickle_id es ≡ Some p = ap (find_pickle c.pickle_id) cut ∙ still_found as_pickle (λ x. bytes_eq c.pickle_id x.id) before (envelope.TestCase c ∷ after) p is in
        rw in_all (ap Some (texts_are (map (λ s. s.id) p.steps) (pickle_step_ids c) h))

    at : (e : Envelope) → es ≡ before ++ e ∷ after → LinePasses before e → CaseGood es e
    at (envelope.TestCase c) cut h = go c cut (find_pickle c.pickle_id before) refl (not-false _ (h.passes.1).0)
    at _ cut h = tt

-- ---- retries

pub all_retries : (es : List Envelope) → AllPass es → RetriesGood es
all_retries es pass before e after cut = at e (pass before e after cut)
  where
    at : (e : Envelope) → LinePasses before e → RetryGood before e
    at (envelope.TestCaseStarted s) h = not-false (list_all (λ x. is_retried x.id before) (starts_of s.test_case_id before)) ((((h.passes.1).1).1).1).0
    at _ h = tt

-- ---- numbers

numbers_are : (m n : ℕ) → not (m == n) ≡ false → m ≡ n
numbers_are m n h = grind (arith, nat_tests)

pub all_numbers : (settings : Settings) (es : List Envelope) → IsFaultless settings es → NumbersGood settings.first_attempt es
all_numbers settings es h before e after cut = at e (plain_pass settings es h before e after cut)
  where
    at : (e : Envelope) → Passes (plain_checks settings.first_attempt before e) → NumberGood settings.first_attempt before e
    at (envelope.TestCaseStarted s) h = numbers_are s.attempt (settings.first_attempt + length (starts_of s.test_case_id before)) ((((h.1).1).1).1).0
    at _ h = tt

-- ---- results

pub all_known : (es : List Envelope) → AllPass es → list_any has_unknown_result es ≡ false
all_known es pass = everywhere_none has_unknown_result es (λ before e after cut. at before e (pass before e after cut))
  where
    at : (before : List Envelope) (e : Envelope) → LinePasses before e → has_unknown_result e ≡ false
    at before (envelope.TestStepFinished s) h = ((h.passes.1).1).0
    at before (envelope.TestRunHookFinished f) h = ((h.passes.1).1).0
    at before _ h = refl

-- ---- success

flags_are : (a b : Bool) → not (same_flag a b) ≡ false → a ≡ b
flags_are true true h = refl
flags_are true false h = cc
flags_are false true h = cc
flags_are false false h = refl

pub success_said : (policy : Policy) (es : List Envelope) → AllPass es → SuccessPasses policy es → SuccessGood policy es
success_said policy es pass said before e after cut = at e cut (said before e after cut)
  where
    at : (e : Envelope) → es ≡ before ++ e ∷ after → Passes (success_check policy before e) → SuccessOf policy es e
    at (envelope.TestRunFinished f) cut h =
        let run : EndsRun es before f after = record { cut = cut; none = after_end es pass before f after cut } in
        success_is policy es f (flags_are f.success (all_well policy before && not f.has_exception) h.0 ∙ ap (λ b. b && not f.has_exception) (sym (same_well es before f after run policy)))
    at _ cut h = tt
