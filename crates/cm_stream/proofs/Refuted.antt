-- A good list has no fault: one lemma for each check.
use Rattle.std.proofs.Common.{◌≡◌, ℕ, ◌+◌, refl, sym, ap, ◌∙◌, List, [], ◌∷◌, ◌++◌, true, false, Bool, length, not, arith, append_assoc, ◌&&◌, ◌==◌}
use Rattle.std.specs.Prelude.{count_by, nat_lt}
use Rattle.std.specs.List.{list_any, list_all, flat_map, AllByRecursion}
use Rattle.std.specs.Str.{bytes_eq}
use Rattle.cm_stream.specs.Readings.{Reading, Accepted, Refused, OtherLanguage, TooLong}
use Rattle.cm_stream.specs.OnePass.{reads}
use Rattle.cm_stream.specs.Sources.{plain}
use Rattle.cm_stream.specs.References
use Rattle.cm_stream.specs.References.{Name, same_name, declares, declares_it, times_declared, refers, is_run_started, is_run_finished, is_judged, has_run_started, has_run_finished, starts_of}
use Rattle.cm_stream.specs.Good.{Sound, NumbersGood, MeetsSource, has_same_names, has_unknown_result, NothingAfter}
use Rattle.cm_stream.specs.Checks.{refers_to_unknown, declares_again, is_too_long, is_other_language}
use Rattle.cm_envelope.specs.declared.envelope.Envelope.{Envelope}
use Rattle.cm_envelope.specs.declared.envelope.Envelope.TheVariants as envelope
use Rattle.cm_envelope.specs.declared.envelope.Source.{Source}
use Rattle.cm_envelope.specs.declared.envelope.TestRunStarted.{TestRunStarted}
use Rattle.cm_envelope.specs.declared.envelope.TestCaseStarted.{TestCaseStarted}
use Rattle.cm_envelope.specs.declared.envelope.TestRunHookStarted.{TestRunHookStarted}
use Rattle.cm_stream.proofs.Readings.{source_meets}
use Rattle.cm_stream.proofs.Lists.{or_false, any_front, any_back, any_here, count_none, none_counted, count_cut}

-- ---- UnknownReference

none_unknown : (before : List Envelope) (names : List Name) → AllByRecursion (λ name. times_declared name before ≡ 1) names → list_any (λ name. times_declared name before == 0) names ≡ false
none_unknown before [] h = refl
none_unknown before (n ∷ ns) h = rw (h.0, none_unknown before ns h.1) refl

pub no_unknown_reference : (es before : List Envelope) (e : Envelope) (after : List Envelope) → Sound es → es ≡ before ++ e ∷ after → refers_to_unknown before e ≡ false
no_unknown_reference es before e after good cut = none_unknown before (refers before e) (good.references before e after cut)

-- ---- DuplicateId and DuplicateUri

pub names_after : (ns ms : List Name) → has_same_names (ns ++ ms) ≡ false → has_same_names ms ≡ false
names_after [] ms h = h
names_after (n ∷ ns) ms h = names_after ns ms (or_false _ _ h).1

names_before : (ns ms : List Name) → has_same_names (ns ++ ms) ≡ false → has_same_names ns ≡ false
names_before [] ms h = refl
names_before (n ∷ ns) ms h =
    let k = or_false _ _ h in
    rw (any_front (λ later. same_name later n) ns ms k.0, names_before ns ms k.1) refl

-- a later name is none of the names before
later_is_new : (ns : List Name) (m : Name) (ms more : List Name) → has_same_names (ns ++ (ms ++ m ∷ more)) ≡ false → list_any (same_name m) ns ≡ false
later_is_new [] m ms more h = refl
later_is_new (n ∷ ns) m ms more h =
    let k = or_false _ _ h in
    let here : same_name m n ≡ false = any_here (λ later. same_name later n) ms m more (any_back (λ later. same_name later n) ns (ms ++ m ∷ more) k.0) in
    rw (here, later_is_new ns m ms more k.1) refl

-- what is none of the declared names is declared nowhere
not_declared : (name : Name) (es : List Envelope) → list_any (same_name name) (flat_map declares es) ≡ false → list_any (declares_it name) es ≡ false
not_declared name [] h = refl
not_declared name (e ∷ es) h =
    let front = any_front (same_name name) (declares e) (flat_map declares es) h in
    let back = any_back (same_name name) (declares e) (flat_map declares es) h in
    rw (front, not_declared name es back) refl

pub declared_append : (xs ys : List Envelope) → flat_map declares (xs ++ ys) ≡ flat_map declares xs ++ flat_map declares ys
declared_append [] ys = refl
declared_append (x ∷ xs) ys = ap (λ ns. declares x ++ ns) (declared_append xs ys) ∙ sym (append_assoc (declares x) (flat_map declares xs) (flat_map declares ys))

-- none of these names, which come after ms, is declared before
none_again : (before : List Envelope) (ms ns more : List Name) → has_same_names (flat_map declares before ++ (ms ++ (ns ++ more))) ≡ false
    → list_any (λ name. nat_lt 0 (times_declared name before)) ns ≡ false
none_again before ms [] more h = refl
none_again before ms (n ∷ ns) more h =
    let new = none_counted (declares_it n) before (not_declared n before (later_is_new (flat_map declares before) n ms (ns ++ more) h)) in
    let rest : has_same_names (flat_map declares before ++ ((ms ++ n ∷ []) ++ (ns ++ more))) ≡ false = rw (append_assoc ms (n ∷ []) (ns ++ more)) h in
    rw (new, none_again before (ms ++ n ∷ []) ns more rest) refl

pub no_repeat : (es before : List Envelope) (e : Envelope) (after : List Envelope) → Sound es → es ≡ before ++ e ∷ after → declares_again before e ≡ false
no_repeat es before e after good cut =
    let parts : flat_map declares es ≡ flat_map declares before ++ (declares e ++ flat_map declares after) = ap (flat_map declares) cut ∙ declared_append before (e ∷ after) in
    let distinct : has_same_names (flat_map declares before ++ (declares e ++ flat_map declares after)) ≡ false = ap has_same_names (sym parts) ∙ good.distinct in
    let own : has_same_names (declares e) ≡ false = names_before (declares e) (flat_map declares after) (names_after (flat_map declares before) (declares e ++ flat_map declares after) distinct) in
    rw (own, none_again before [] (declares e) (flat_map declares after) distinct) refl

-- ---- SecondRunStarted

pub no_second_run : (es before : List Envelope) (r : TestRunStarted) (after : List Envelope) → Sound es → es ≡ before ++ envelope.TestRunStarted r ∷ after → has_run_started before ≡ false
no_second_run es before r after good cut =
    let many = count_cut is_run_started before (envelope.TestRunStarted r) after refl in
    let one : count_by is_run_started (before ++ envelope.TestRunStarted r ∷ after) ≡ 1 = ap (count_by is_run_started) (sym cut) ∙ good.order.one_start in
    count_none is_run_started before (omega (arith, many, one))

-- ---- OutsideRun, of an attempt and of a run hook

pub run_started : (es before : List Envelope) (s : TestCaseStarted) (after : List Envelope) → Sound es → es ≡ before ++ envelope.TestCaseStarted s ∷ after → not (has_run_started before) ≡ false
run_started es before s after good cut = ap not (good.order.starts_inside before (envelope.TestCaseStarted s) after cut)

pub hook_inside : (es before : List Envelope) (s : TestRunHookStarted) (after : List Envelope) → Sound es → es ≡ before ++ envelope.TestRunHookStarted s ∷ after → not (has_run_started before) ≡ false
hook_inside es before s after good cut = ap not (good.order.starts_inside before (envelope.TestRunHookStarted s) after cut)

-- ---- AttemptNumber and AttemptOverlap

same_number : (m n : ℕ) → m ≡ n → not (m == n) ≡ false
same_number m n h = grind (arith, h)

pub number_is_next : (first : ℕ) (es before : List Envelope) (s : TestCaseStarted) (after : List Envelope) → NumbersGood first es → es ≡ before ++ envelope.TestCaseStarted s ∷ after
    → not (s.attempt == first + length (starts_of s.test_case_id before)) ≡ false
number_is_next first es before s after numbers cut = same_number s.attempt (first + length (starts_of s.test_case_id before)) (numbers before (envelope.TestCaseStarted s) after cut)

pub no_overlap : (es before : List Envelope) (s : TestCaseStarted) (after : List Envelope) → Sound es → es ≡ before ++ envelope.TestCaseStarted s ∷ after
    → not (list_all (λ x. References.is_retried x.id before) (starts_of s.test_case_id before)) ≡ false
no_overlap es before s after good cut = ap not (good.retries before (envelope.TestCaseStarted s) after cut)

-- ---- UnknownStatus

pub status_known : (es before : List Envelope) (e : Envelope) (after : List Envelope) → Sound es → es ≡ before ++ e ∷ after → has_unknown_result e ≡ false
status_known es before e after good cut = any_here has_unknown_result before e after (ap (list_any has_unknown_result) (sym cut) ∙ good.known)

-- ---- AfterRunFinished

-- where a test passes, the list is cut at such an element
pub record CutAt {X : Type 0} (p : X → Bool) (xs : List X) : Type 0 where
  pub front : List X
  pub here : X
  pub back : List X
  pub cut : xs ≡ front ++ here ∷ back
  pub passes : p here ≡ true

pub cut_at : {X : Type 0} (p : X → Bool) (xs : List X) → list_any p xs ≡ true → CutAt p xs
cut_at p [] h = cc
cut_at {X} p (x ∷ xs) h = go (p x) refl (cut_at p xs)
  where
    go : (b : Bool) → p x ≡ b → (list_any p xs ≡ true → CutAt p xs) → CutAt p (x ∷ xs)
    go true e rec = record { front = []; here = x; back = xs; cut = refl; passes = e }
    go false e rec =
        let rest : list_any p (x ∷ xs) ≡ list_any p xs = rw e refl in
        let c = rec (sym rest ∙ h) in
        record { front = x ∷ c.front; here = c.here; back = c.back; cut = ap (λ ys. x ∷ ys) c.cut; passes = c.passes }

nothing_after : (e : Envelope) (after : List Envelope) → is_run_finished e ≡ true → NothingAfter e after → list_any is_judged after ≡ false
nothing_after (envelope.TestRunFinished f) after is h = h
nothing_after _ after is h = cc

pub not_after : (es before : List Envelope) (e : Envelope) (after : List Envelope) → Sound es → es ≡ before ++ e ∷ after → (is_judged e && has_run_finished before) ≡ false
not_after es before e after good cut = go (is_judged e) refl (has_run_finished before) refl
  where
    go : (j : Bool) → is_judged e ≡ j → (b : Bool) → has_run_finished before ≡ b → (is_judged e && has_run_finished before) ≡ false
    go false ej b eb = rw ej refl
    go true ej false eb = rw (ej, eb) refl
    go true ej true eb =
        let c = cut_at is_run_finished before eb in
        let whole_cut : es ≡ c.front ++ c.here ∷ (c.back ++ e ∷ after) = cut ∙ ap (λ xs. xs ++ e ∷ after) c.cut ∙ append_assoc c.front (c.here ∷ c.back) (e ∷ after) in
        let none = nothing_after c.here (c.back ++ e ∷ after) c.passes (good.order.finish_last c.front c.here (c.back ++ e ∷ after) whole_cut) in
        let no : is_judged e ≡ false = any_here is_judged c.back e after none in
        cc

-- ---- NoRunFinished

pub run_finished : (es : List Envelope) → Sound es → has_run_finished es ≡ true
run_finished es good = go (has_run_finished es) refl
  where
    go : (b : Bool) → has_run_finished es ≡ b → has_run_finished es ≡ true
    go true e = e
    go false e = let zero_times = none_counted is_run_finished es e in absurd (omega (arith, zero_times, good.order.one_finish))

-- ---- MediaType, SourceTooLong and Language

pub media_plain : (es before : List Envelope) (s : Source) (after : List Envelope) → Sound es → es ≡ before ++ envelope.Source s ∷ after → not (bytes_eq s.media_type plain) ≡ false
media_plain es before s after good cut = ap not (good.sources before (envelope.Source s) after cut).is_plain

judged_reading : (es before : List Envelope) (s : Source) (after : List Envelope) (r : Reading) → MeetsSource es before s after r → (is_too_long r ≡ false) × (is_other_language r ≡ false)
judged_reading es before s after (Accepted d) h = (refl, refl)
judged_reading es before s after Refused h = (refl, refl)
judged_reading es before s after OtherLanguage h = absurd h
judged_reading es before s after TooLong h = absurd h

pub is_supported : (es before : List Envelope) (s : Source) (after : List Envelope) → Sound es → es ≡ before ++ envelope.Source s ∷ after → (is_too_long (reads s.content) ≡ false) × (is_other_language (reads s.content) ≡ false)
is_supported es before s after good cut = judged_reading es before s after (reads s.content) (source_meets es before s after (good.sources before (envelope.Source s) after cut))
