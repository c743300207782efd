-- Which good runs are released, and what a released run says of its scenarios and of the run.
use Rattle.std.proofs.Common.{◌≡◌, ℕ, suc, inl, inr, refl, sym, ap, subst, ◌∙◌, List, [], ◌∷◌, ◌++◌, Option, Some, None, true, false, Bool, not, ◌&&◌, ◌==◌, map, length, arith}
use Rattle.std.specs.Prelude.{◌≢◌, find, count_by, if◌then◌else◌}
use Rattle.std.specs.List.{AllByRecursion, filter}
use Rattle.std.specs.Option.{option_map, option_map_or}
use Rattle.std.specs.Str.{bytes_eq}
use Rattle.std.proofs.lemmas.Bool.{true≢false}
use Rattle.std.proofs.lemmas.Bool.Decides.{nat_tests}
use Rattle.cm_attempt.specs.Table.{is_good_status}
use Rattle.cm_attempt.specs.Worst.{worst_of}
use Rattle.cm_attempt.specs.declared.status.Policy.{Policy}
use Rattle.cm_attempt.specs.declared.status.Settings.{Settings}
use Rattle.cm_stream.specs.Readings.{Accepted}
use Rattle.cm_stream.specs.References.{as_source, as_pickle, as_case, as_start, as_run_hook, as_run_end, sources, pickles, cases, starts, run_hook_ends, run_ends, starts_of, documents_of, find_pickle, find_case, pickle_step_ids, steps_of, moves, is_final, statuses, ends_well, is_good_case, is_run_finished, says_success, run_succeeded}
use Rattle.cm_stream.specs.Statuses.{kept_status}
use Rattle.cm_stream.specs.ByOnePass.{first_fault}
use Rattle.cm_attempt.specs.Calls.{all_moves, last_of}
use Rattle.cm_attempt.proofs.Growing.{all_weaker}
use Rattle.cm_stream.specs.Good.{Good, SuccessGood, AllWell, IsAccepted, MeetsSource}
use Rattle.cm_stream.specs.Stream.{IsGoodRun, GoodWith, NoFault, answer_for}
use Rattle.cm_stream.specs.Release.{Conditions, NoneIs, hold_if, hold_of, release_counts_of, is_named, is_missed, may_stay_unrun, is_retried_pickle, has_skip, is_stepless, passes_unmatched}
use Rattle.cm_stream.specs.Release.{IsReleasedStream, ReleasedIsNotHeld, ReleasedExactly, FirstFaultReleases, Releases}
use Rattle.cm_stream.specs.ReleasedRuns.{IsCompiled, CaseRan, PickleRan, RanOrMayNot, HookRan, RunEnded, EachSourceIsCompiled, EachCaseRan, EachHookRan, ReleasedRan, EachRan, NamedRan}
use Rattle.cm_stream.specs.declared.laws.Hold.{Hold}
use Rattle.cm_stream.specs.declared.laws.ReleaseCounts.{ReleaseCounts}
use Rattle.cm_stream.specs.declared.laws.Hold.TheVariants as hold
use Rattle.cm_stream.specs.declared.laws.Hold.TheVariants.{NotSuccessful, Empty, Unrun, Retried, Stepless}
use Rattle.cm_envelope.specs.declared.envelope.Envelope.{Envelope}
use Rattle.cm_envelope.specs.declared.envelope.Envelope.TheVariants as envelope
use Rattle.cm_envelope.specs.declared.envelope.Source.{Source}
use Rattle.cm_envelope.specs.declared.envelope.TestCase.{TestCase}
use Rattle.cm_envelope.specs.declared.envelope.TestCaseStarted.{TestCaseStarted}
use Rattle.cm_envelope.specs.declared.envelope.TestRunFinished.{TestRunFinished}
use Rattle.cm_envelope.specs.declared.envelope.TestRunHookStarted.{TestRunHookStarted}
use Rattle.cm_envelope.specs.declared.envelope.TestRunHookFinished.{TestRunHookFinished}
use Rattle.cm_envelope.specs.declared.pickle.Pickle.{Pickle}
use Rattle.cm_stream.specs.declared.laws.Counts.{Counts}
use Rattle.cm_stream.proofs.Lists.{and_true, all_here, none_any, each_false, count_none, none_counted, one_kept, found_cut, found_alone, any_found}
use Rattle.cm_stream.proofs.Found.{bytes_are, bytes_same, found_at, each_found}
use Rattle.cm_stream.proofs.Declared.{source_is, case_is, start_is, run_hook_is}
use Rattle.cm_stream.proofs.OnePass.{reads_it}
use Rattle.cm_stream.proofs.Readings.{source_meets}
use Rattle.cm_stream.proofs.Refuted.{cut_at}
use Rattle.cm_stream.proofs.Documents.{documents_both}
use Rattle.cm_stream.proofs.Passing.{AllPass, plain_passes}
use Rattle.cm_stream.proofs.OneRow.{OnlyOne, one_pickle, only_here, one_case}
use Rattle.cm_stream.proofs.NoFault.{good_have_no_fault}
use Rattle.cm_stream.proofs.Streams.{read_is_told, run_if_told}
use Rattle.cm_stream.proofs.ByGrammar.{reported}

pub each_mapped : {X Y : Type 0} (P : Y → Type 0) (f : X → Y) (xs : List X) → AllByRecursion P (map f xs) → AllByRecursion (λ x. P (f x)) xs
each_mapped P f [] h = tt
each_mapped P f (x ∷ xs) h = (h.0, each_mapped P f xs h.1)

was_some : {X Y : Type 0} (f : X → Y) (o : Option X) (y : Y) → option_map f o ≡ Some y → (x : X) × (o ≡ Some x)
was_some f None y h = cc
was_some f (Some x) y h = (x, refl)

-- ---- which runs are released

none_of : {X : Type 0} (q : X → Bool) (xs : List X) → count_by q xs ≡ 0 → NoneIs q xs
none_of q xs none = each_false q xs (count_none q xs none)

none_there : {X : Type 0} (q : X → Bool) (xs : List X) → NoneIs q xs → count_by q xs ≡ 0
none_there q xs h = none_counted q xs (none_any q xs h)

is_zero : (n : ℕ) → (n == 0) ≡ true → n ≡ 0
is_zero n h = grind (arith, nat_tests)

zero_is : (n : ℕ) → n ≡ 0 → (n == 0) ≡ true
zero_is n h = grind (arith, nat_tests)

pub some_there : {X : Type 0} (xs : List X) → (length xs == 0) ≡ false → xs ≢ []
some_there [] h = cc
some_there (x ∷ xs) h = λ e. cc

none_empty : {X : Type 0} (xs : List X) → xs ≢ [] → (length xs == 0) ≡ false
none_empty [] h = absurd (h refl)
none_empty (x ∷ xs) h = more (length xs)
  where
    more : (n : ℕ) → (suc n == 0) ≡ false
    more n = grind (arith, nat_tests)

-- a test that is made where it is asked for
test_passed : (is_asked is_none : Bool) (h : Hold) (others : Option Hold) → (if is_asked && not is_none then Some h else others) ≡ None
    → (is_asked ≡ true → is_none ≡ true) × (others ≡ None)
test_passed true true h others e = (λ k. refl, e)
test_passed true false h others e = cc
test_passed false is_none h others e = (λ k. cc, e)

passes_test : (is_asked is_none : Bool) (h : Hold) (others : Option Hold) → (is_asked ≡ true → is_none ≡ true) → others ≡ None
    → (if is_asked && not is_none then Some h else others) ≡ None
passes_test true true h others f e = e
passes_test true false h others f e = let no_way = f refl in cc
passes_test false is_none h others f e = e

-- the tests of a run, and what each says
abbrev Tests : Conditions → ReleaseCounts → Option Hold
Tests asked found =
    hold_if true found.missed Unrun
    (hold_if asked.no_retries found.retried Retried
    (hold_if asked.no_skips found.skipped hold.Skipped
    (hold_if asked.no_stepless found.stepless Stepless
    (hold_if asked.no_undefined found.undefined hold.Undefined None))))

abbrev held : (success is_part is_empty : Bool) → Option Hold → Option Hold
held success is_part is_empty others = if not success then Some NotSuccessful else (if not is_part && is_empty then Some Empty else others)

not_held : (success is_part is_empty : Bool) (others : Option Hold) → held success is_part is_empty others ≡ None → (success ≡ true) × (is_part ≡ false → is_empty ≡ false) × (others ≡ None)
not_held false is_part is_empty others e = cc
not_held true true is_empty others e = (refl, λ k. cc, e)
not_held true false true others e = cc
not_held true false false others e = (refl, λ k. refl, e)

is_not_held : (success is_part is_empty : Bool) (others : Option Hold) → success ≡ true → (is_part ≡ false → is_empty ≡ false) → others ≡ None → held success is_part is_empty others ≡ None
is_not_held success true is_empty others s e o = rw s o
is_not_held success false is_empty others s e o = rw (s, e refl) o

record Passed (asked : Conditions) (found : ReleaseCounts) : Type 0 where
  missed : found.missed ≡ 0
  retried : asked.no_retries ≡ true → found.retried ≡ 0
  skipped : asked.no_skips ≡ true → found.skipped ≡ 0
  stepless : asked.no_stepless ≡ true → found.stepless ≡ 0
  undefined : asked.no_undefined ≡ true → found.undefined ≡ 0

all_passed : (asked : Conditions) (found : ReleaseCounts) → Tests asked found ≡ None → Passed asked found
all_passed asked found e =
    let missed = test_passed true (found.missed == 0) Unrun _ e in
    let retried = test_passed asked.no_retries (found.retried == 0) Retried _ missed.1 in
    let skipped = test_passed asked.no_skips (found.skipped == 0) hold.Skipped _ retried.1 in
    let stepless = test_passed asked.no_stepless (found.stepless == 0) Stepless _ skipped.1 in
    let undefined = test_passed asked.no_undefined (found.undefined == 0) hold.Undefined None stepless.1 in
    record {
      missed = is_zero found.missed (missed.0 refl);
      retried = λ k. is_zero found.retried (retried.0 k);
      skipped = λ k. is_zero found.skipped (skipped.0 k);
      stepless = λ k. is_zero found.stepless (stepless.0 k);
      undefined = λ k. is_zero found.undefined (undefined.0 k);
    }

passes_all : (asked : Conditions) (found : ReleaseCounts) → Passed asked found → Tests asked found ≡ None
passes_all asked found p =
    let undefined = passes_test asked.no_undefined (found.undefined == 0) hold.Undefined None (λ k. zero_is found.undefined (p.undefined k)) refl in
    let stepless = passes_test asked.no_stepless (found.stepless == 0) Stepless _ (λ k. zero_is found.stepless (p.stepless k)) undefined in
    let skipped = passes_test asked.no_skips (found.skipped == 0) hold.Skipped _ (λ k. zero_is found.skipped (p.skipped k)) stepless in
    let retried = passes_test asked.no_retries (found.retried == 0) Retried _ (λ k. zero_is found.retried (p.retried k)) skipped in
    passes_test true (found.missed == 0) Unrun _ (λ k. zero_is found.missed p.missed) retried

pub released_is_not_held : ReleasedIsNotHeld
released_is_not_held settings asked bytes counts found success run same = (released, not_so)
  where
    released : hold_of asked success counts found ≡ None → IsReleasedStream settings asked bytes counts found
    released h =
        let es = run.judged in
        let tests = not_held success asked.is_part (counts.cases == 0) (Tests asked found) h in
        let p = all_passed asked found tests.2 in
        record {
          judged = run.judged;
          read = run.read;
          good = run.good;
          exact = run.exact;
          found_exact = same;
          succeeded = sym run.said ∙ tests.0;
          some_case = λ whole. some_there (cases es) (ap (λ (n : Counts). n.cases == 0) (sym run.exact) ∙ tests.1 whole);
          none_missed = none_of (is_missed asked es) (pickles es) (ap (λ (n : ReleaseCounts). n.missed) (sym same) ∙ p.missed);
          none_retried = λ k. none_of (is_retried_pickle es) (pickles es) (ap (λ (n : ReleaseCounts). n.retried) (sym same) ∙ p.retried k);
          none_skipped = λ k. none_of (has_skip es) (cases es) (ap (λ (n : ReleaseCounts). n.skipped) (sym same) ∙ p.skipped k);
          none_stepless = λ k. none_of (is_stepless es) (cases es) (ap (λ (n : ReleaseCounts). n.stepless) (sym same) ∙ p.stepless k);
          none_undefined = λ k. none_of (passes_unmatched settings.policy es) es (ap (λ (n : ReleaseCounts). n.undefined) (sym same) ∙ p.undefined k);
        }

    not_so : IsReleasedStream settings asked bytes counts found → hold_of asked success counts found ≡ None
    not_so r =
        let es = r.judged in
        let here = read_is_told settings bytes run.judged run.read run.good in
        let there = read_is_told settings bytes r.judged r.read r.good in
        let same_lines : run.judged ≡ es = cc in
        is_not_held success asked.is_part (counts.cases == 0) (Tests asked found) (run.said ∙ ap run_succeeded same_lines ∙ r.succeeded)
        (λ whole. ap (λ (n : Counts). n.cases == 0) r.exact ∙ none_empty (cases es) (r.some_case whole))
        (passes_all asked found (record {
          missed = ap (λ (n : ReleaseCounts). n.missed) r.found_exact ∙ none_there (is_missed asked es) (pickles es) r.none_missed;
          retried = λ k. ap (λ (n : ReleaseCounts). n.retried) r.found_exact ∙ none_there (is_retried_pickle es) (pickles es) (r.none_retried k);
          skipped = λ k. ap (λ (n : ReleaseCounts). n.skipped) r.found_exact ∙ none_there (has_skip es) (cases es) (r.none_skipped k);
          stepless = λ k. ap (λ (n : ReleaseCounts). n.stepless) r.found_exact ∙ none_there (is_stepless es) (cases es) (r.none_stepless k);
          undefined = λ k. ap (λ (n : ReleaseCounts). n.undefined) r.found_exact ∙ none_there (passes_unmatched settings.policy es) es (r.none_undefined k);
        }))

pub released_exactly : ReleasedExactly
released_exactly settings asked bytes counts found = (unheld, λ h. (released_is_not_held settings asked bytes counts found h.0 h.1 h.2).0 h.3)
  where
    unheld : IsReleasedStream settings asked bytes counts found
        → (success : Bool) × (run : IsGoodRun settings bytes counts success) × (found ≡ release_counts_of asked settings.policy run.judged) × (hold_of asked success counts found ≡ None)
    unheld r =
        let run : IsGoodRun settings bytes counts true = record { judged = r.judged; read = r.read; good = r.good; exact = r.exact; said = sym r.succeeded } in
        (true, run, r.found_exact, (released_is_not_held settings asked bytes counts found true run r.found_exact).1 r)

pub first_fault_releases : FirstFaultReleases
first_fault_releases settings asked bytes counts found f first = (released, releases)
  where
    told : first_fault settings bytes ≡ f
    told = reported settings bytes f first

    released : Releases asked settings.policy counts found f → IsReleasedStream settings asked bytes counts found
    released h =
        let es = h.0 in
        let said : answer_for (first_fault settings bytes) ≡ GoodWith counts (run_succeeded es) = ap answer_for (told ∙ h.1) ∙ ap (λ (c : Counts). GoodWith c (run_succeeded es)) (sym h.2) in
        let run = run_if_told settings bytes counts (run_succeeded es) said in
        let here = read_is_told settings bytes run.judged run.read run.good in
        let of_run : NoFault es ≡ NoFault run.judged = sym h.1 ∙ sym told ∙ here in
        let same : es ≡ run.judged = cc in
        (released_is_not_held settings asked bytes counts found (run_succeeded es) run (h.3 ∙ ap (release_counts_of asked settings.policy) same)).0 h.4

    releases : IsReleasedStream settings asked bytes counts found → Releases asked settings.policy counts found f
    releases r =
        let es = r.judged in
        let run : IsGoodRun settings bytes counts true = record { judged = r.judged; read = r.read; good = r.good; exact = r.exact; said = sym r.succeeded } in
        let none = (released_is_not_held settings asked bytes counts found true run r.found_exact).1 r in
        (es, sym told ∙ read_is_told settings bytes r.judged r.read r.good, r.exact, r.found_exact, subst (λ (b : Bool). hold_of asked b counts found ≡ None) (sym r.succeeded) none)

-- ---- success

end_of : (e : Envelope) → says_success e ≡ true → (f : TestRunFinished) × (e ≡ envelope.TestRunFinished f) × (f.success ≡ true)
end_of (envelope.TestRunFinished f) h = (f, refl, h)
end_of _ h = cc

record Well (policy : Policy) (es : List Envelope) : Type 0 where
  front : List Envelope
  end : TestRunFinished
  back : List Envelope
  cut : es ≡ front ++ envelope.TestRunFinished end ∷ back
  success : end.success ≡ true
  all : AllWell policy es end

all_well : (policy : Policy) (es : List Envelope) → SuccessGood policy es → run_succeeded es ≡ true → Well policy es
all_well policy es good h =
    let at = cut_at says_success es h in
    let is = end_of at.here at.passes in
    let cut : es ≡ at.front ++ envelope.TestRunFinished is.0 ∷ at.back = at.cut ∙ ap (λ x. at.front ++ x ∷ at.back) is.1 in
    record { front = at.front; end = is.0; back = at.back; cut = cut; success = is.2; all = (good at.front (envelope.TestRunFinished is.0) at.back cut).0 is.2 }

not_end : (e : Envelope) → is_run_finished e ≡ false → as_run_end e ≡ None
not_end (envelope.TestRunFinished f) h = cc
not_end _ h = refl

-- ---- the last attempt of a case

pub kept_so : {X : Type 0} (P : X → Type 0) (q : X → Bool) (xs : List X) → AllByRecursion P xs → AllByRecursion (λ x. P x × (q x ≡ true)) (filter q xs)
kept_so P q [] h = tt
kept_so {X} P q (x ∷ xs) h = go (q x) refl (kept_so P q xs h.1)
  where
    go : (b : Bool) → q x ≡ b → AllByRecursion (λ y. P y × (q y ≡ true)) (filter q xs) → AllByRecursion (λ y. P y × (q y ≡ true)) (filter q (x ∷ xs))
    go true e rec = rw e ((h.0, e), rec)
    go false e rec = rw e rec

last_so : {X : Type 0} (P : X → Type 0) (xs : List X) (x : X) → AllByRecursion P xs → last_of xs ≡ Some x → P x
last_so P [] x h e = cc
last_so P (y ∷ []) x h e = let same : y ≡ x = cc in subst P same h.0
last_so P (y ∷ z ∷ more) x h e = last_so P (z ∷ more) x h.1 e

record EndsWell (policy : Policy) (es : List Envelope) (o : Option TestCaseStarted) : Type 0 where
  attempt : TestCaseStarted
  is : o ≡ Some attempt
  final : is_final attempt.id es ≡ true
  good : is_good_status policy (worst_of (statuses attempt.id es)) ≡ true

well_ended : (policy : Policy) (es : List Envelope) (o : Option TestCaseStarted) → option_map_or (λ s. ends_well policy es s.id) o false ≡ true → EndsWell policy es o
well_ended policy es None h = cc
well_ended policy es (Some s) h =
    let both = and_true (is_final s.id es) (is_good_status policy (worst_of (statuses s.id es))) h in
    record { attempt = s; is = refl; final = both.0; good = both.1 }

-- ---- a released run

module _ (settings : Settings) (es : List Envelope) (good : Good settings es) (well : Well settings.policy es) where
  compiled_at : (front back : List Envelope) (s : Source) → es ≡ front ++ envelope.Source s ∷ back → IsAccepted s → IsCompiled es s
  compiled_at front back s cut accepted =
      let met = source_meets es front s back (good.sound.sources front (envelope.Source s) back cut) in
      let its = subst (MeetsSource es front s back) (reads_it s.content (Accepted accepted.0) accepted.1) met in
      record {
        document = accepted.0;
        accepted = accepted.1;
        found = its.document;
        one_document = ap (documents_of s.uri) cut ∙ documents_both s.uri front (envelope.Source s ∷ back) ∙ ap (λ xs. xs ++ documents_of s.uri back) its.none_before ∙ its.one_after;
        same_skeleton = its.same_skeleton;
        same_pickles = its.same_pickles;
      }

  each_compiled : EachSourceIsCompiled es
  each_compiled = each_found as_source (IsCompiled es) es each
    where
      each : (front : List Envelope) (here : Envelope) (back : List Envelope) (s : Source) → es ≡ front ++ here ∷ back → as_source here ≡ Some s → IsCompiled es s
      each front here back s cut is =
          let all : sources es ≡ sources front ++ s ∷ sources back = ap sources cut ∙ found_cut as_source front here back s is in
          let accepted = all_here IsAccepted (sources front) s (sources back) (subst (AllByRecursion IsAccepted) all well.all.each_source) in
          compiled_at front back s (cut ∙ ap (λ x. front ++ x ∷ back) (source_is here s is)) accepted

  pass : AllPass es
  pass = plain_passes settings es (good_have_no_fault settings es good).lines

  pickle_there : (front : List Envelope) (here : Envelope) (back : List Envelope) (p : Pickle) → pickles es ≡ pickles front ++ p ∷ pickles back → find_pickle p.id es ≡ Some p
  pickle_there front here back p all =
      let q = λ (x : Pickle). bytes_eq p.id x.id in
      ap (find q) all ∙ only_here q (pickles front) p (pickles back) (subst (OnlyOne q) all (one_pickle es pass p.id)) (bytes_same p.id)

  case_there : (front back : List Envelope) (c : TestCase) → cases es ≡ cases front ++ c ∷ cases back → find_case c.id es ≡ Some c
  case_there front back c all =
      let q = λ (x : TestCase). bytes_eq c.id x.id in
      ap (find q) all ∙ only_here q (cases front) c (cases back) (subst (OnlyOne q) all (one_case es pass c.id)) (bytes_same c.id)

  each_whole : AllByRecursion (λ (s : TestCaseStarted). moves s.id es ≡ all_moves (steps_of s.test_case_id es)) (starts es)
  each_whole = each_found as_start (λ (s : TestCaseStarted). moves s.id es ≡ all_moves (steps_of s.test_case_id es)) es
      (λ front here back s cut is. good.sound.attempts front (envelope.TestCaseStarted s) back (cut ∙ ap (λ x. front ++ x ∷ back) (start_is here s is)))

  case_ran : (front back : List Envelope) (c : TestCase) (p : Pickle) → es ≡ front ++ envelope.TestCase c ∷ back → find_pickle c.pickle_id es ≡ Some p → CaseRan settings.policy es c p
  case_ran front back c p cut its =
      let all : cases es ≡ cases front ++ c ∷ cases back = ap cases cut ∙ found_cut as_case front (envelope.TestCase c) back c refl in
      let here : find_case c.id es ≡ Some c = case_there front back c all in
      let steps : Some (map (λ s. s.id) p.steps) ≡ Some (pickle_step_ids c) = ap (option_map (λ x. map (λ s. s.id) x.steps)) (sym its) ∙ good.sound.cases front (envelope.TestCase c) back cut in
      let same_steps : map (λ s. s.id) p.steps ≡ pickle_step_ids c = cc in
      let is_good = all_here (λ x. is_good_case settings.policy es x ≡ true) (cases front) c (cases back) (subst (AllByRecursion (λ x. is_good_case settings.policy es x ≡ true)) all well.all.each_case) in
      let e = well_ended settings.policy es (last_of (starts_of c.id es)) is_good in
      let one = last_so (λ (s : TestCaseStarted). (moves s.id es ≡ all_moves (steps_of s.test_case_id es)) × (bytes_eq c.id s.test_case_id ≡ true)) (starts_of c.id es) e.attempt
      (kept_so (λ (s : TestCaseStarted). moves s.id es ≡ all_moves (steps_of s.test_case_id es)) (λ s. bytes_eq c.id s.test_case_id) (starts es) each_whole) e.is in
      let case : c.id ≡ e.attempt.test_case_id = bytes_are c.id e.attempt.test_case_id one.1 in
      let own : steps_of c.id es ≡ map (λ s. s.id) c.test_steps = ap (λ o. option_map_or (λ (x : TestCase). map (λ s. s.id) x.test_steps) o []) here in
      record {
        is_there = here;
        of_pickle = its;
        same_steps = sym same_steps;
        attempt = e.attempt;
        is_last = e.is;
        each_step = one.0 ∙ ap (λ u. all_moves (steps_of u es)) (sym case) ∙ ap all_moves own;
        not_retried = e.final;
        good_status = e.good;
      }

  each_case_ran : EachCaseRan settings.policy es
  each_case_ran = each_found as_case (λ c. (p : Pickle) × CaseRan settings.policy es c p) es each
    where
      each : (front : List Envelope) (here : Envelope) (back : List Envelope) (c : TestCase) → es ≡ front ++ here ∷ back → as_case here ≡ Some c → (p : Pickle) × CaseRan settings.policy es c p
      each front here back c cut is =
          let its_cut : es ≡ front ++ envelope.TestCase c ∷ back = cut ∙ ap (λ x. front ++ x ∷ back) (case_is here c is) in
          let its = was_some (λ (p : Pickle). map (λ s. s.id) p.steps) (find_pickle c.pickle_id es) (pickle_step_ids c) (good.sound.cases front (envelope.TestCase c) back its_cut) in
          (its.0, case_ran front back c its.0 its_cut its.1)

  ran : (p : Pickle) → find_pickle p.id es ≡ Some p → is_named es p ≡ true → PickleRan settings.policy es p
  ran p there named =
      let at = found_at as_case (λ c. bytes_eq p.id c.pickle_id) es (sym (any_found as_case (λ c. bytes_eq p.id c.pickle_id) es) ∙ named) in
      let c = at.value in
      let cut : es ≡ at.front ++ envelope.TestCase c ∷ at.back = at.cut ∙ ap (λ x. at.front ++ x ∷ at.back) (case_is at.here c at.is) in
      (c, case_ran at.front at.back c p cut (ap (λ u. find_pickle u es) (sym (bytes_are p.id c.pickle_id at.passes)) ∙ there))

  each_named_ran : AllByRecursion (λ p. is_named es p ≡ true → PickleRan settings.policy es p) (pickles es)
  each_named_ran = each_found as_pickle (λ p. is_named es p ≡ true → PickleRan settings.policy es p) es
      (λ front here back p cut is. ran p (pickle_there front here back p (ap pickles cut ∙ found_cut as_pickle front here back p is)))

  each_ran : (asked : Conditions) → asked.is_part ≡ false → NoneIs (is_missed asked es) (pickles es) → AllByRecursion (RanOrMayNot asked settings.policy es) (pickles es)
  each_ran asked whole none = each_found as_pickle (RanOrMayNot asked settings.policy es) es each
    where
      either : (p : Pickle) → find_pickle p.id es ≡ Some p → (is_part n m : Bool) → is_part ≡ false → is_named es p ≡ n → may_stay_unrun asked p ≡ m → (not is_part && not n && not m) ≡ false → RanOrMayNot asked settings.policy es p
      either p there true n m part named may e = cc
      either p there false true m part named may e = inl (ran p there named)
      either p there false false true part named may e = inr may
      either p there false false false part named may e = cc

      each : (front : List Envelope) (here : Envelope) (back : List Envelope) (p : Pickle) → es ≡ front ++ here ∷ back → as_pickle here ≡ Some p → RanOrMayNot asked settings.policy es p
      each front here back p cut is =
          let all : pickles es ≡ pickles front ++ p ∷ pickles back = ap pickles cut ∙ found_cut as_pickle front here back p is in
          either p (pickle_there front here back p all) asked.is_part (is_named es p) (may_stay_unrun asked p) whole refl refl
          (all_here (λ x. is_missed asked es x ≡ false) (pickles front) p (pickles back) (subst (NoneIs (is_missed asked es)) all none))

  hook_ran : (front back : List Envelope) (h : TestRunHookStarted) → es ≡ front ++ envelope.TestRunHookStarted h ∷ back → HookRan settings.policy es h
  hook_ran front back h cut =
      let q = λ (f : TestRunHookFinished). bytes_eq h.id f.test_run_hook_started_id in
      let is_good = λ (f : TestRunHookFinished). is_good_status settings.policy (kept_status f.result.status) in
      let one = one_kept q (run_hook_ends es) (good.sound.hooks front (envelope.TestRunHookStarted h) back cut) in
      let each : AllByRecursion (λ f. is_good f ≡ true) (run_hook_ends es) = each_mapped (λ s. is_good_status settings.policy s ≡ true) (λ (f : TestRunHookFinished). kept_status f.result.status) (run_hook_ends es) well.all.each_hook in
      let its = subst (AllByRecursion (λ f. (is_good f ≡ true) × (q f ≡ true))) one.1 (kept_so (λ f. is_good f ≡ true) q (run_hook_ends es) each) in
      record { end = one.0; one_end = one.1; good_status = (its.0).0 }

  each_hook_ran : EachHookRan settings.policy es
  each_hook_ran = each_found as_run_hook (HookRan settings.policy es) es
      (λ front here back h cut is. hook_ran front back h (cut ∙ ap (λ x. front ++ x ∷ back) (run_hook_is here h is)))

  run_ended : RunEnded es
  run_ended =
      let end = envelope.TestRunFinished well.end in
      let once : count_by is_run_finished (well.front ++ end ∷ well.back) ≡ 1 = ap (count_by is_run_finished) (sym well.cut) ∙ good.sound.order.one_finish in
      record {
        end = well.end;
        one_end = ap run_ends well.cut ∙ found_alone as_run_end is_run_finished not_end well.front end well.back well.end refl refl once;
        success = well.success;
        no_exception = well.all.no_exception;
      }

pub released_ran : ReleasedRan
released_ran settings asked bytes counts found r =
    let es = r.judged in
    let well = all_well settings.policy es r.good.success r.succeeded in (
      record {
        each_source = each_compiled settings es r.good well;
        each_case = each_case_ran settings es r.good well;
        each_hook = each_hook_ran settings es r.good well;
        run_end = run_ended settings es r.good well;
      },
      λ whole. each_ran settings es r.good well asked whole r.none_missed,
    )

pub named_ran : NamedRan
named_ran settings asked bytes counts found r = each_named_ran settings r.judged r.good (all_well settings.policy r.judged r.good.success r.succeeded)

may_not_stay : (asked : Conditions) (p : Pickle) → asked.allows_unrun ≡ false → asked.allowed_tags ≡ [] → may_stay_unrun asked p ≡ true → ⊥
may_not_stay asked p none no_tags may =
    let no : may_stay_unrun asked p ≡ false = rw (none, no_tags) refl in
    absurd (true≢false (sym may ∙ no))

pub each_ran_where_none_may_stay : EachRan
each_ran_where_none_may_stay settings asked bytes counts found r whole none no_tags =
    all_weaker (RanOrMayNot asked settings.policy r.judged) (PickleRan settings.policy r.judged) one (pickles r.judged) ((released_ran settings asked bytes counts found r).1 whole)
  where
    one : (p : Pickle) → RanOrMayNot asked settings.policy r.judged p → PickleRan settings.policy r.judged p
    one p (inl h) = h
    one p (inr h) = absurd (may_not_stay asked p none no_tags h)
