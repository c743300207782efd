-- Each run hook is finished once: in a good list, and after lines that pass their checks.
use Rattle.std.proofs.Common.{◌≡◌, ◌≤◌, ℕ, zero, suc, ◌+◌, refl, sym, ap, subst, ◌∙◌, List, [], ◌∷◌, ◌++◌, Some, None, true, false, not, append_assoc, arith}
use Rattle.std.proofs.lemmas.Bool.{not-false}
use Rattle.std.specs.Prelude.{count_by}
use Rattle.std.specs.List.{list_any, list_all, AllByRecursion}
use Rattle.std.specs.Str.{bytes_eq}
use Rattle.cm_stream.specs.Texts.{Utf8}
use Rattle.cm_stream.specs.References.{RunHook, as_run_hook, as_run_hook_end, run_hooks, run_hook_ends, times_finished, is_hook_finished}
use Rattle.cm_stream.specs.Good.{Sound, HookGood, HooksGood}
use Rattle.cm_envelope.specs.declared.envelope.Envelope.{Envelope}
use Rattle.cm_envelope.specs.declared.envelope.Envelope.TheVariants as envelope
use Rattle.cm_envelope.specs.declared.envelope.TestRunFinished.{TestRunFinished}
use Rattle.cm_envelope.specs.declared.envelope.TestRunHookStarted.{TestRunHookStarted}
use Rattle.cm_envelope.specs.declared.envelope.TestRunHookFinished.{TestRunHookFinished}
use Rattle.cm_stream.proofs.Lists.{all_here, all_true, each_true, none_counted, count_none, count_cut, count_past, found_cut, found_more, found_push}
use Rattle.cm_stream.proofs.Found.{bytes_are, bytes_same, each_found, by_id}
use Rattle.cm_stream.proofs.Declared.{declarer, declares_run_hook, is_any, run_hook_is}
use Rattle.cm_stream.proofs.Ends.{EndsRun, till_end}
use Rattle.cm_stream.proofs.Passing.{AllPass, by_lines, last_passes}
use Rattle.cm_stream.proofs.Order.{TheEnd}

-- how many of the ends are of the run hook
abbrev many : Utf8 → List TestRunHookFinished → ℕ
many hook fs = count_by (λ f. bytes_eq hook f.test_run_hook_started_id) fs

-- one of the ends is of the run hook
abbrev some : Utf8 → List TestRunHookFinished → Type 0
some hook fs = list_any (λ f. bytes_eq hook f.test_run_hook_started_id) fs ≡ true

cut_many : (hook : Utf8) (xs : List TestRunHookFinished) (f : TestRunHookFinished) (ys : List TestRunHookFinished) → bytes_eq hook f.test_run_hook_started_id ≡ true → many hook (xs ++ f ∷ ys) ≡ many hook xs + 1 + many hook ys
cut_many hook xs f ys here = count_cut (λ (x : TestRunHookFinished). bytes_eq hook x.test_run_hook_started_id) xs f ys here

past_many : (hook : Utf8) (xs : List TestRunHookFinished) (f : TestRunHookFinished) (ys : List TestRunHookFinished) → bytes_eq hook f.test_run_hook_started_id ≡ false → many hook (xs ++ f ∷ ys) ≡ many hook xs + many hook ys
past_many hook xs f ys here = count_past (λ (x : TestRunHookFinished). bytes_eq hook x.test_run_hook_started_id) xs f ys here

none_many : (hook : Utf8) → many hook [] ≡ 0
none_many hook = none_counted (λ (x : TestRunHookFinished). bytes_eq hook x.test_run_hook_started_id) [] refl

-- ---- a good list

-- RunHookTwice
pub not_finished_yet : (es before : List Envelope) (f : TestRunHookFinished) (after : List Envelope) → Sound es → es ≡ before ++ envelope.TestRunHookFinished f ∷ after
    → is_hook_finished f.test_run_hook_started_id before ≡ false
not_finished_yet es before f after good cut =
    let hook = f.test_run_hook_started_id in
    let e = envelope.TestRunHookFinished f in
    let at = declarer (RunHook hook) as_run_hook (λ x. bytes_eq hook x.id) (declares_run_hook hook) before (good.references before e after cut).0 in
    let same : hook ≡ at.value.id = bytes_are hook at.value.id at.passes in
    let its_cut : es ≡ at.front ++ envelope.TestRunHookStarted at.value ∷ (at.back ++ e ∷ after) =
    cut ∙ ap (λ xs. xs ++ e ∷ after) at.cut ∙ append_assoc at.front (at.here ∷ at.back) (e ∷ after) ∙ ap (λ x. at.front ++ x ∷ (at.back ++ e ∷ after)) (run_hook_is at.here at.value at.is) in
    let once : times_finished hook es ≡ 1 = ap (λ u. times_finished u es) same ∙ good.hooks at.front (envelope.TestRunHookStarted at.value) (at.back ++ e ∷ after) its_cut in
    let parts : run_hook_ends es ≡ run_hook_ends before ++ f ∷ run_hook_ends after = ap run_hook_ends cut ∙ found_cut as_run_hook_end before e after f refl in
    let all : many hook (run_hook_ends before ++ f ∷ run_hook_ends after) ≡ 1 = ap (many hook) (sym parts) ∙ once in
    let here = cut_many hook (run_hook_ends before) f (run_hook_ends after) (bytes_same hook) in
    count_none (λ (x : TestRunHookFinished). bytes_eq hook x.test_run_hook_started_id) (run_hook_ends before) (omega (arith, here, all))

-- RunHookOpen
pub none_hook_open : (es before : List Envelope) (f : TestRunFinished) (after : List Envelope) → EndsRun es before f after → Sound es
    → not (list_all (λ s. is_hook_finished s.id before) (run_hooks before)) ≡ false
none_hook_open es before f after run good =
    ap not (all_true (λ s. is_hook_finished s.id before) (run_hooks before) (each_found as_run_hook (λ (s : TestRunHookStarted). is_hook_finished s.id before ≡ true) before each))
  where
    each : (front : List Envelope) (here : Envelope) (back : List Envelope) (s : TestRunHookStarted) → before ≡ front ++ here ∷ back → as_run_hook here ≡ Some s → is_hook_finished s.id before ≡ true
    each front here back s cut is =
        let end = envelope.TestRunFinished f in
        let its_cut : es ≡ front ++ envelope.TestRunHookStarted s ∷ (back ++ end ∷ after) =
        run.cut ∙ ap (λ xs. xs ++ end ∷ after) cut ∙ append_assoc front (here ∷ back) (end ∷ after) ∙ ap (λ x. front ++ x ∷ (back ++ end ∷ after)) (run_hook_is here s is) in
        let once : times_finished s.id es ≡ 1 = good.hooks front (envelope.TestRunHookStarted s) (back ++ end ∷ after) its_cut in
        let ends : run_hook_ends es ≡ run_hook_ends before = till_end es before f after run as_run_hook_end refl refl in
        is_any (λ (x : TestRunHookFinished). bytes_eq s.id x.test_run_hook_started_id) (run_hook_ends before) (ap (many s.id) (sym ends) ∙ once)

-- ---- lines that pass

-- a run hook is finished once at most
finished_few : (hook : Utf8) (es : List Envelope) → AllPass es → times_finished hook es ≤ 1
finished_few hook es pass = by_lines (λ xs. times_finished hook xs ≤ 1) (omega (arith, none_many hook)) step es pass
  where
    keep : (xs : List Envelope) (e : Envelope) → as_run_hook_end e ≡ None → times_finished hook xs ≤ 1 → times_finished hook (xs ++ e ∷ []) ≤ 1
    keep xs e none rec = let same : many hook (run_hook_ends (xs ++ e ∷ [])) ≡ many hook (run_hook_ends xs) = ap (many hook) (found_more as_run_hook_end xs e none) in omega (arith, same, rec)

    step : (xs : List Envelope) (e : Envelope) → AllPass (xs ++ e ∷ []) → times_finished hook xs ≤ 1 → times_finished hook (xs ++ e ∷ []) ≤ 1
    step xs (envelope.TestRunHookFinished f) h rec = by_id hook f.test_run_hook_started_id
        (λ k.
        let all : many hook (run_hook_ends (xs ++ envelope.TestRunHookFinished f ∷ [])) ≡ many hook (run_hook_ends xs ++ f ∷ []) = ap (many hook) (found_push as_run_hook_end xs (envelope.TestRunHookFinished f) f refl) in
        omega (arith, all, past_many hook (run_hook_ends xs) f [] k, none_many hook, rec))
        (λ k.
        let e = envelope.TestRunHookFinished f in
        let first : is_hook_finished f.test_run_hook_started_id xs ≡ false = (((last_passes xs e h).passes).1).0 in
        let new : many hook (run_hook_ends xs) ≡ 0 = none_counted (λ (x : TestRunHookFinished). bytes_eq hook x.test_run_hook_started_id) (run_hook_ends xs) (ap (λ u. is_hook_finished u xs) k ∙ first) in
        let all : many hook (run_hook_ends (xs ++ e ∷ [])) ≡ many hook (run_hook_ends xs ++ f ∷ []) = ap (many hook) (found_push as_run_hook_end xs e f refl) in
        let here : bytes_eq hook f.test_run_hook_started_id ≡ true = ap (λ u. bytes_eq u f.test_run_hook_started_id) k ∙ bytes_same f.test_run_hook_started_id in
        omega (arith, all, cut_many hook (run_hook_ends xs) f [] here, none_many hook, new))
    step xs e h rec = keep xs e refl rec

one_of : (n : ℕ) → n ≤ 1 → (n ≡ 0 → ⊥) → n ≡ 1
one_of zero few not_none = absurd (not_none refl)
one_of (suc n) few not_none = omega (arith, few)

pub all_hooks : (es : List Envelope) → AllPass es → TheEnd es → HooksGood es
all_hooks es pass end before e after cut = at e cut
  where
    till : run_hooks es ≡ run_hooks end.before
    till = till_end es end.before end.end end.after end.run as_run_hook refl refl

    ends : run_hook_ends es ≡ run_hook_ends end.before
    ends = till_end es end.before end.end end.after end.run as_run_hook_end refl refl

    all : AllByRecursion (λ (s : TestRunHookStarted). is_hook_finished s.id end.before ≡ true) (run_hooks end.before)
    all = each_true (λ (s : TestRunHookStarted). is_hook_finished s.id end.before) (run_hooks end.before)
        (not-false (list_all (λ s. is_hook_finished s.id end.before) (run_hooks end.before)) (((end.line.passes.1).1).1).0)

    at : (e : Envelope) → es ≡ before ++ e ∷ after → HookGood es e
    at (envelope.TestRunHookStarted s) cut =
        let parts : run_hooks es ≡ run_hooks before ++ s ∷ run_hooks after = ap run_hooks cut ∙ found_cut as_run_hook before (envelope.TestRunHookStarted s) after s refl in
        let each : AllByRecursion (λ (x : TestRunHookStarted). is_hook_finished x.id end.before ≡ true) (run_hooks before ++ s ∷ run_hooks after) =
        subst (AllByRecursion (λ (x : TestRunHookStarted). is_hook_finished x.id end.before ≡ true)) (sym till ∙ parts) all in
        let here : some s.id (run_hook_ends end.before) = all_here (λ (x : TestRunHookStarted). is_hook_finished x.id end.before ≡ true) (run_hooks before) s (run_hooks after) each in
        let finished : some s.id (run_hook_ends es) = ap (list_any (λ (x : TestRunHookFinished). bytes_eq s.id x.test_run_hook_started_id)) ends ∙ here in
        one_of (times_finished s.id es) (finished_few s.id es pass) (never finished)
      where
        never : some s.id (run_hook_ends es) → times_finished s.id es ≡ 0 → ⊥
        never finished none =
            let no_way : list_any (λ (x : TestRunHookFinished). bytes_eq s.id x.test_run_hook_started_id) (run_hook_ends es) ≡ false = count_none (λ (x : TestRunHookFinished). bytes_eq s.id x.test_run_hook_started_id) (run_hook_ends es) none in
            cc
    at _ cut = tt
