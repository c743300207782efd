-- What is kept of run hooks: what one more line changes in it, and what it says of a line.
use Rattle.std.proofs.Common.{◌≡◌, ℕ, refl, sym, ap, ◌∙◌, List, [], ◌∷◌, ◌++◌, Option, Some, None, true, false, Bool, not, ◌||◌, ◌==◌, map, length, arith}
use Rattle.std.specs.Prelude.{nat_lt, find}
use Rattle.std.specs.List.{AllByRecursion, list_any, list_all, filter}
use Rattle.std.specs.Option.{option_map, option_map_or}
use Rattle.std.specs.Str.{bytes_eq}
use Rattle.std.proofs.lemmas.List.Folds.{list_any-append}
use Rattle.std.proofs.lemmas.List.Sums.{fold_push}
use Rattle.cm_refs.specs.Declarations.{RunHookRow, change_first, finished_run_hook, new_run_hook, open_count}
use Rattle.cm_refs.proofs.EntryLemmas.{list_any-map}
use Rattle.std.proofs.lemmas.List.{map-append}
use Rattle.cm_stream.specs.Texts.{Utf8}
use Rattle.cm_stream.specs.References.{HookNamed, Run, RunHook, times_declared, refers, if_any, as_run_hook, as_run_hook_end, run_hooks, run_hook_ends, hook_statuses, is_hook_finished}
use Rattle.cm_stream.specs.Statuses.{kept_status}
use Rattle.cm_attempt.specs.Worst.{with_status, worst_so_far}
use Rattle.cm_attempt.specs.declared.status.Status.{Status}
use Rattle.cm_stream.specs.Checks.{refers_to_unknown}
use Rattle.cm_envelope.specs.declared.envelope.Envelope.{Envelope}
use Rattle.cm_envelope.specs.declared.envelope.Envelope.TheVariants as envelope
use Rattle.cm_envelope.specs.declared.envelope.TestRunHookStarted.{TestRunHookStarted}
use Rattle.cm_envelope.specs.declared.envelope.TestRunHookFinished.{TestRunHookFinished}
use Rattle.cm_stream.proofs.Lists.{or_false, or_no, none_counts, none_or_all, find_map, found_more, found_push, map_same}
use Rattle.cm_stream.proofs.Found.{bytes_same, bytes_are, differs_back}
use Rattle.cm_stream.proofs.Declared.{declares_run_hook}
use Rattle.cm_stream.proofs.Passing.{AllPass, front_passes, last_passes}
use Rattle.cm_stream.proofs.Distinct.{all_distinct, at_most_once}
use Rattle.cm_stream.proofs.OneRow.{OnlyOne, only_one, change_one}
use Rattle.cm_state.specs.Summary.{declarations_in, run_hook_row}
use Rattle.cm_state.specs.ByOnePass.{summary_of_lines}
use Rattle.cm_state.specs.StateChecks.{is_hook_finished_by, knows_run_hook}
use Rattle.cm_state.proofs.OneMore.{found_after, push_if, kept_named, not_found, none_refers}
use Rattle.cm_state.proofs.StepTests.{both_known}
use Rattle.cm_state.proofs.Tests.{hook_declared, run_known, unknown}

-- what is kept of the run hooks
abbrev pub hook_rows : List Envelope → List RunHookRow
hook_rows es = map (run_hook_row es) (run_hooks es)

or_yes : (b : Bool) → (b || true) ≡ true
or_yes true = refl
or_yes false = refl

row_is : (id : Utf8) (a b : Bool) → a ≡ b → ◌≡◌ {A = RunHookRow} (record { id = id; is_finished = a }) (record { id = id; is_finished = b })
row_is id a b e = ap (λ (x : Bool). record { id = id; is_finished = x }) e

-- a run hook that no line starts, no line finishes
end_refers : (front : List Envelope) (here : Envelope) (f : TestRunHookFinished) → as_run_hook_end here ≡ Some f → AllByRecursion (λ n. times_declared n front ≡ 1) (refers front here) → times_declared (RunHook f.test_run_hook_started_id) front ≡ 1
end_refers front (envelope.TestRunHookFinished g) f is refs =
    let same : g ≡ f = cc in
    ap (λ (x : TestRunHookFinished). times_declared (RunHook x.test_run_hook_started_id) front) (sym same) ∙ refs.0
end_refers front _ f is refs = cc

never_finished : (es : List Envelope) → AllPass es → (u : Utf8) → find (λ s. bytes_eq u s.id) (run_hooks es) ≡ None → is_hook_finished u es ≡ false
never_finished es pass u none = none_refers es pass RunHook as_run_hook (λ (s : TestRunHookStarted). s.id) declares_run_hook as_run_hook_end (λ (f : TestRunHookFinished). f.test_run_hook_started_id) end_refers u none

-- ---- one more line

finish_stays : (es : List Envelope) (e : Envelope) → as_run_hook_end e ≡ None → (u : Utf8) → is_hook_finished u (es ++ e ∷ []) ≡ is_hook_finished u es
finish_stays es e none u = ap (list_any (λ (f : TestRunHookFinished). bytes_eq u f.test_run_hook_started_id)) (found_more as_run_hook_end es e none)

rows_stay : (es : List Envelope) (e : Envelope) → as_run_hook_end e ≡ None → map (run_hook_row (es ++ e ∷ [])) (run_hooks es) ≡ hook_rows es
rows_stay es e none = map_same (run_hook_row (es ++ e ∷ [])) (run_hook_row es) (λ s. row_is s.id (is_hook_finished s.id (es ++ e ∷ [])) (is_hook_finished s.id es) (finish_stays es e none s.id)) (run_hooks es)

other_rows : (es : List Envelope) (e : Envelope) → as_run_hook e ≡ None → as_run_hook_end e ≡ None → hook_rows (es ++ e ∷ []) ≡ hook_rows es
other_rows es e start end = ap (map (run_hook_row (es ++ e ∷ []))) (found_more as_run_hook es e start) ∙ rows_stay es e end

start_rows : (es : List Envelope) (s : TestRunHookStarted) → AllPass (es ++ envelope.TestRunHookStarted s ∷ []) → hook_rows (es ++ envelope.TestRunHookStarted s ∷ []) ≡ hook_rows es ++ new_run_hook s.id ∷ []
start_rows es s more =
    let e = envelope.TestRunHookStarted s in
    let pass = front_passes es (e ∷ []) more in
    let new = (or_false (nat_lt 0 (times_declared (RunHook s.id) es)) false ((((last_passes es e more).passes).1).1).0).0 in
    let none = not_found (RunHook s.id) as_run_hook (λ (x : TestRunHookStarted). bytes_eq s.id x.id) (declares_run_hook s.id) es new in
    let fresh : run_hook_row (es ++ e ∷ []) s ≡ new_run_hook s.id = row_is s.id (is_hook_finished s.id (es ++ e ∷ [])) false (finish_stays es e refl s.id ∙ never_finished es pass s.id none) in
    ap (map (run_hook_row (es ++ e ∷ []))) (found_push as_run_hook es e s refl) ∙ map-append (run_hook_row (es ++ e ∷ [])) (run_hooks es) (s ∷ [])
    ∙ ap (λ rs. rs ++ run_hook_row (es ++ e ∷ []) s ∷ []) (rows_stay es e refl)
    ∙ ap (λ r. hook_rows es ++ r ∷ []) fresh

one_hook : (es : List Envelope) → AllPass es → (u : Utf8) → OnlyOne (λ s. bytes_eq u s.id) (run_hooks es)
one_hook es pass u =
    let counted : length (filter (λ s. bytes_eq u s.id) (run_hooks es)) ≡ times_declared (RunHook u) es = kept_named (RunHook u) as_run_hook (λ s. bytes_eq u s.id) (declares_run_hook u) es in
    only_one (λ s. bytes_eq u s.id) (run_hooks es) (omega (arith, counted, at_most_once (RunHook u) es (all_distinct es pass)))

finish_rows : (es : List Envelope) (f : TestRunHookFinished) → AllPass (es ++ envelope.TestRunHookFinished f ∷ [])
    → hook_rows (es ++ envelope.TestRunHookFinished f ∷ []) ≡ change_first (λ r. bytes_eq f.test_run_hook_started_id r.id) finished_run_hook (hook_rows es)
finish_rows es f more =
    let e = envelope.TestRunHookFinished f in
    let pass = front_passes es (e ∷ []) more in
    ap (map (run_hook_row (es ++ e ∷ []))) (found_more as_run_hook es e refl)
    ∙ sym (change_one (λ r. bytes_eq f.test_run_hook_started_id r.id) finished_run_hook (λ s. bytes_eq f.test_run_hook_started_id s.id) (run_hook_row es) (run_hook_row (es ++ e ∷ [])) (λ s. refl) hit other (run_hooks es) (one_hook es pass f.test_run_hook_started_id))
  where
    one_more : (u : Utf8) → is_hook_finished u (es ++ envelope.TestRunHookFinished f ∷ []) ≡ (is_hook_finished u es || (bytes_eq u f.test_run_hook_started_id || false))
    one_more u =
        ap (list_any (λ (x : TestRunHookFinished). bytes_eq u x.test_run_hook_started_id)) (found_push as_run_hook_end es (envelope.TestRunHookFinished f) f refl)
        ∙ list_any-append (λ (x : TestRunHookFinished). bytes_eq u x.test_run_hook_started_id) (run_hook_ends es) (f ∷ [])

    hit : (s : TestRunHookStarted) → bytes_eq f.test_run_hook_started_id s.id ≡ true → run_hook_row (es ++ envelope.TestRunHookFinished f ∷ []) s ≡ finished_run_hook (run_hook_row es s)
    hit s k =
        let same : s.id ≡ f.test_run_hook_started_id = sym (bytes_are f.test_run_hook_started_id s.id k) in
        let here : bytes_eq s.id f.test_run_hook_started_id ≡ true = ap (λ u. bytes_eq u f.test_run_hook_started_id) same ∙ bytes_same f.test_run_hook_started_id in
        row_is s.id (is_hook_finished s.id (es ++ envelope.TestRunHookFinished f ∷ [])) true (one_more s.id ∙ ap (λ b. is_hook_finished s.id es || (b || false)) here ∙ or_yes (is_hook_finished s.id es))

    other : (s : TestRunHookStarted) → bytes_eq f.test_run_hook_started_id s.id ≡ false → run_hook_row (es ++ envelope.TestRunHookFinished f ∷ []) s ≡ run_hook_row es s
    other s k = row_is s.id (is_hook_finished s.id (es ++ envelope.TestRunHookFinished f ∷ [])) (is_hook_finished s.id es)
        (one_more s.id ∙ ap (λ b. is_hook_finished s.id es || (b || false)) (differs_back f.test_run_hook_started_id s.id k) ∙ or_no (is_hook_finished s.id es))

abbrev pub hook_rows_after : List RunHookRow → Envelope → List RunHookRow
hook_rows_after rs (envelope.TestRunHookStarted s) = rs ++ new_run_hook s.id ∷ []
hook_rows_after rs (envelope.TestRunHookFinished f) = change_first (λ r. bytes_eq f.test_run_hook_started_id r.id) finished_run_hook rs
hook_rows_after rs _ = rs

pub hook_rows_step : (es : List Envelope) (e : Envelope) → AllPass (es ++ e ∷ []) → hook_rows (es ++ e ∷ []) ≡ hook_rows_after (hook_rows es) e
hook_rows_step es (envelope.TestRunHookStarted s) h = start_rows es s h
hook_rows_step es (envelope.TestRunHookFinished f) h = finish_rows es f h
hook_rows_step es e h = other_rows es e refl refl

abbrev pub hooks_worst_after : Option Status → Option TestRunHookFinished → Option Status
hooks_worst_after worst None = worst
hooks_worst_after worst (Some f) = with_status worst (kept_status f.result.status)

pub hooks_worst_step : (es : List Envelope) (e : Envelope) → worst_so_far (hook_statuses (es ++ e ∷ [])) ≡ hooks_worst_after (worst_so_far (hook_statuses es)) (as_run_hook_end e)
hooks_worst_step es e = ap (λ fs. worst_so_far (map (λ (f : TestRunHookFinished). kept_status f.result.status) fs)) (found_after as_run_hook_end es e) ∙ go (as_run_hook_end e)
  where
    go : (o : Option TestRunHookFinished) → worst_so_far (map (λ (f : TestRunHookFinished). kept_status f.result.status) (push_if (run_hook_ends es) o)) ≡ hooks_worst_after (worst_so_far (hook_statuses es)) o
    go None = refl
    go (Some f) = ap worst_so_far (map-append (λ (x : TestRunHookFinished). kept_status x.result.status) (run_hook_ends es) (f ∷ [])) ∙ fold_push with_status None (hook_statuses es) (kept_status f.result.status)

-- ---- what is reported of a line

pub hook_finished_by : (first : ℕ) (es : List Envelope) → AllPass es → (u : Utf8) → is_hook_finished_by (summary_of_lines first es) u ≡ is_hook_finished u es
hook_finished_by first es pass u =
    ap (λ o. option_map_or (λ (r : RunHookRow). r.is_finished) o false) (find_map (λ (r : RunHookRow). bytes_eq u r.id) (run_hook_row es) (run_hooks es)) ∙ go (find (λ s. bytes_eq u s.id) (run_hooks es)) refl
  where
    found : (xs : List TestRunHookStarted) (s : TestRunHookStarted) → find (λ x. bytes_eq u x.id) xs ≡ Some s → bytes_eq u s.id ≡ true
    found [] s h = cc
    found (x ∷ xs) s h = at (bytes_eq u x.id) refl (found xs s)
      where
        at : (b : Bool) → bytes_eq u x.id ≡ b → (find (λ x. bytes_eq u x.id) xs ≡ Some s → bytes_eq u s.id ≡ true) → bytes_eq u s.id ≡ true
        at true e rec =
            let here : Some x ≡ Some s = rw e at h in
            let same : x ≡ s = cc in
            ap (λ (y : TestRunHookStarted). bytes_eq u y.id) (sym same) ∙ e
        at false e rec = rec (rw e at h)

    go : (o : Option TestRunHookStarted) → find (λ s. bytes_eq u s.id) (run_hooks es) ≡ o → option_map_or (λ (r : RunHookRow). r.is_finished) (option_map (run_hook_row es) o) false ≡ is_hook_finished u es
    go None e = sym (never_finished es pass u e)
    go (Some s) e = ap (λ v. is_hook_finished v es) (sym (bytes_are u s.id (found (run_hooks es) s e)))

pub no_hook_open : (es : List Envelope) → (open_count (declarations_in es) == 0) ≡ list_all (λ (s : TestRunHookStarted). is_hook_finished s.id es) (run_hooks es)
no_hook_open es =
    none_counts (λ (r : RunHookRow). not r.is_finished) (hook_rows es)
    ∙ ap not (list_any-map (λ (r : RunHookRow). not r.is_finished) (run_hook_row es) (run_hooks es))
    ∙ none_or_all (λ (s : TestRunHookStarted). not (is_hook_finished s.id es)) (λ (s : TestRunHookStarted). is_hook_finished s.id es) (λ s. refl) (run_hooks es)

pub hook_start_known : (first : ℕ) (es : List Envelope) → AllPass es → (s : TestRunHookStarted) → refers_to_unknown es (envelope.TestRunHookStarted s) ≡ not (knows_run_hook (summary_of_lines first es) s)
hook_start_known first es pass s =
    list_any-append (unknown es) (map Run (if_any s.test_run_started_id)) (HookNamed s.hook_id ∷ [])
    ∙ (λ i. run_known first es pass s.test_run_started_id i || (or_no (unknown es (HookNamed s.hook_id)) ∙ (hook_declared s.hook_id es).unknown) i)
    ∙ both_known _ _
