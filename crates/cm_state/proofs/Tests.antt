-- Which names the lines declare, by what is kept of them.
use Rattle.std.proofs.Common.{◌≡◌, ℕ, ◌≤◌, refl, sym, ap, ◌∙◌, List, [], ◌∷◌, ◌++◌, Option, Some, None, false, Bool, not, ◌==◌, length, map, arith}
use Rattle.std.specs.Prelude.{nat_lt, is_some}
use Rattle.std.specs.List.{list_any, filter_map}
use Rattle.std.specs.Option.{option_map_or}
use Rattle.std.specs.Str.{bytes_eq}
use Rattle.cm_refs.specs.Declarations.{PickleRow, RunHookRow, find_pickle, find_run_hook}
use Rattle.cm_refs.proofs.EntryLemmas.{list_any-map}
use Rattle.cm_attempt.specs.Table.{find_attempt, has_text}
use Rattle.cm_stream.specs.Texts.{Utf8}
use Rattle.cm_stream.specs.References.{Name, SourceOf, DocumentOf, PickleNamed, PickleStep, Definition, HookNamed, Step, Run, Attempt, RunHook, same_name, declares_it, times_declared, if_any, as_source, as_document, as_pickle, as_start, as_run_hook, pickles, starts, run_hooks, has_run_started}
use Rattle.cm_stream.specs.Record.{table_of_envelopes}
use Rattle.cm_envelope.specs.declared.envelope.Envelope.{Envelope}
use Rattle.cm_envelope.specs.declared.envelope.Envelope.TheVariants as envelope
use Rattle.cm_envelope.specs.declared.envelope.Source.{Source}
use Rattle.cm_envelope.specs.declared.envelope.GherkinDocument.{GherkinDocument}
use Rattle.cm_envelope.specs.declared.envelope.TestStep.{TestStep}
use Rattle.cm_envelope.specs.declared.pickle.Pickle.{Pickle}
use Rattle.cm_envelope.specs.declared.pickle.PickleStep as pickle_step
use Rattle.cm_stream.proofs.Declared.{none_of, declares_source, declares_document, declares_pickle, declares_attempt, declares_run_hook, known}
use Rattle.cm_stream.proofs.TableSteps.{AreAccepted}
use Rattle.cm_stream.proofs.TableWords.{attempt_told}
use Rattle.cm_stream.proofs.Passing.{AllPass, last_passes, by_lines}
use Rattle.cm_state.specs.Summary.{as_definition, as_hook, as_run, first_of, pickle_row, run_hook_row, declarations_in}
use Rattle.cm_state.specs.ByOnePass.{summary_of_lines}
use Rattle.cm_state.specs.StateChecks.{is_run, knows_run}
use Rattle.cm_stream.proofs.Lists.{or_no, found_any, found_more, found_push}

-- the lines declare the name exactly if b
pub record IsDeclaredIf (name : Name) (es : List Envelope) (b : Bool) : Type 0 where
  pub unknown : (times_declared name es == 0) ≡ not b
  pub again : nat_lt 0 (times_declared name es) ≡ b

pub by_same : (name : Name) (es : List Envelope) (b c : Bool) → b ≡ c → IsDeclaredIf name es b → IsDeclaredIf name es c
by_same name es b c e k = record { unknown = k.unknown ∙ ap not e; again = k.again ∙ e }

-- by a test of what is kept of a kind
pub by_test : {Y : Type 0} (name : Name) (h : Envelope → Option Y) (p : Y → Bool) → ((e : Envelope) → declares_it name e ≡ option_map_or p (h e) false) → (es : List Envelope) → IsDeclaredIf name es (list_any p (filter_map h es))
by_test name h p same es =
    let k = known name h p same es in
    let any = found_any p (filter_map h es) in
    record { unknown = k.0 ∙ ap not any; again = k.1 ∙ any }

pub source_declared : (u : Utf8) (es : List Envelope) → IsDeclaredIf (SourceOf u) es (has_text u (declarations_in es).sources)
source_declared u es =
    by_same (SourceOf u) es (list_any (λ (s : Source). bytes_eq u s.uri) (filter_map as_source es)) (has_text u (declarations_in es).sources)
    (sym (list_any-map (bytes_eq u) (λ (s : Source). s.uri) (filter_map as_source es))) (by_test (SourceOf u) as_source (λ s. bytes_eq u s.uri) (declares_source u) es)

pub document_declared : (u : Utf8) (es : List Envelope) → IsDeclaredIf (DocumentOf u) es (has_text u (declarations_in es).documents)
document_declared u es =
    by_same (DocumentOf u) es (list_any (λ (d : GherkinDocument). bytes_eq u d.uri) (filter_map as_document es)) (has_text u (declarations_in es).documents)
    (sym (list_any-map (bytes_eq u) (λ (d : GherkinDocument). d.uri) (filter_map as_document es))) (by_test (DocumentOf u) as_document (λ d. bytes_eq u d.uri) (declares_document u) es)

pub pickle_declared : (id : Utf8) (es : List Envelope) → IsDeclaredIf (PickleNamed id) es (is_some (find_pickle (declarations_in es) id))
pickle_declared id es =
    by_same (PickleNamed id) es (list_any (λ (p : Pickle). bytes_eq id p.id) (pickles es)) (is_some (find_pickle (declarations_in es) id))
    (sym (list_any-map (λ (r : PickleRow). bytes_eq id r.id) pickle_row (pickles es)) ∙ sym (found_any (λ (r : PickleRow). bytes_eq id r.id) (map pickle_row (pickles es))))
    (by_test (PickleNamed id) as_pickle (λ p. bytes_eq id p.id) (declares_pickle id) es)

pub attempt_declared : (id : Utf8) (first : ℕ) (es : List Envelope) → AreAccepted first es → IsDeclaredIf (Attempt id) es (is_some (find_attempt (table_of_envelopes first es) id))
attempt_declared id first es accepted =
    by_same (Attempt id) es (list_any (λ s. bytes_eq id s.id) (starts es)) (is_some (find_attempt (table_of_envelopes first es) id))
    (sym (found_any (λ s. bytes_eq id s.id) (starts es)) ∙ sym (attempt_told first es accepted id))
    (by_test (Attempt id) as_start (λ s. bytes_eq id s.id) (declares_attempt id) es)

pub run_hook_declared : (id : Utf8) (es : List Envelope) → IsDeclaredIf (RunHook id) es (is_some (find_run_hook (declarations_in es) id))
run_hook_declared id es =
    by_same (RunHook id) es (list_any (λ s. bytes_eq id s.id) (run_hooks es)) (is_some (find_run_hook (declarations_in es) id))
    (sym (list_any-map (λ (r : RunHookRow). bytes_eq id r.id) (run_hook_row es) (run_hooks es)) ∙ sym (found_any (λ (r : RunHookRow). bytes_eq id r.id) (map (run_hook_row es) (run_hooks es))))
    (by_test (RunHook id) as_run_hook (λ s. bytes_eq id s.id) (declares_run_hook id) es)

declares_definition : (id : Utf8) (e : Envelope) → declares_it (Definition id) e ≡ option_map_or (bytes_eq id) (as_definition e) false
declares_definition id (envelope.StepDefinition d) = or_no (bytes_eq id d.id)
declares_definition id (envelope.Pickle p) = none_of (Definition id) (λ (s : pickle_step.PickleStep). PickleStep p.id s.id) p.steps (λ s. refl)
declares_definition id (envelope.TestCase c) = none_of (Definition id) (λ (s : TestStep). Step c.id s.id) c.test_steps (λ s. refl)
declares_definition id (envelope.TestRunStarted r) = none_of (Definition id) Run (if_any r.id) (λ s. refl)
declares_definition id _ = refl

declares_hook : (id : Utf8) (e : Envelope) → declares_it (HookNamed id) e ≡ option_map_or (bytes_eq id) (as_hook e) false
declares_hook id (envelope.Hook h) = or_no (bytes_eq id h.id)
declares_hook id (envelope.Pickle p) = none_of (HookNamed id) (λ (s : pickle_step.PickleStep). PickleStep p.id s.id) p.steps (λ s. refl)
declares_hook id (envelope.TestCase c) = none_of (HookNamed id) (λ (s : TestStep). Step c.id s.id) c.test_steps (λ s. refl)
declares_hook id (envelope.TestRunStarted r) = none_of (HookNamed id) Run (if_any r.id) (λ s. refl)
declares_hook id _ = refl

pub definition_declared : (id : Utf8) (es : List Envelope) → IsDeclaredIf (Definition id) es (has_text id (declarations_in es).definitions)
definition_declared id es = by_test (Definition id) as_definition (bytes_eq id) (declares_definition id) es

pub hook_declared : (id : Utf8) (es : List Envelope) → IsDeclaredIf (HookNamed id) es (has_text id (declarations_in es).hooks)
hook_declared id es = by_test (HookNamed id) as_hook (bytes_eq id) (declares_hook id) es

-- ---- the run

pub started_is : (es : List Envelope) → is_some (first_of (filter_map as_run es)) ≡ has_run_started es
started_is [] = refl
started_is (envelope.TestRunStarted r ∷ es) = refl
started_is (_ ∷ es) = started_is es

pub no_run : (es : List Envelope) → has_run_started es ≡ false → filter_map as_run es ≡ []
no_run [] h = refl
no_run (envelope.TestRunStarted r ∷ es) h = cc
no_run (_ ∷ es) h = no_run es h

few_runs : (es : List Envelope) → AllPass es → length (filter_map as_run es) ≤ 1
few_runs es pass = by_lines (λ xs. length (filter_map as_run xs) ≤ 1) (omega arith) step es pass
  where
    step : (xs : List Envelope) (e : Envelope) → AllPass (xs ++ e ∷ []) → length (filter_map as_run xs) ≤ 1 → length (filter_map as_run (xs ++ e ∷ [])) ≤ 1
    step xs (envelope.TestRunStarted r) h rec =
        let none : filter_map as_run xs ≡ [] = no_run xs ((last_passes xs (envelope.TestRunStarted r) h).passes).0 in
        let all : filter_map as_run (xs ++ envelope.TestRunStarted r ∷ []) ≡ r ∷ [] = found_push as_run xs (envelope.TestRunStarted r) r refl ∙ ap (λ ys. ys ++ r ∷ []) none in
        let long = ap length all in
        omega (arith, long)
    step xs e h rec = let same = ap length (found_more as_run xs e refl) in omega (arith, same, rec)

any_first : {X : Type 0} (p : X → Bool) (xs : List X) → length xs ≤ 1 → list_any p xs ≡ option_map_or p (first_of xs) false
any_first p [] few = refl
any_first p (x ∷ []) few = or_no (p x)
any_first p (x ∷ y ∷ xs) few = absurd (omega arith)

declares_run : (id : Utf8) (e : Envelope) → declares_it (Run id) e ≡ option_map_or (is_run id) (as_run e) false
declares_run id (envelope.Pickle p) = none_of (Run id) (λ (s : pickle_step.PickleStep). PickleStep p.id s.id) p.steps (λ s. refl)
declares_run id (envelope.TestCase c) = none_of (Run id) (λ (s : TestStep). Step c.id s.id) c.test_steps (λ s. refl)
declares_run id (envelope.TestRunStarted r) = go r.id
  where
    go : (o : Option Utf8) → list_any (same_name (Run id)) (map Run (if_any o)) ≡ option_map_or (bytes_eq id) o false
    go None = refl
    go (Some i) = or_no (bytes_eq id i)
declares_run id _ = refl

pub run_declared : (es : List Envelope) → AllPass es → (id : Utf8) → IsDeclaredIf (Run id) es (option_map_or (is_run id) (first_of (filter_map as_run es)) false)
run_declared es pass id =
    by_same (Run id) es (list_any (is_run id) (filter_map as_run es)) (option_map_or (is_run id) (first_of (filter_map as_run es)) false)
    (any_first (is_run id) (filter_map as_run es) (few_runs es pass)) (by_test (Run id) as_run (is_run id) (declares_run id) es)

-- ---- names that are referred to

abbrev pub unknown : List Envelope → Name → Bool
unknown es name = times_declared name es == 0

pub run_known : (first : ℕ) (es : List Envelope) → AllPass es → (o : Option Utf8) → list_any (unknown es) (map Run (if_any o)) ≡ not (knows_run (summary_of_lines first es) o)
run_known first es pass None = refl
run_known first es pass (Some id) = or_no (unknown es (Run id)) ∙ (run_declared es pass id).unknown
