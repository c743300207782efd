-- A pickle that is declared again, and what a test case refers to, by what is kept of the lines.
use Rattle.std.proofs.Common.{◌≡◌, ℕ, refl, sym, ap, ◌∙◌, List, [], ◌∷◌, ◌++◌, Option, Some, None, true, false, Bool, not, ◌&&◌, ◌||◌, map}
use Rattle.std.specs.Prelude.{nat_lt, is_some, if◌then◌else◌}
use Rattle.std.specs.List.{list_any, list_all, flat_map}
use Rattle.std.specs.Option.{option_map, option_map_or}
use Rattle.std.specs.Str.{bytes_eq}
use Rattle.std.proofs.lemmas.List.Folds.{list_any-append}
use Rattle.cm_refs.specs.Declarations.{PickleRow, find_pickle, has_text, has_repeat, pickle_fault}
use Rattle.cm_refs.specs.declared.fault.RefFault.TheVariants as fault
use Rattle.cm_stream.specs.Texts.{Utf8, same_texts}
use Rattle.cm_stream.specs.References.{PickleNamed, PickleStep, Definition, HookNamed, Step, Run, same_name, declares, declares_it, times_declared, if_any, as_pickle, pickles, find_pickle as pickle_in, pickle_step_ids, test_step_names}
use Rattle.cm_stream.specs.Good.{has_same_names}
use Rattle.cm_stream.specs.Checks.{refers_to_unknown, declares_again, has_steps_of_pickle}
use Rattle.cm_envelope.specs.declared.envelope.Envelope.{Envelope}
use Rattle.cm_envelope.specs.declared.envelope.Envelope.TheVariants as envelope
use Rattle.cm_envelope.specs.declared.envelope.TestCase.{TestCase}
use Rattle.cm_envelope.specs.declared.envelope.TestStep.{TestStep}
use Rattle.cm_envelope.specs.declared.pickle.Pickle.{Pickle}
use Rattle.cm_envelope.specs.declared.pickle.PickleStep as pickle_step
use Rattle.cm_stream.proofs.Declared.{none_of, known}
use Rattle.cm_stream.proofs.Found.{bytes_same, eq_back}
use Rattle.cm_stream.proofs.Passing.{AllPass}
use Rattle.cm_stream.proofs.OneRow.{one_pickle}
use Rattle.cm_stream.proofs.Steps.{one_with, none_with, out_of_or, never}
use Rattle.cm_state.specs.Summary.{pickle_row, declarations_in}
use Rattle.cm_state.specs.ByOnePass.{summary_of_lines}
use Rattle.cm_state.specs.StateChecks.{is_among, steps_by, knows_run, knows_step, knows_case, has_steps_by}
use Rattle.cm_state.proofs.Tests.{IsDeclaredIf, by_same, by_test, pickle_declared, definition_declared, hook_declared, unknown, run_known}
use Rattle.cm_stream.proofs.Lists.{or_no, find_map, found_any}

-- ---- the steps of a pickle

abbrev ids_of : Pickle → List Utf8
ids_of p = map (λ s. s.id) p.steps

abbrev has_step_of : Utf8 → Utf8 → Pickle → Bool
has_step_of pickle step p = bytes_eq pickle p.id && has_text step (ids_of p)

among : (pickle step id : Utf8) (ss : List pickle_step.PickleStep) → list_any (same_name (PickleStep pickle step)) (map (λ s. PickleStep id s.id) ss) ≡ (bytes_eq pickle id && has_text step (map (λ s. s.id) ss))
among pickle step id [] = sym (never (bytes_eq pickle id))
among pickle step id (s ∷ ss) = rw (among pickle step id ss) (out_of_or (bytes_eq pickle id) (bytes_eq step s.id) (has_text step (map (λ t. t.id) ss)))

declares_step : (pickle step : Utf8) (e : Envelope) → declares_it (PickleStep pickle step) e ≡ option_map_or (has_step_of pickle step) (as_pickle e) false
declares_step pickle step (envelope.Pickle p) = among pickle step p.id p.steps
declares_step pickle step (envelope.TestCase c) = none_of (PickleStep pickle step) (λ (s : TestStep). Step c.id s.id) c.test_steps (λ s. refl)
declares_step pickle step (envelope.TestRunStarted r) = none_of (PickleStep pickle step) Run (if_any r.id) (λ s. refl)
declares_step pickle step _ = refl

row_is : (es : List Envelope) (id : Utf8) → find_pickle (declarations_in es) id ≡ option_map pickle_row (pickle_in id es)
row_is es id = find_map (λ r. bytes_eq id r.id) pickle_row (pickles es)

pub step_declared : (first : ℕ) (es : List Envelope) → AllPass es → (pickle step : Utf8) → IsDeclaredIf (PickleStep pickle step) es (has_text step (steps_by (summary_of_lines first es) pickle))
step_declared first es pass pickle step = go (pickle_in pickle es) refl
  where
    k : IsDeclaredIf (PickleStep pickle step) es (list_any (has_step_of pickle step) (pickles es))
    k = by_test (PickleStep pickle step) as_pickle (has_step_of pickle step) (declares_step pickle step) es

    its : (o : Option Pickle) → pickle_in pickle es ≡ o → steps_by (summary_of_lines first es) pickle ≡ option_map_or (λ (r : PickleRow). r.steps) (option_map pickle_row o) []
    its o e = ap (λ r. option_map_or (λ (x : PickleRow). x.steps) r []) (row_is es pickle ∙ ap (option_map pickle_row) e)

    go : (o : Option Pickle) → pickle_in pickle es ≡ o → IsDeclaredIf (PickleStep pickle step) es (has_text step (steps_by (summary_of_lines first es) pickle))
    go None e =
        let none : list_any (has_step_of pickle step) (pickles es) ≡ false = sym (found_any (has_step_of pickle step) (pickles es)) ∙ none_with (λ p. bytes_eq pickle p.id) (λ p. has_text step (ids_of p)) (pickles es) e in
        by_same (PickleStep pickle step) es (list_any (has_step_of pickle step) (pickles es)) (has_text step (steps_by (summary_of_lines first es) pickle)) (none ∙ sym (ap (has_text step) (its None e))) k
    go (Some p) e =
        let some : list_any (has_step_of pickle step) (pickles es) ≡ has_text step (ids_of p) = one_with (λ x. bytes_eq pickle x.id) (λ x. has_text step (ids_of x)) (pickles es) p (one_pickle es pass pickle) e in
        by_same (PickleStep pickle step) es (list_any (has_step_of pickle step) (pickles es)) (has_text step (steps_by (summary_of_lines first es) pickle)) (some ∙ sym (ap (has_text step) (its (Some p) e))) k

-- ---- a pickle that is declared again

no_pickle : (id : Utf8) (ss : List pickle_step.PickleStep) → list_any (λ later. same_name later (PickleNamed id)) (map (λ s. PickleStep id s.id) ss) ≡ false
no_pickle id [] = refl
no_pickle id (s ∷ ss) = no_pickle id ss

same_later : (id x : Utf8) (ss : List pickle_step.PickleStep) → list_any (λ later. same_name later (PickleStep id x)) (map (λ s. PickleStep id s.id) ss) ≡ has_text x (map (λ s. s.id) ss)
same_later id x [] = refl
same_later id x (s ∷ ss) = rw (bytes_same id, same_later id x ss, eq_back s.id x) refl

same_repeat : (id : Utf8) (ss : List pickle_step.PickleStep) → has_same_names (map (λ s. PickleStep id s.id) ss) ≡ has_repeat (map (λ s. s.id) ss)
same_repeat id [] = refl
same_repeat id (s ∷ ss) = rw (same_later id s.id ss, same_repeat id ss) refl

-- where no pickle has the id, none of its steps is declared
none_declared : (es : List Envelope) (id : Utf8) → pickle_in id es ≡ None → (ss : List pickle_step.PickleStep) → list_any (λ name. nat_lt 0 (times_declared name es)) (map (λ s. PickleStep id s.id) ss) ≡ false
none_declared es id none [] = refl
none_declared es id none (s ∷ ss) =
    let here : nat_lt 0 (times_declared (PickleStep id s.id) es) ≡ false =
    (known (PickleStep id s.id) as_pickle (has_step_of id s.id) (declares_step id s.id) es).1 ∙ none_with (λ p. bytes_eq id p.id) (λ p. has_text s.id (ids_of p)) (pickles es) none in
    let more = none_declared es id none ss in
    λ i. here i || more i

or_yes : (b : Bool) → (b || true) ≡ true
or_yes true = refl
or_yes false = refl

if_some : (b : Bool) → is_some (if b then Some fault.DuplicateId else None) ≡ b
if_some true = refl
if_some false = refl

pub pickle_again : (es : List Envelope) (p : Pickle) → is_some (pickle_fault (declarations_in es) p.id (map (λ x. x.id) p.steps)) ≡ declares_again es (envelope.Pickle p)
pickle_again es p = if_some (is_some (find_pickle (declarations_in es) p.id) || has_repeat (ids_of p)) ∙ go (pickle_in p.id es) refl
  where
    repeats : has_same_names (declares (envelope.Pickle p)) ≡ has_repeat (ids_of p)
    repeats = (λ i. no_pickle p.id p.steps i || has_same_names (map (λ (s : pickle_step.PickleStep). PickleStep p.id s.id) p.steps)) ∙ same_repeat p.id p.steps

    again : list_any (λ name. nat_lt 0 (times_declared name es)) (declares (envelope.Pickle p))
        ≡ (is_some (find_pickle (declarations_in es) p.id) || list_any (λ name. nat_lt 0 (times_declared name es)) (map (λ (s : pickle_step.PickleStep). PickleStep p.id s.id) p.steps))
    again = ap (λ b. b || list_any (λ name. nat_lt 0 (times_declared name es)) (map (λ (s : pickle_step.PickleStep). PickleStep p.id s.id) p.steps)) (pickle_declared p.id es).again

    found : (o : Option Pickle) → pickle_in p.id es ≡ o → is_some (find_pickle (declarations_in es) p.id) ≡ is_some (option_map pickle_row o)
    found o e = ap is_some (row_is es p.id ∙ ap (option_map pickle_row) e)

    go : (o : Option Pickle) → pickle_in p.id es ≡ o → (is_some (find_pickle (declarations_in es) p.id) || has_repeat (ids_of p)) ≡ declares_again es (envelope.Pickle p)
    go None e =
        let none = found None e in
        let nothing : list_any (λ name. nat_lt 0 (times_declared name es)) (declares (envelope.Pickle p)) ≡ false = again ∙ (λ i. none i || none_declared es p.id e p.steps i) in
        ap (λ b. b || has_repeat (ids_of p)) none ∙ sym (or_no (has_repeat (ids_of p))) ∙ (λ i. sym repeats i || sym nothing i)
    go (Some x) e =
        let some = found (Some x) e in
        let thing : list_any (λ name. nat_lt 0 (times_declared name es)) (declares (envelope.Pickle p)) ≡ true = again ∙ ap (λ b. b || list_any (λ name. nat_lt 0 (times_declared name es)) (map (λ (s : pickle_step.PickleStep). PickleStep p.id s.id) p.steps)) some in
        ap (λ b. b || has_repeat (ids_of p)) some ∙ sym (or_yes (has_same_names (declares (envelope.Pickle p)))) ∙ ap (λ b. has_same_names (declares (envelope.Pickle p)) || b) (sym thing)

-- ---- what a test case refers to

pub both_known : (a b : Bool) → (not a || not b) ≡ not (a && b)
both_known true b = refl
both_known false b = refl

hook_known : (es : List Envelope) (o : Option Utf8) → list_any (unknown es) (map HookNamed (if_any o)) ≡ not (is_among (declarations_in es).hooks o)
hook_known es None = refl
hook_known es (Some id) = or_no (unknown es (HookNamed id)) ∙ (hook_declared id es).unknown

definitions_known : (es : List Envelope) (ids : List Utf8) → list_any (unknown es) (map Definition ids) ≡ not (list_all (λ id. has_text id (declarations_in es).definitions) ids)
definitions_known es [] = refl
definitions_known es (id ∷ ids) =
    let here = (definition_declared id es).unknown in
    (λ i. here i || definitions_known es ids i) ∙ both_known (has_text id (declarations_in es).definitions) (list_all (λ x. has_text x (declarations_in es).definitions) ids)

pickle_step_known : (first : ℕ) (es : List Envelope) → AllPass es → (pickle : Utf8) (o : Option Utf8) → list_any (unknown es) (map (PickleStep pickle) (if_any o)) ≡ not (is_among (steps_by (summary_of_lines first es) pickle) o)
pickle_step_known first es pass pickle None = refl
pickle_step_known first es pass pickle (Some step) = or_no (unknown es (PickleStep pickle step)) ∙ (step_declared first es pass pickle step).unknown

three : (a b c : Bool) → ((not a || not b) || not c) ≡ not (a && b && c)
three true b c = both_known b c
three false b c = refl

step_known : (first : ℕ) (es : List Envelope) → AllPass es → (pickle : Utf8) (t : TestStep) → list_any (unknown es) (test_step_names pickle t) ≡ not (knows_step (summary_of_lines first es) pickle t)
step_known first es pass pickle t =
    let hooks = map HookNamed (if_any t.hook_id) in
    let steps = map (PickleStep pickle) (if_any t.pickle_step_id) in
    let definitions = map Definition t.step_definition_ids in
    list_any-append (unknown es) (hooks ++ steps) definitions
    ∙ ap (λ b. b || list_any (unknown es) definitions) (list_any-append (unknown es) hooks steps)
    ∙ (λ i. (hook_known es t.hook_id i || pickle_step_known first es pass pickle t.pickle_step_id i) || definitions_known es t.step_definition_ids i)
    ∙ three (is_among (declarations_in es).hooks t.hook_id) (is_among (steps_by (summary_of_lines first es) pickle) t.pickle_step_id) (list_all (λ id. has_text id (declarations_in es).definitions) t.step_definition_ids)

steps_known : (first : ℕ) (es : List Envelope) → AllPass es → (pickle : Utf8) (ts : List TestStep) → list_any (unknown es) (flat_map (test_step_names pickle) ts) ≡ not (list_all (knows_step (summary_of_lines first es) pickle) ts)
steps_known first es pass pickle [] = refl
steps_known first es pass pickle (t ∷ ts) =
    list_any-append (unknown es) (test_step_names pickle t) (flat_map (test_step_names pickle) ts)
    ∙ (λ i. step_known first es pass pickle t i || steps_known first es pass pickle ts i)
    ∙ both_known (knows_step (summary_of_lines first es) pickle t) (list_all (knows_step (summary_of_lines first es) pickle) ts)

pub case_known : (first : ℕ) (es : List Envelope) → AllPass es → (c : TestCase) → refers_to_unknown es (envelope.TestCase c) ≡ not (knows_case (summary_of_lines first es) c)
case_known first es pass c =
    let here = (pickle_declared c.pickle_id es).unknown in
    list_any-append (unknown es) (map Run (if_any c.test_run_started_id)) (PickleNamed c.pickle_id ∷ flat_map (test_step_names c.pickle_id) c.test_steps)
    ∙ (λ i. run_known first es pass c.test_run_started_id i || (here i || steps_known first es pass c.pickle_id c.test_steps i))
    ∙ right (knows_run (summary_of_lines first es) c.test_run_started_id) (is_some (find_pickle (declarations_in es) c.pickle_id)) (list_all (knows_step (summary_of_lines first es) c.pickle_id) c.test_steps)
  where
    right : (x y z : Bool) → (not x || (not y || not z)) ≡ not (x && y && z)
    right true y z = both_known y z
    right false y z = refl

pub steps_are : (first : ℕ) (es : List Envelope) (c : TestCase) → has_steps_by (summary_of_lines first es) c ≡ has_steps_of_pickle es c
steps_are first es c = ap (λ o. option_map_or (λ (r : PickleRow). same_texts r.steps (pickle_step_ids c)) o false) (row_is es c.pickle_id) ∙ go (pickle_in c.pickle_id es)
  where
    go : (o : Option Pickle) → option_map_or (λ (r : PickleRow). same_texts r.steps (pickle_step_ids c)) (option_map pickle_row o) false ≡ option_map_or (λ (p : Pickle). same_texts (ids_of p) (pickle_step_ids c)) o false
    go None = refl
    go (Some p) = refl
