-- Who declares a name.
use Rattle.std.proofs.Common.{◌≡◌, ℕ, refl, sym, ap, ◌∙◌, List, [], ◌∷◌, Option, Some, true, false, Bool, map, arith, not, ◌==◌}
use Rattle.std.specs.Prelude.{count_by, find, is_some, nat_lt}
use Rattle.std.specs.List.{list_any, filter_map}
use Rattle.std.specs.Option.{option_map_or}
use Rattle.std.specs.Str.{bytes_eq}
use Rattle.std.proofs.lemmas.Bool.Decides.{nat_tests}
use Rattle.cm_stream.specs.Texts.{Utf8}
use Rattle.cm_stream.specs.References.{Name, SourceOf, DocumentOf, PickleNamed, PickleStep, Case, Step, Run, Attempt, RunHook, same_name, declares_it, times_declared, if_any, as_source, as_document, as_pickle, as_case, as_start, as_run_hook}
use Rattle.cm_envelope.specs.declared.envelope.Envelope.{Envelope}
use Rattle.cm_envelope.specs.declared.envelope.Envelope.TheVariants as envelope
use Rattle.cm_envelope.specs.declared.pickle.PickleStep as pickle_step
use Rattle.cm_envelope.specs.declared.envelope.TestStep.{TestStep}
use Rattle.cm_envelope.specs.declared.envelope.Source.{Source}
use Rattle.cm_envelope.specs.declared.envelope.GherkinDocument.{GherkinDocument}
use Rattle.cm_envelope.specs.declared.pickle.Pickle.{Pickle}
use Rattle.cm_envelope.specs.declared.envelope.TestCase.{TestCase}
use Rattle.cm_envelope.specs.declared.envelope.TestCaseStarted.{TestCaseStarted}
use Rattle.cm_envelope.specs.declared.envelope.TestRunHookStarted.{TestRunHookStarted}
use Rattle.cm_stream.proofs.Lists.{or_no, count_none, none_counted, found_any, any_found}
use Rattle.cm_stream.proofs.Found.{FoundAt, found_at}

-- the ids of a case's test steps
abbrev pub step_ids : TestCase → List Utf8
step_ids c = map (λ s. s.id) c.test_steps

abbrev pub is_of : Utf8 → TestCaseStarted → Bool
is_of a s = bytes_eq a s.id

-- a name that none of these is
pub none_of : {X : Type 0} (name : Name) (f : X → Name) (xs : List X) → ((x : X) → same_name name (f x) ≡ false) → list_any (same_name name) (map f xs) ≡ false
none_of name f [] h = refl
none_of name f (x ∷ xs) h = rw (h x, none_of name f xs h) refl

pub declares_source : (id : Utf8) (e : Envelope) → declares_it (SourceOf id) e ≡ option_map_or (λ x. bytes_eq id x.uri) (as_source e) false
declares_source id (envelope.Source x) = or_no (bytes_eq id x.uri)
declares_source id (envelope.Pickle p) = none_of (SourceOf id) (λ (s : pickle_step.PickleStep). PickleStep p.id s.id) p.steps (λ s. refl)
declares_source id (envelope.TestCase c) = none_of (SourceOf id) (λ (s : TestStep). Step c.id s.id) c.test_steps (λ s. refl)
declares_source id (envelope.TestRunStarted r) = none_of (SourceOf id) Run (if_any r.id) (λ s. refl)
declares_source id _ = refl

pub declares_document : (id : Utf8) (e : Envelope) → declares_it (DocumentOf id) e ≡ option_map_or (λ x. bytes_eq id x.uri) (as_document e) false
declares_document id (envelope.GherkinDocument x) = or_no (bytes_eq id x.uri)
declares_document id (envelope.Pickle p) = none_of (DocumentOf id) (λ (s : pickle_step.PickleStep). PickleStep p.id s.id) p.steps (λ s. refl)
declares_document id (envelope.TestCase c) = none_of (DocumentOf id) (λ (s : TestStep). Step c.id s.id) c.test_steps (λ s. refl)
declares_document id (envelope.TestRunStarted r) = none_of (DocumentOf id) Run (if_any r.id) (λ s. refl)
declares_document id _ = refl

pub declares_pickle : (id : Utf8) (e : Envelope) → declares_it (PickleNamed id) e ≡ option_map_or (λ x. bytes_eq id x.id) (as_pickle e) false
declares_pickle id (envelope.Pickle p) = rw (none_of (PickleNamed id) (λ (s : pickle_step.PickleStep). PickleStep p.id s.id) p.steps (λ s. refl)) (or_no (bytes_eq id p.id))
declares_pickle id (envelope.TestCase c) = none_of (PickleNamed id) (λ (s : TestStep). Step c.id s.id) c.test_steps (λ s. refl)
declares_pickle id (envelope.TestRunStarted r) = none_of (PickleNamed id) Run (if_any r.id) (λ s. refl)
declares_pickle id _ = refl

pub declares_case : (id : Utf8) (e : Envelope) → declares_it (Case id) e ≡ option_map_or (λ x. bytes_eq id x.id) (as_case e) false
declares_case id (envelope.Pickle p) = none_of (Case id) (λ (s : pickle_step.PickleStep). PickleStep p.id s.id) p.steps (λ s. refl)
declares_case id (envelope.TestCase c) = rw (none_of (Case id) (λ (s : TestStep). Step c.id s.id) c.test_steps (λ s. refl)) (or_no (bytes_eq id c.id))
declares_case id (envelope.TestRunStarted r) = none_of (Case id) Run (if_any r.id) (λ s. refl)
declares_case id _ = refl

pub declares_attempt : (id : Utf8) (e : Envelope) → declares_it (Attempt id) e ≡ option_map_or (λ x. bytes_eq id x.id) (as_start e) false
declares_attempt id (envelope.Pickle p) = none_of (Attempt id) (λ (s : pickle_step.PickleStep). PickleStep p.id s.id) p.steps (λ s. refl)
declares_attempt id (envelope.TestCase c) = none_of (Attempt id) (λ (s : TestStep). Step c.id s.id) c.test_steps (λ s. refl)
declares_attempt id (envelope.TestRunStarted r) = none_of (Attempt id) Run (if_any r.id) (λ s. refl)
declares_attempt id (envelope.TestCaseStarted x) = or_no (bytes_eq id x.id)
declares_attempt id _ = refl

pub declares_run_hook : (id : Utf8) (e : Envelope) → declares_it (RunHook id) e ≡ option_map_or (λ x. bytes_eq id x.id) (as_run_hook e) false
declares_run_hook id (envelope.Pickle p) = none_of (RunHook id) (λ (s : pickle_step.PickleStep). PickleStep p.id s.id) p.steps (λ s. refl)
declares_run_hook id (envelope.TestCase c) = none_of (RunHook id) (λ (s : TestStep). Step c.id s.id) c.test_steps (λ s. refl)
declares_run_hook id (envelope.TestRunStarted r) = none_of (RunHook id) Run (if_any r.id) (λ s. refl)
declares_run_hook id (envelope.TestRunHookStarted x) = or_no (bytes_eq id x.id)
declares_run_hook id _ = refl

-- what is declared once is declared by an envelope
pub same_any : {X : Type 0} (p q : X → Bool) → ((x : X) → p x ≡ q x) → (xs : List X) → list_any p xs ≡ list_any q xs
same_any p q h [] = refl
same_any p q h (x ∷ xs) = rw (h x, same_any p q h xs) refl

pub is_any : {X : Type 0} (p : X → Bool) (xs : List X) → count_by p xs ≡ 1 → list_any p xs ≡ true
is_any {X} p xs one = go (list_any p xs) refl
  where
    go : (b : Bool) → list_any p xs ≡ b → list_any p xs ≡ true
    go true e = e
    go false e = let zero_times = none_counted p xs e in absurd (omega (arith, zero_times, one))

pub declarer : {Y : Type 0} (name : Name) (h : Envelope → Option Y) (p : Y → Bool) → ((e : Envelope) → declares_it name e ≡ option_map_or p (h e) false)
    → (before : List Envelope) → times_declared name before ≡ 1 → FoundAt h p before
declarer name h p same before one = found_at h p before (sym (same_any (declares_it name) (λ e. option_map_or p (h e) false) same before) ∙ is_any (declares_it name) before one)

-- what an envelope of a kind is
pub source_is : (e : Envelope) (x : Source) → as_source e ≡ Some x → e ≡ envelope.Source x
source_is (envelope.Source y) x h = cc
source_is _ x h = cc

pub document_is : (e : Envelope) (x : GherkinDocument) → as_document e ≡ Some x → e ≡ envelope.GherkinDocument x
document_is (envelope.GherkinDocument y) x h = cc
document_is _ x h = cc

pub pickle_is : (e : Envelope) (x : Pickle) → as_pickle e ≡ Some x → e ≡ envelope.Pickle x
pickle_is (envelope.Pickle y) x h = cc
pickle_is _ x h = cc

pub case_is : (e : Envelope) (x : TestCase) → as_case e ≡ Some x → e ≡ envelope.TestCase x
case_is (envelope.TestCase y) x h = cc
case_is _ x h = cc

pub start_is : (e : Envelope) (x : TestCaseStarted) → as_start e ≡ Some x → e ≡ envelope.TestCaseStarted x
start_is (envelope.TestCaseStarted y) x h = cc
start_is _ x h = cc

pub run_hook_is : (e : Envelope) (x : TestRunHookStarted) → as_run_hook e ≡ Some x → e ≡ envelope.TestRunHookStarted x
run_hook_is (envelope.TestRunHookStarted y) x h = cc
run_hook_is _ x h = cc

counted : {X : Type 0} (p : X → Bool) (xs : List X) → ((count_by p xs == 0) ≡ not (list_any p xs)) × (nat_lt 0 (count_by p xs) ≡ list_any p xs)
counted {X} p xs = go (list_any p xs) refl
  where
    some : (n : ℕ) → (n ≡ 0 → ⊥) → ((n == 0) ≡ false) × (nat_lt 0 n ≡ true)
    some n h = (grind (arith, nat_tests), grind (arith, nat_tests))

    go : (b : Bool) → list_any p xs ≡ b → ((count_by p xs == 0) ≡ not (list_any p xs)) × (nat_lt 0 (count_by p xs) ≡ list_any p xs)
    go false e = let none = none_counted p xs e in rw (e, none) (refl, refl)
    go true e =
        let k = some (count_by p xs) (λ z. let no_way = count_none p xs z in cc) in
        (k.0 ∙ ap not (sym e), k.1 ∙ sym e)

-- whether a name is declared, by what is found
pub known : {Y : Type 0} (name : Name) (h : Envelope → Option Y) (p : Y → Bool) → ((e : Envelope) → declares_it name e ≡ option_map_or p (h e) false) → (es : List Envelope)
    → ((times_declared name es == 0) ≡ not (is_some (find p (filter_map h es)))) × (nat_lt 0 (times_declared name es) ≡ is_some (find p (filter_map h es)))
known name h p same es =
    let k = counted (declares_it name) es in
    let any : list_any (declares_it name) es ≡ is_some (find p (filter_map h es)) = same_any (declares_it name) (λ x. option_map_or p (h x) false) same es ∙ sym (any_found h p es) ∙ sym (found_any p (filter_map h es)) in
    (k.0 ∙ ap not any, k.1 ∙ any)
