-- Lines that pass their checks declare each name once, and refer to what is declared.
use Rattle.std.proofs.Common.{◌≡◌, ℕ, zero, suc, ◌≤◌, refl, sym, ap, ◌∙◌, List, [], ◌∷◌, ◌++◌, Option, Some, None, true, false, Bool, append_assoc, append-nil, subst, ◌||◌, ◌==◌, map, length, arith}
use Rattle.std.specs.Prelude.{nat_lt, count_by}
use Rattle.std.specs.List.{AllByRecursion, list_any, flat_map, filter}
use Rattle.std.proofs.lemmas.List.Folds.{list_any-append}
use Rattle.std.proofs.lemmas.List.Sums.{length-filter}
use Rattle.std.proofs.lemmas.Bool.Decides.{nat_tests}
use Rattle.cm_stream.specs.Texts.{Utf8}
use Rattle.cm_stream.specs.References.{Name, SourceOf, DocumentOf, PickleNamed, PickleStep, Definition, HookNamed, Case, Step, Run, Attempt, RunHook, same_name, declares, declares_it, times_declared, refers, if_any, is_run_started, has_run_started}
use Rattle.cm_stream.specs.Good.{has_same_names, ReferencesGood}
use Rattle.cm_stream.specs.Checks.{declares_again}
use Rattle.cm_envelope.specs.declared.envelope.Envelope.{Envelope}
use Rattle.cm_envelope.specs.declared.envelope.Envelope.TheVariants as envelope
use Rattle.cm_envelope.specs.declared.pickle.PickleStep as pickle_step
use Rattle.cm_envelope.specs.declared.envelope.TestStep.{TestStep}
use Rattle.cm_envelope.specs.declared.envelope.TestRunStarted.{TestRunStarted}
use Rattle.cm_stream.proofs.Lists.{or_false, and_true, any_front, any_back, count_none}
use Rattle.cm_stream.proofs.Found.{bytes_same, bytes_are}
use Rattle.cm_stream.proofs.Declared.{none_of}
use Rattle.cm_stream.proofs.Refuted.{declared_append, names_after, cut_at}
use Rattle.cm_stream.proofs.Passing.{LinePasses, AllPass, front_passes, last_passes, by_lines, no_unknown}

-- ---- names

pub names_are : (a b : Name) → same_name a b ≡ true → a ≡ b
names_are (SourceOf a) (SourceOf b) h = ap SourceOf (bytes_are a b h)
names_are (DocumentOf a) (DocumentOf b) h = ap DocumentOf (bytes_are a b h)
names_are (PickleNamed a) (PickleNamed b) h = ap PickleNamed (bytes_are a b h)
names_are (PickleStep p a) (PickleStep q b) h =
    let k = and_true (_) (_) h in
    let one : p ≡ q = bytes_are p q k.0 in
    let two : a ≡ b = bytes_are a b k.1 in
    cc
names_are (Definition a) (Definition b) h = ap Definition (bytes_are a b h)
names_are (HookNamed a) (HookNamed b) h = ap HookNamed (bytes_are a b h)
names_are (Case a) (Case b) h = ap Case (bytes_are a b h)
names_are (Step c a) (Step d b) h =
    let k = and_true (_) (_) h in
    let one : c ≡ d = bytes_are c d k.0 in
    let two : a ≡ b = bytes_are a b k.1 in
    cc
names_are (Run a) (Run b) h = ap Run (bytes_are a b h)
names_are (Attempt a) (Attempt b) h = ap Attempt (bytes_are a b h)
names_are (RunHook a) (RunHook b) h = ap RunHook (bytes_are a b h)
names_are _ _ h = cc

pub name_same : (a : Name) → same_name a a ≡ true
name_same (SourceOf a) = bytes_same a
name_same (DocumentOf a) = bytes_same a
name_same (PickleNamed a) = bytes_same a
name_same (PickleStep p a) = rw (bytes_same p) (bytes_same a)
name_same (Definition a) = bytes_same a
name_same (HookNamed a) = bytes_same a
name_same (Case a) = bytes_same a
name_same (Step c a) = rw (bytes_same c) (bytes_same a)
name_same (Run a) = bytes_same a
name_same (Attempt a) = bytes_same a
name_same (RunHook a) = bytes_same a

not_same_back : (a b : Name) → same_name a b ≡ false → same_name b a ≡ false
not_same_back a b h = go (same_name b a) refl
  where
    go : (x : Bool) → same_name b a ≡ x → same_name b a ≡ false
    go false e = e
    go true e =
        let same : b ≡ a = names_are b a e in
        let yes : same_name a b ≡ true = ap (same_name a) same ∙ name_same a in
        cc

any_weaker : {X : Type 0} (p q : X → Bool) → ((x : X) → p x ≡ false → q x ≡ false) → (xs : List X) → list_any p xs ≡ false → list_any q xs ≡ false
any_weaker p q f [] h = refl
any_weaker p q f (x ∷ xs) h = let k = or_false (p x) (list_any p xs) h in rw (f x k.0, any_weaker p q f xs k.1) refl

any_parts : {X : Type 0} (p q : X → Bool) (xs : List X) → list_any (λ x. p x || q x) xs ≡ false → (list_any p xs ≡ false) × (list_any q xs ≡ false)
any_parts p q [] h = (refl, refl)
any_parts p q (x ∷ xs) h =
    let k = or_false (p x || q x) (list_any (λ y. p y || q y) xs) h in
    let here = or_false (p x) (q x) k.0 in
    let rest = any_parts p q xs k.1 in
    (rw (here.0, rest.0) refl, rw (here.1, rest.1) refl)

names_join : (ns ms : List Name) → has_same_names ns ≡ false → has_same_names ms ≡ false → list_any (λ m. list_any (same_name m) ns) ms ≡ false → has_same_names (ns ++ ms) ≡ false
names_join [] ms a b h = b
names_join (n ∷ ns) ms a b h =
    let k = or_false (list_any (λ later. same_name later n) ns) (has_same_names ns) a in
    let parts = any_parts (λ m. same_name m n) (λ m. list_any (same_name m) ns) ms h in
    rw (list_any-append (λ later. same_name later n) ns ms, k.0, parts.0, names_join ns ms k.1 b parts.1) refl

-- ---- what a line declares is new

pub record IsNew (before : List Envelope) (e : Envelope) : Type 0 where
  pub own : has_same_names (declares e) ≡ false
  pub new : list_any (λ m. list_any (same_name m) (flat_map declares before)) (declares e) ≡ false

declared_nowhere : (name : Name) (es : List Envelope) → list_any (declares_it name) es ≡ false → list_any (same_name name) (flat_map declares es) ≡ false
declared_nowhere name [] h = refl
declared_nowhere name (e ∷ es) h =
    let k = or_false (declares_it name e) (list_any (declares_it name) es) h in
    rw (list_any-append (same_name name) (declares e) (flat_map declares es), k.0, declared_nowhere name es k.1) refl

pub not_counted : (p : Envelope → Bool) (es : List Envelope) → nat_lt 0 (count_by p es) ≡ false → list_any p es ≡ false
not_counted p es h = count_none p es (go (count_by p es) h)
  where
    go : (n : ℕ) → nat_lt 0 n ≡ false → n ≡ 0
    go n k = grind (arith, nat_tests)

pub is_new : (before : List Envelope) (e : Envelope) → declares_again before e ≡ false → IsNew before e
is_new before e h =
    let k = or_false (has_same_names (declares e)) (list_any (λ name. nat_lt 0 (times_declared name before)) (declares e)) h in
    record {
      own = k.0;
      new = any_weaker (λ name. nat_lt 0 (times_declared name before)) (λ m. list_any (same_name m) (flat_map declares before)) (λ m n. declared_nowhere m before (not_counted (declares_it m) before n)) (declares e) k.1;
    }

declares_run : (id : Utf8) (e : Envelope) → is_run_started e ≡ false → declares_it (Run id) e ≡ false
declares_run id (envelope.Pickle p) h = none_of (Run id) (λ (s : pickle_step.PickleStep). PickleStep p.id s.id) p.steps (λ s. refl)
declares_run id (envelope.TestCase c) h = none_of (Run id) (λ (s : TestStep). Step c.id s.id) c.test_steps (λ s. refl)
declares_run id (envelope.TestRunStarted r) h = cc
declares_run id _ h = refl

new_run : (before : List Envelope) (r : TestRunStarted) → has_run_started before ≡ false → IsNew before (envelope.TestRunStarted r)
new_run before r h = record { own = alone r.id; new = none r.id }
  where
    alone : (o : Option Utf8) → has_same_names (map Run (if_any o)) ≡ false
    alone None = refl
    alone (Some i) = refl

    none : (o : Option Utf8) → list_any (λ m. list_any (same_name m) (flat_map declares before)) (map Run (if_any o)) ≡ false
    none None = refl
    none (Some i) = rw (declared_nowhere (Run i) before (any_weaker is_run_started (declares_it (Run i)) (declares_run i) before h)) refl

nothing_new : (before : List Envelope) (e : Envelope) → declares e ≡ [] → IsNew before e
nothing_new before e h = record { own = ap has_same_names h; new = ap (list_any (λ m. list_any (same_name m) (flat_map declares before))) h }

pub new_here : (before : List Envelope) (e : Envelope) → LinePasses before e → IsNew before e
new_here before (envelope.Source s) h = is_new before (envelope.Source s) h.passes.0
new_here before (envelope.GherkinDocument d) h = is_new before (envelope.GherkinDocument d) (h.passes.1).0
new_here before (envelope.Pickle p) h = is_new before (envelope.Pickle p) ((h.passes.1).1).0
new_here before (envelope.StepDefinition d) h = is_new before (envelope.StepDefinition d) h.passes.0
new_here before (envelope.Hook x) h = is_new before (envelope.Hook x) h.passes.0
new_here before (envelope.TestCase c) h = is_new before (envelope.TestCase c) ((h.passes.1).1).0
new_here before (envelope.TestRunStarted r) h = new_run before r h.passes.0
new_here before (envelope.TestCaseStarted s) h = is_new before (envelope.TestCaseStarted s) ((h.passes.1).1).0
new_here before (envelope.ParseError p) h = nothing_new before (envelope.ParseError p) refl
new_here before (envelope.TestStepStarted s) h = nothing_new before (envelope.TestStepStarted s) refl
new_here before (envelope.TestStepFinished s) h = nothing_new before (envelope.TestStepFinished s) refl
new_here before (envelope.TestCaseFinished f) h = nothing_new before (envelope.TestCaseFinished f) refl
new_here before (envelope.TestRunFinished f) h = nothing_new before (envelope.TestRunFinished f) refl
new_here before (envelope.Attachment a) h = nothing_new before (envelope.Attachment a) refl
new_here before (envelope.TestRunHookStarted s) h = is_new before (envelope.TestRunHookStarted s) ((h.passes.1).1).0
new_here before (envelope.TestRunHookFinished f) h = nothing_new before (envelope.TestRunHookFinished f) refl
new_here before envelope.Other h = nothing_new before envelope.Other refl

-- ---- all names are distinct

pub all_distinct : (es : List Envelope) → AllPass es → has_same_names (flat_map declares es) ≡ false
all_distinct es pass = by_lines (λ xs. has_same_names (flat_map declares xs) ≡ false) refl step es pass
  where
    step : (xs : List Envelope) (e : Envelope) → AllPass (xs ++ e ∷ []) → has_same_names (flat_map declares xs) ≡ false → has_same_names (flat_map declares (xs ++ e ∷ [])) ≡ false
    step xs e h rec =
        let new = new_here xs e (last_passes xs e h) in
        let parts : flat_map declares (xs ++ e ∷ []) ≡ flat_map declares xs ++ declares e = declared_append xs (e ∷ []) ∙ ap (λ ns. flat_map declares xs ++ ns) (append-nil (declares e)) in
        ap has_same_names parts ∙ names_join (flat_map declares xs) (declares e) rec new.own new.new

-- a name that is among the first is not among the others
not_twice : (name : Name) (ns ms : List Name) → has_same_names (ns ++ ms) ≡ false → list_any (same_name name) ns ≡ true → list_any (same_name name) ms ≡ false
not_twice name ns ms h some =
    let at = cut_at (same_name name) ns some in
    let same : name ≡ at.here = names_are name at.here at.passes in
    let parts : has_same_names (at.front ++ (at.here ∷ (at.back ++ ms))) ≡ false =
    ap has_same_names (sym (append_assoc at.front (at.here ∷ at.back) ms)) ∙ ap (λ xs. has_same_names (xs ++ ms)) (sym at.cut) ∙ h in
    let none_later = (or_false _ _ (names_after at.front (at.here ∷ (at.back ++ ms)) parts)).0 in
    let others = any_back (λ later. same_name later at.here) at.back ms none_later in
    let turned : list_any (same_name at.here) ms ≡ false = any_weaker (λ later. same_name later at.here) (same_name at.here) (λ x k. not_same_back x at.here k) ms others in
    ap (λ n. list_any (same_name n) ms) same ∙ turned

pub at_most_once : (name : Name) (es : List Envelope) → has_same_names (flat_map declares es) ≡ false → times_declared name es ≤ 1
at_most_once name es h = kept es h
  where
    not_in : (xs : List Envelope) → list_any (same_name name) (flat_map declares xs) ≡ false → length (filter (declares_it name) xs) ≡ 0
    not_in [] k = refl
    not_in (x ∷ xs) k =
        let front : declares_it name x ≡ false = any_front (same_name name) (declares x) (flat_map declares xs) k in
        let back = any_back (same_name name) (declares x) (flat_map declares xs) k in
        rw front (not_in xs back)

    few : (xs : List Envelope) → has_same_names (flat_map declares xs) ≡ false → length (filter (declares_it name) xs) ≤ 1
    few [] k = omega arith
    few (x ∷ xs) k = go (declares_it name x) refl (few xs (names_after (declares x) (flat_map declares xs) k))
      where
        go : (b : Bool) → declares_it name x ≡ b → length (filter (declares_it name) xs) ≤ 1 → length (filter (declares_it name) (x ∷ xs)) ≤ 1
        go false e rec = let same : length (filter (declares_it name) (x ∷ xs)) ≡ length (filter (declares_it name) xs) = rw e refl in omega (arith, same, rec)
        go true e rec =
            let none = not_in xs (not_twice name (declares x) (flat_map declares xs) k e) in
            let more : length (filter (declares_it name) (x ∷ xs)) ≡ suc (length (filter (declares_it name) xs)) = rw e refl in
            omega (arith, none, more)

    kept : (xs : List Envelope) → has_same_names (flat_map declares xs) ≡ false → times_declared name xs ≤ 1
    kept xs k = omega (arith, few xs k, length-filter (declares_it name) xs)

-- ---- each reference names exactly one declaration

once : (before : List Envelope) → has_same_names (flat_map declares before) ≡ false → (names : List Name) → list_any (λ name. times_declared name before == 0) names ≡ false → AllByRecursion (λ name. times_declared name before ≡ 1) names
once before h [] k = tt
once before h (n ∷ ns) k =
    let p = or_false (times_declared n before == 0) (list_any (λ name. times_declared name before == 0) ns) k in
    (one (times_declared n before) p.0 (at_most_once n before h), once before h ns p.1)
  where
    one : (m : ℕ) → (m == 0) ≡ false → m ≤ 1 → m ≡ 1
    one zero a b = cc
    one (suc m) a b = omega (arith, b)

pub all_refer : (es : List Envelope) → AllPass es → ReferencesGood es
all_refer es pass before e after cut =
    let front : AllPass before = front_passes before (e ∷ after) (subst AllPass cut pass) in
    once before (all_distinct before front) (refers before e) (no_unknown before e (pass before e after cut))
