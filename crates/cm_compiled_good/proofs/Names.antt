-- What a pickle declares, no pickle before it declares, and it declares nothing twice.
use Rattle.std.proofs.Common.{◌≡◌, ℕ, ◌+◌, ◌<◌, ◌≤◌, List, [], ◌∷◌, false, map, length, refl, ap, ◌∙◌, arith, decimal}
use Rattle.std.specs.Prelude.{nat_lt}
use Rattle.std.specs.List.{list_any}
use Rattle.std.specs.Str.{bytes_eq}
use Rattle.gk_pickle.specs.declared.pickles.PickleStep as written
use Rattle.gk_pickle.specs.declared.pickles.Pickle.{Pickle}
use Rattle.cm_envelope.specs.declared.envelope.Envelope.{Envelope}
use Rattle.cm_envelope.specs.declared.envelope.Envelope.TheVariants as envelope
use Rattle.cm_envelope.specs.declared.pickle.PickleStep.{PickleStep}
use Rattle.cm_stream.specs.Texts.{Utf8}
use Rattle.cm_stream.specs.References.{Name, PickleNamed, PickleStep as StepOf, same_name, declares, declares_it, times_declared}
use Rattle.cm_stream.specs.Good.{has_same_names}
use Rattle.cm_stream.specs.Checks.{declares_again}
use Rattle.cm_stream.proofs.Declared.{none_of}
use Rattle.cm_stream.proofs.Found.{bytes_same}
use Rattle.cm_stream.proofs.Lists.{none_counted}
use Rattle.cm_read_back.specs.Pickles.{steps_read, pickle_read}
use Rattle.cm_compile.specs.Compiled.{id_count}
use Rattle.cm_compiled_good.proofs.Numbers.{decimals_differ_back, next_id, next_later}
use Rattle.cm_compiled_good.proofs.Written.{pickle_envelopes}

-- ---- no pickle before declares it

-- a name of another pickle
abbrev pub IsOf : Utf8 → Name → Type 0
IsOf id (PickleNamed a) = a ≡ id
IsOf id (StepOf a s) = a ≡ id
IsOf id _ = ⊥

other_pickle : (uri : List ℕ) (m first : ℕ) (p : Pickle) (name : Name) → IsOf (decimal m) name → first + length p.steps < m → m < 18446744073709551616
    → declares_it name (envelope.Pickle (pickle_read uri first p)) ≡ false
other_pickle uri m first p (PickleNamed a) h less small =
    let other : bytes_eq a (decimal (first + length p.steps)) ≡ false = ap (λ z. bytes_eq z (decimal (first + length p.steps))) h ∙ decimals_differ_back m (first + length p.steps) less small in
    let steps = none_of (PickleNamed a) (λ (s : PickleStep). StepOf (decimal (first + length p.steps)) s.id) (steps_read first p.steps) (λ s. refl) in
    rw (other, steps) refl
other_pickle uri m first p (StepOf a i) h less small =
    let other : bytes_eq a (decimal (first + length p.steps)) ≡ false = ap (λ z. bytes_eq z (decimal (first + length p.steps))) h ∙ decimals_differ_back m (first + length p.steps) less small in
    none_of (StepOf a i) (λ (s : PickleStep). StepOf (decimal (first + length p.steps)) s.id) (steps_read first p.steps) (λ s. rw other refl)
other_pickle uri m first p _ h less small = absurd h

pub new_name : (uri : List ℕ) (m first : ℕ) (ps : List Pickle) (name : Name) → IsOf (decimal m) name → next_id first ps ≤ m → m < 18446744073709551616
    → list_any (declares_it name) (pickle_envelopes uri first ps) ≡ false
new_name uri m first [] name h later small = refl
new_name uri m first (p ∷ ps) name h later small =
    let here = other_pickle uri m first p name h (omega (arith, next_later (first + id_count p) ps)) small in
    rw (here, new_name uri m (first + id_count p) ps name h later small) refl

-- ---- it declares nothing twice

step_absent : (pid : Utf8) (m first : ℕ) (ss : List written.PickleStep) → m < first → first + length ss ≤ 18446744073709551616
    → list_any (λ later. same_name later (StepOf pid (decimal m))) (map (λ (s : PickleStep). StepOf pid s.id) (steps_read first ss)) ≡ false
step_absent pid m first [] less small = refl
step_absent pid m first (s ∷ ss) less small =
    rw (bytes_same pid, decimals_differ_back first m less (omega arith), step_absent pid m (first + 1) ss (omega arith) (omega arith)) refl

steps_distinct : (pid : Utf8) (first : ℕ) (ss : List written.PickleStep) → first + length ss ≤ 18446744073709551616
    → has_same_names (map (λ (s : PickleStep). StepOf pid s.id) (steps_read first ss)) ≡ false
steps_distinct pid first [] small = refl
steps_distinct pid first (s ∷ ss) small = rw (step_absent pid first (first + 1) ss (omega arith) (omega arith), steps_distinct pid (first + 1) ss (omega arith)) refl

no_pickle_step : (a pid : Utf8) (ss : List PickleStep) → list_any (λ later. same_name later (PickleNamed a)) (map (λ (s : PickleStep). StepOf pid s.id) ss) ≡ false
no_pickle_step a pid [] = refl
no_pickle_step a pid (s ∷ ss) = no_pickle_step a pid ss

pub pickle_distinct : (uri : List ℕ) (first : ℕ) (p : Pickle) → first + length p.steps ≤ 18446744073709551616 → has_same_names (declares (envelope.Pickle (pickle_read uri first p))) ≡ false
pickle_distinct uri first p small =
    let pid = decimal (first + length p.steps) in
    rw (no_pickle_step pid pid (steps_read first p.steps), steps_distinct pid first p.steps small) refl

-- ---- it declares nothing again

none_again : (before : List Envelope) (pid : Utf8) → ((name : Name) → IsOf pid name → list_any (declares_it name) before ≡ false) → (ss : List PickleStep)
    → list_any (λ name. nat_lt 0 (times_declared name before)) (map (λ (s : PickleStep). StepOf pid s.id) ss) ≡ false
none_again before pid new [] = refl
none_again before pid new (s ∷ ss) =
    rw (none_counted (declares_it (StepOf pid s.id)) before (new (StepOf pid s.id) refl), none_again before pid new ss) refl

pub not_again : (uri : List ℕ) (first : ℕ) (p : Pickle) (before : List Envelope) → first + length p.steps ≤ 18446744073709551616
    → ((name : Name) → IsOf (decimal (first + length p.steps)) name → list_any (declares_it name) before ≡ false)
    → declares_again before (envelope.Pickle (pickle_read uri first p)) ≡ false
not_again uri first p before small new =
    let pid = decimal (first + length p.steps) in
    rw (pickle_distinct uri first p small, none_counted (declares_it (PickleNamed pid)) before (new (PickleNamed pid) refl), none_again before pid new (steps_read first p.steps)) refl
