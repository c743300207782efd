-- The cases, attempts and moves of envelopes are those of their calls.
use Rattle.std.proofs.Common.{◌≡◌, refl, sym, ap, ◌∙◌, List, [], ◌∷◌, Option, Some, None, true, false, Bool, map, length, is_some, suc, not, ◌&&◌}
use Rattle.std.specs.Prelude.{find, filter, filter_map, option_map}
use Rattle.std.specs.List.{list_any, list_all, cons_option}
use Rattle.std.specs.Option.{option_map_or, option_and_then}
use Rattle.std.specs.Str.{bytes_eq}
use Rattle.cm_attempt.specs.Calls as call
use Rattle.cm_attempt.specs.Calls.{DeclaredCase, StartedAttempt, is_end}
use Rattle.cm_stream.specs.Texts.{Utf8}
use Rattle.cm_stream.specs.References.{as_case, as_start, cases, starts, starts_of, find_case, steps_of, move_of, moves, is_ended, retry_in, ends_of, is_retried, is_final, status_in, statuses}
use Rattle.cm_stream.specs.Checks.{steps_of_attempt}
use Rattle.cm_envelope.specs.declared.envelope.Envelope.{Envelope}
use Rattle.cm_envelope.specs.declared.envelope.Envelope.TheVariants as envelope
use Rattle.cm_envelope.specs.declared.envelope.TestCase.{TestCase}
use Rattle.cm_envelope.specs.declared.envelope.TestCaseStarted.{TestCaseStarted}
use Rattle.cm_stream.specs.Calls.{call_of, calls_of}
use Rattle.cm_stream.proofs.Lists.{find_map, map_twice}

-- ---- kept through two maps

kept_twice : {X Y Z : Type 0} (g : X → Option Y) (h : Y → Option Z) (k : X → Option Z) → ((x : X) → option_and_then h (g x) ≡ k x) → (xs : List X) → filter_map h (filter_map g xs) ≡ filter_map k xs
kept_twice g h k same [] = refl
kept_twice {X} {Y} {Z} g h k same (x ∷ xs) = go (g x) refl (kept_twice g h k same xs)
  where
    go : (o : Option Y) → g x ≡ o → filter_map h (filter_map g xs) ≡ filter_map k xs → filter_map h (filter_map g (x ∷ xs)) ≡ filter_map k (x ∷ xs)
    go None e rec =
        let none : None ≡ k x = sym (ap (option_and_then h) e) ∙ same x in
        rw (e, ← none) rec
    go (Some y) e rec =
        let told : h y ≡ k x = sym (ap (option_and_then h) e) ∙ same x in
        rw (e, told) (inner (k x))
      where
        inner : (o : Option Z) → cons_option o (filter_map h (filter_map g xs)) ≡ cons_option o (filter_map k xs)
        inner None = rec
        inner (Some z) = ap (λ zs. z ∷ zs) rec

kept_map : {X Y Z : Type 0} (k : X → Option Y) (f : Y → Z) (xs : List X) → filter_map (λ x. option_map f (k x)) xs ≡ map f (filter_map k xs)
kept_map k f [] = refl
kept_map {X} {Y} k f (x ∷ xs) = go (k x) refl (kept_map k f xs)
  where
    go : (o : Option Y) → k x ≡ o → filter_map (λ x. option_map f (k x)) xs ≡ map f (filter_map k xs) → filter_map (λ x. option_map f (k x)) (x ∷ xs) ≡ map f (filter_map k (x ∷ xs))
    go None e rec = rw e rec
    go (Some y) e rec = rw e (ap (λ ys. f y ∷ ys) rec)

filter_mapped : {X Y : Type 0} (f : X → Y) (p : Y → Bool) (xs : List X) → filter p (map f xs) ≡ map f (filter (λ x. p (f x)) xs)
filter_mapped f p [] = refl
filter_mapped f p (x ∷ xs) = go (p (f x)) refl (filter_mapped f p xs)
  where
    go : (b : Bool) → p (f x) ≡ b → filter p (map f xs) ≡ map f (filter (λ x. p (f x)) xs) → filter p (map f (x ∷ xs)) ≡ map f (filter (λ x. p (f x)) (x ∷ xs))
    go true e rec = rw e (ap (λ ys. f x ∷ ys) rec)
    go false e rec = rw e rec

-- ---- cases and starts

abbrev pub case_told : TestCase → DeclaredCase
case_told c = record { id = c.id; steps = map (λ s. s.id) c.test_steps }

abbrev pub start_told : TestCaseStarted → StartedAttempt
start_told s = record { id = s.id; case_id = s.test_case_id; number = s.attempt }

case_same : (e : Envelope) → option_and_then call.as_case (call_of e) ≡ option_map case_told (as_case e)
case_same (envelope.TestCase c) = refl
case_same (envelope.TestCaseStarted s) = refl
case_same (envelope.TestStepStarted s) = refl
case_same (envelope.TestStepFinished s) = refl
case_same (envelope.TestCaseFinished s) = refl
case_same _ = refl

start_same : (e : Envelope) → option_and_then call.as_start (call_of e) ≡ option_map start_told (as_start e)
start_same (envelope.TestCase c) = refl
start_same (envelope.TestCaseStarted s) = refl
start_same (envelope.TestStepStarted s) = refl
start_same (envelope.TestStepFinished s) = refl
start_same (envelope.TestCaseFinished s) = refl
start_same _ = refl

pub cases_told : (es : List Envelope) → call.cases (calls_of es) ≡ map case_told (cases es)
cases_told es = kept_twice call_of call.as_case (λ e. option_map case_told (as_case e)) case_same es ∙ kept_map as_case case_told es

pub starts_told : (es : List Envelope) → call.starts (calls_of es) ≡ map start_told (starts es)
starts_told es = kept_twice call_of call.as_start (λ e. option_map start_told (as_start e)) start_same es ∙ kept_map as_start start_told es

pub declared_told : (case : Utf8) (es : List Envelope) → call.declared_case case (calls_of es) ≡ option_map case_told (find_case case es)
declared_told case es = ap (find (λ (c : DeclaredCase). bytes_eq case c.id)) (cases_told es) ∙ find_map (λ c. bytes_eq case c.id) case_told (cases es)

pub start_of_told : (a : Utf8) (es : List Envelope) → call.start_of a (calls_of es) ≡ option_map start_told (find (λ s. bytes_eq a s.id) (starts es))
start_of_told a es = ap (find (λ (s : StartedAttempt). bytes_eq a s.id)) (starts_told es) ∙ find_map (λ s. bytes_eq a s.id) start_told (starts es)

pub starts_of_told : (case : Utf8) (es : List Envelope) → call.starts_of case (calls_of es) ≡ map start_told (starts_of case es)
starts_of_told case es = ap (filter (λ (s : StartedAttempt). bytes_eq case s.case_id)) (starts_told es) ∙ filter_mapped start_told (λ s. bytes_eq case s.case_id) (starts es)

steps_in : (o : Option TestCase) → option_map_or (λ (c : DeclaredCase). c.steps) (option_map case_told o) [] ≡ option_map_or (λ (c : TestCase). map (λ s. s.id) c.test_steps) o []
steps_in None = refl
steps_in (Some c) = refl

pub steps_told : (case : Utf8) (es : List Envelope) → call.steps_of_case case (calls_of es) ≡ steps_of case es
steps_told case es = ap (λ o. option_map_or (λ (c : DeclaredCase). c.steps) o []) (declared_told case es) ∙ steps_in (find_case case es)

pub attempt_steps_told : (a : Utf8) (es : List Envelope) → call.steps_of_attempt a (calls_of es) ≡ steps_of_attempt a es
attempt_steps_told a es = ap (λ o. option_map_or (λ (s : StartedAttempt). call.steps_of_case s.case_id (calls_of es)) o []) (start_of_told a es) ∙ go (find (λ s. bytes_eq a s.id) (starts es))
  where
    go : (o : Option TestCaseStarted) → option_map_or (λ (s : StartedAttempt). call.steps_of_case s.case_id (calls_of es)) (option_map start_told o) [] ≡ option_map_or (λ c. steps_of c es) (option_map (λ (s : TestCaseStarted). s.test_case_id) o) []
    go None = refl
    go (Some s) = steps_told s.test_case_id es

-- ---- what an attempt goes through

pub moves_told : (a : Utf8) (es : List Envelope) → call.moves a (calls_of es) ≡ moves a es
moves_told a es = kept_twice call_of (call.move_of a) (move_of a) (λ e. refl) es

pub ended_told : (a : Utf8) (es : List Envelope) → call.is_ended a (calls_of es) ≡ is_ended a es
ended_told a es = ap (list_any is_end) (moves_told a es)

pub statuses_told : (a : Utf8) (es : List Envelope) → call.statuses a (calls_of es) ≡ statuses a es
statuses_told a es = kept_twice call_of (call.status_in a) (status_in a) (λ e. refl) es

pub ends_told : (a : Utf8) (es : List Envelope) → call.ends_of a (calls_of es) ≡ ends_of a es
ends_told a es = kept_twice call_of (call.retry_in a) (retry_in a) (λ e. refl) es

pub final_told : (a : Utf8) (es : List Envelope) → call.is_final a (calls_of es) ≡ is_final a es
final_told a es = ap (list_any not) (ends_told a es)

-- ---- ids, and each start

map_long : {X Y : Type 0} (f : X → Y) (xs : List X) → length (map f xs) ≡ length xs
map_long f [] = refl
map_long f (x ∷ xs) = ap (λ n. suc n) (map_long f xs)

pub some_mapped : {X Y : Type 0} (f : X → Y) (o : Option X) → is_some (option_map f o) ≡ is_some o
some_mapped f None = refl
some_mapped f (Some x) = refl

pub case_ids : (es : List Envelope) → map (λ (c : DeclaredCase). c.id) (call.cases (calls_of es)) ≡ map (λ (c : TestCase). c.id) (cases es)
case_ids es = ap (map (λ (c : DeclaredCase). c.id)) (cases_told es) ∙ map_twice (λ (c : DeclaredCase). c.id) case_told (cases es)

pub some_told : (case : Utf8) (es : List Envelope) → is_some (call.declared_case case (calls_of es)) ≡ is_some (find_case case es)
some_told case es = ap is_some (declared_told case es) ∙ some_mapped case_told (find_case case es)

pub long_told : (case : Utf8) (es : List Envelope) → length (call.starts_of case (calls_of es)) ≡ length (starts_of case es)
long_told case es = ap length (starts_of_told case es) ∙ map_long start_told (starts_of case es)

pub retried_told : (case : Utf8) (es : List Envelope) → list_all (λ (s : StartedAttempt). call.is_retried s.id (calls_of es)) (call.starts_of case (calls_of es)) ≡ list_all (λ (s : TestCaseStarted). is_retried s.id es) (starts_of case es)
retried_told case es = ap (list_all (λ (s : StartedAttempt). call.is_retried s.id (calls_of es))) (starts_of_told case es) ∙ go (starts_of case es)
  where
    go : (ss : List TestCaseStarted) → list_all (λ (s : StartedAttempt). call.is_retried s.id (calls_of es)) (map start_told ss) ≡ list_all (λ (s : TestCaseStarted). is_retried s.id es) ss
    go [] = refl
    go (s ∷ ss) = λ i. list_any (λ r. r) (ends_told s.id es i) && go ss i
