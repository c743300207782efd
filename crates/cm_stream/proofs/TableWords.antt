-- What the table of lines without a fault says of attempts and of cases, in the words of the lines.
use Rattle.std.proofs.Common.{◌≡◌, ℕ, refl, sym, ap, ◌∙◌, List, [], ◌∷◌, Option, Some, None, true, false, Bool, not, ◌&&◌, ◌==◌, map}
use Rattle.std.specs.Prelude.{find, is_some, if◌then◌else◌}
use Rattle.std.specs.List.{list_all, AllByRecursion}
use Rattle.std.specs.Option.{option_map, option_map_or, option_and_then}
use Rattle.std.specs.Str.{bytes_eq}
use Rattle.std.proofs.lemmas.List.Folds.{list_all-map}
use Rattle.cm_attempt.specs.Table.{CaseRow, Table, has_text, has_repeat, has_step, find_case as case_in, find_attempt, is_good_case as is_good_row, is_good_status, status_of_last, reported_status, open_count}
use Rattle.cm_attempt.specs.Calls as call
use Rattle.cm_attempt.specs.Calls.{Call, StartedAttempt, last_of, result_of}
use Rattle.cm_attempt.specs.Worst.{worst_of}
use Rattle.cm_attempt.specs.declared.status.Policy.{Policy}
use Rattle.cm_attempt.specs.declared.status.Status.{Status}
use Rattle.cm_attempt.proofs.Tracked.{Tracked, AttemptIs, unstarted, begun}
use Rattle.cm_attempt.proofs.NextCall.{steps_are}
use Rattle.cm_attempt.proofs.Accepted.{tracked, its_steps, counts_open, has_cases, reports}
use Rattle.cm_stream.specs.Texts.{Utf8}
use Rattle.cm_stream.specs.Calls.{calls_of}
use Rattle.cm_stream.specs.Checks.{steps_of_attempt}
use Rattle.cm_stream.specs.Record.{table_of_envelopes}
use Rattle.cm_stream.specs.References.{cases, starts, starts_of, is_ended, is_final, statuses, is_good_case}
use Rattle.cm_envelope.specs.declared.envelope.Envelope.{Envelope}
use Rattle.cm_envelope.specs.declared.envelope.TestCase.{TestCase}
use Rattle.cm_envelope.specs.declared.envelope.TestCaseStarted.{TestCaseStarted}
use Rattle.cm_stream.proofs.Lists.{or_false, none_counts, none_or_all}
use Rattle.cm_stream.proofs.Found.{bytes_same, by_id}
use Rattle.cm_stream.proofs.CallWords.{start_told, starts_told, starts_of_told, attempt_steps_told, ended_told, final_told, statuses_told, case_ids}
use Rattle.cm_stream.proofs.CallChecks.{start_seen}
use Rattle.cm_stream.specs.FaultlessLines.{TablesAgreeBy}
use Rattle.cm_stream.specs.OnePass.{reads}
use Rattle.cm_stream.proofs.TableSteps.{AreAccepted, none_is_refused}
use Rattle.cm_stream.proofs.Declared.{is_of}

-- ---- attempts

attempt_by_row : (calls : List Call) (t : Table) (a : Utf8) → AttemptIs calls t a → is_some (find_attempt t a) ≡ is_some (call.start_of a calls)
attempt_by_row calls t a (unstarted n u) = rw (n, u.start) refl
attempt_by_row calls t a (begun row f b) = rw (f, b.is_start) refl

-- an attempt of the table is one that was started
pub attempt_told : (first : ℕ) (es : List Envelope) → AreAccepted first es → (a : Utf8) → is_some (find_attempt (table_of_envelopes first es) a) ≡ is_some (find (is_of a) (starts es))
attempt_told first es accepted a =
    attempt_by_row (calls_of es) (table_of_envelopes first es) a ((tracked first (calls_of es) (table_of_envelopes first es) accepted).of_attempts a) ∙ start_seen a es

step_by_row : (calls : List Call) (t : Table) → Tracked calls t → (a step : Utf8) → AttemptIs calls t a → has_step t a step ≡ has_text step (call.steps_of_attempt a calls)
step_by_row calls t h a step (unstarted n u) = rw (n, u.start) refl
step_by_row calls t h a step (begun row f b) =
    ap (λ o. option_map_or (λ r. has_text step (option_map_or (λ (c : CaseRow). c.steps) (case_in t r.case_id) [])) o false) f
    ∙ ap (has_text step) (steps_are calls t a row b ∙ sym (its_steps calls t h a row b))

-- the table has the steps of the attempt's case
pub step_told : (first : ℕ) (es : List Envelope) → AreAccepted first es → (a step : Utf8) → has_step (table_of_envelopes first es) a step ≡ has_text step (steps_of_attempt a es)
step_told first es accepted a step =
    let h = tracked first (calls_of es) (table_of_envelopes first es) accepted in
    step_by_row (calls_of es) (table_of_envelopes first es) h a step (h.of_attempts a) ∙ ap (has_text step) (attempt_steps_told a es)

-- ---- attempts that are open

all_ended : (es : List Envelope) → list_all (λ (s : StartedAttempt). call.is_ended s.id (calls_of es)) (call.starts (calls_of es)) ≡ list_all (λ (s : TestCaseStarted). is_ended s.id es) (starts es)
all_ended es = ap (list_all (λ (s : StartedAttempt). call.is_ended s.id (calls_of es))) (starts_told es) ∙ go (starts es)
  where
    go : (ss : List TestCaseStarted) → list_all (λ (s : StartedAttempt). call.is_ended s.id (calls_of es)) (map start_told ss) ≡ list_all (λ (s : TestCaseStarted). is_ended s.id es) ss
    go [] = refl
    go (s ∷ ss) = λ i. ended_told s.id es i && go ss i

-- no attempt of the table is open exactly if each is finished
pub none_open : (first : ℕ) (es : List Envelope) → AreAccepted first es → (open_count (table_of_envelopes first es) == 0) ≡ list_all (λ (s : TestCaseStarted). is_ended s.id es) (starts es)
none_open first es accepted =
    ap (λ n. n == 0) (counts_open first (calls_of es) (table_of_envelopes first es) accepted)
    ∙ none_counts (λ (s : StartedAttempt). not (call.is_ended s.id (calls_of es))) (call.starts (calls_of es))
    ∙ none_or_all (λ (s : StartedAttempt). not (call.is_ended s.id (calls_of es))) (λ (s : StartedAttempt). call.is_ended s.id (calls_of es)) (λ s. refl) (call.starts (calls_of es))
    ∙ all_ended es

-- ---- the results of cases

-- a case without a result isn't good
abbrev is_good : Policy → Option Status → Bool
is_good policy o = option_map_or (is_good_status policy) o false

past : (x : CaseRow) (xs ys : List CaseRow) → has_text x.id (map (λ (c : CaseRow). c.id) ys) ≡ false → AllByRecursion (λ (y : CaseRow). find (λ (z : CaseRow). bytes_eq y.id z.id) xs ≡ Some y) ys
    → AllByRecursion (λ (y : CaseRow). find (λ (z : CaseRow). bytes_eq y.id z.id) (x ∷ xs) ≡ Some y) ys
past x xs [] none h = tt
past x xs (y ∷ ys) none h =
    let parts = or_false (bytes_eq x.id y.id) (has_text x.id (map (λ (c : CaseRow). c.id) ys)) none in
    let other : bytes_eq y.id x.id ≡ false = by_id y.id x.id (λ k. k) (λ k. let yes_too : bytes_eq x.id y.id ≡ true = ap (bytes_eq x.id) k ∙ bytes_same x.id in cc) in
    (rw other h.0, past x xs ys parts.1 h.1)

-- among distinct ids each row is found by its own
found_itself : (xs : List CaseRow) → has_repeat (map (λ (c : CaseRow). c.id) xs) ≡ false → AllByRecursion (λ (x : CaseRow). find (λ (z : CaseRow). bytes_eq x.id z.id) xs ≡ Some x) xs
found_itself [] h = tt
found_itself (x ∷ xs) h =
    let parts = or_false (has_text x.id (map (λ (c : CaseRow). c.id) xs)) (has_repeat (map (λ (c : CaseRow). c.id) xs)) h in
    (rw (bytes_same x.id) refl, past x xs xs parts.0 (found_itself xs parts.1))

-- a row is good exactly if what is reported of its case is
good_by_report : (policy : Policy) (t : Table) (cs : List CaseRow) → AllByRecursion (λ (c : CaseRow). case_in t c.id ≡ Some c) cs → list_all (is_good_row policy) cs ≡ list_all (λ (c : CaseRow). is_good policy (reported_status t c.id)) cs
good_by_report policy t [] h = refl
good_by_report policy t (c ∷ cs) h =
    let here : is_good_row policy c ≡ is_good policy (reported_status t c.id) = ap (λ o. is_good policy (option_and_then (λ (r : CaseRow). status_of_last r.last) o)) (sym h.0) in
    λ i. here i && good_by_report policy t cs h.1 i

last_map : {X Y : Type 0} (f : X → Y) (xs : List X) → last_of (map f xs) ≡ option_map f (last_of xs)
last_map f [] = refl
last_map f (x ∷ []) = refl
last_map f (x ∷ y ∷ more) = last_map f (y ∷ more)

good_result : (policy : Policy) (es : List Envelope) (c : TestCase) → is_good policy (result_of c.id (calls_of es)) ≡ is_good_case policy es c
good_result policy es c =
    ap (λ o. is_good policy (option_and_then (call.final_status (calls_of es)) o)) (ap last_of (starts_of_told c.id es) ∙ last_map start_told (starts_of c.id es))
    ∙ go (last_of (starts_of c.id es))
  where
    both : (b : Bool) (worst : Status) → is_good policy (if b then Some worst else None) ≡ (b && is_good_status policy worst)
    both true worst = refl
    both false worst = refl

    go : (o : Option TestCaseStarted) → is_good policy (option_and_then (call.final_status (calls_of es)) (option_map start_told o))
        ≡ option_map_or (λ (s : TestCaseStarted). is_final s.id es && is_good_status policy (worst_of (statuses s.id es))) o false
    go None = refl
    go (Some s) = (λ i. is_good policy (if final_told s.id es i then Some (worst_of (statuses_told s.id es i)) else None)) ∙ both (is_final s.id es) (worst_of (statuses s.id es))

same_all : {X : Type 0} (p q : X → Bool) → ((x : X) → p x ≡ q x) → (xs : List X) → list_all p xs ≡ list_all q xs
same_all p q h [] = refl
same_all p q h (x ∷ xs) = λ i. h x i && same_all p q h xs i

-- the cases of the table are good exactly if those of the lines are
pub good_cases : (policy : Policy) (first : ℕ) (es : List Envelope) → AreAccepted first es → list_all (is_good_row policy) (table_of_envelopes first es).cases ≡ list_all (is_good_case policy es) (cases es)
good_cases policy first es accepted =
    let t = table_of_envelopes first es in
    let good : Utf8 → Bool = λ id. is_good policy (reported_status t id) in
    let itself = found_itself t.cases (tracked first (calls_of es) t accepted).cases_distinct in
    good_by_report policy t t.cases itself
    ∙ sym (list_all-map good (λ (c : CaseRow). c.id) t.cases)
    ∙ ap (list_all good) (has_cases first (calls_of es) t accepted ∙ case_ids es)
    ∙ list_all-map good (λ (c : TestCase). c.id) (cases es)
    ∙ same_all (λ (c : TestCase). good c.id) (is_good_case policy es) (λ c. ap (is_good policy) (reports first (calls_of es) t accepted c.id) ∙ good_result policy es c) (cases es)

pub lines_agree : TablesAgreeBy reads
lines_agree settings es none =
    let first = settings.first_attempt in
    let accepted = none_is_refused settings es none in
    record {
      attempts = attempt_told first es accepted;
      steps = step_told first es accepted;
      none_open = none_open first es accepted;
      good_cases = λ policy. good_cases policy first es accepted;
    }
