-- The fault of an envelope's call is the first failed of the checks that the audit leaves to the record of attempts.
use Rattle.std.proofs.Common.{◌≡◌, ◌+◌, ℕ, arith, refl, sym, ap, ◌∙◌, List, [], ◌∷◌, Option, Some, None, true, false, Bool, not, ◌||◌, ◌==◌, map, length}
use Rattle.std.specs.Prelude.{find, is_some, nat_lt, slice_get, if◌then◌else◌}
use Rattle.std.specs.List.{list_any, list_all}
use Rattle.std.specs.Option.{option_map_or, option_and_then}
use Rattle.std.specs.Str.{bytes_eq}
use Rattle.std.proofs.lemmas.Bool.Decides.{nat_tests}
use Rattle.cm_attempt.specs.Table.{Table, has_text, has_repeat}
use Rattle.cm_attempt.specs.Calls as call
use Rattle.cm_attempt.specs.Calls.{table_after}
use Rattle.cm_attempt.specs.CallFaults as calls
use Rattle.cm_attempt.specs.CallFaults.{fault_of, step_fault}
use Rattle.cm_attempt.specs.declared.fault.TrackFault.{TrackFault}
use Rattle.cm_attempt.specs.declared.fault.TrackFault.TheVariants as track
use Rattle.cm_stream.specs.Texts.{Utf8}
use Rattle.cm_stream.specs.Findings as bad
use Rattle.cm_stream.specs.Findings.{Finding}
use Rattle.cm_stream.specs.References.{has_run_started, Attempt, Case, Step, same_name, declares, times_declared, step_names, as_case, as_start, cases, starts, starts_of, find_case, is_ended, is_retried}
use Rattle.cm_attempt.specs.Calls.{Move, StepStarted, StepFinished, Ended, all_moves}
use Rattle.cm_stream.specs.Good.{has_same_names, is_unknown}
use Rattle.cm_stream.specs.Checks.{◌if◌, ◌unsupported_if◌, has_steps_of_pickle, first_failed, refers_to_unknown, declares_again, is_next_move, steps_of_attempt, checks_of_by}
use Rattle.cm_attempt.specs.CallFaults.{same_move}
use Rattle.cm_stream.specs.CallFaults.{call_fault_finding, own_checks, OwnAreChecks}
use Rattle.cm_stream.specs.declared.laws.Reason.TheVariants as reason
use Rattle.cm_stream.proofs.Lists.{or_no}
use Rattle.cm_stream.proofs.Found.{bytes_same, eq_back}
use Rattle.cm_stream.proofs.Declared.{declares_attempt, declares_case, known, is_of, step_ids}
use Rattle.cm_stream.proofs.OneRow.{OnlyOne}
use Rattle.cm_stream.proofs.Steps.{step_known, step_unknown}
use Rattle.cm_attempt.proofs.Growing.{bytes_are, or_false}
use Rattle.cm_envelope.specs.declared.envelope.Envelope.{Envelope}
use Rattle.cm_envelope.specs.declared.envelope.Envelope.TheVariants as envelope
use Rattle.cm_envelope.specs.declared.envelope.TestCase.{TestCase}
use Rattle.cm_envelope.specs.declared.envelope.TestStep.{TestStep}
use Rattle.cm_envelope.specs.declared.envelope.TestCaseStarted.{TestCaseStarted}
use Rattle.cm_envelope.specs.declared.envelope.TestCaseFinished.{TestCaseFinished}
use Rattle.cm_stream.specs.Results.{FaultsAreChecks, results_fault}
use Rattle.cm_stream.specs.Calls.{calls_of}
use Rattle.cm_stream.proofs.CallWords.{start_told as start_in_calls, start_of_told, attempt_steps_told, moves_told, ended_told, case_ids, some_told, some_mapped, long_told, retried_told}
use Rattle.cm_attempt.proofs.Accepted.{ids_distinct}

abbrev told : TrackFault → Option Finding
told f = call_fault_finding f

-- ---- the faults of a call in turn, by what is wrong with it

abbrev pub case_fault : (again : Bool) → Option TrackFault
case_fault again = if again then Some track.DuplicateId else None

abbrev pub start_fault : (unknown again misnumbered overlaps : Bool) → Option TrackFault
start_fault unknown again misnumbered overlaps =
    if unknown then Some track.UnknownCase
    else (if again then Some track.DuplicateId
    else (if misnumbered then Some track.AttemptNumber else (if overlaps then Some track.AttemptOverlap else None)))

abbrev pub move_fault : (unknown no_step is_next : Bool) → Option TrackFault
move_fault unknown no_step is_next =
    if unknown then Some track.UnknownAttempt
    else (if no_step then Some track.UnknownStep else (if is_next then None else Some track.StepOrder))

abbrev pub end_fault : (unknown ended is_next : Bool) → Option TrackFault
end_fault unknown ended is_next =
    if unknown then Some track.UnknownAttempt
    else (if ended then Some track.StepOrder else (if is_next then None else Some track.FinishedEarly))

-- ---- the words of both sides

pub start_seen : (a : Utf8) (es : List Envelope) → is_some (call.start_of a (calls_of es)) ≡ is_some (find (is_of a) (starts es))
start_seen a es = ap is_some (start_of_told a es) ∙ some_mapped start_in_calls (find (is_of a) (starts es))

next_told : (m : Move) (a : Utf8) (es : List Envelope) → calls.is_next_move m a (calls_of es) ≡ is_next_move m a es
next_told m a es = λ i. option_map_or (same_move m) (slice_get (all_moves (attempt_steps_told a es i)) (length (moves_told a es i))) false

-- ---- a case

no_case : (id : Utf8) (ss : List TestStep) → list_any (λ later. same_name later (Case id)) (map (λ s. Step id s.id) ss) ≡ false
no_case id [] = refl
no_case id (s ∷ ss) = no_case id ss

same_later : (id x : Utf8) (ss : List TestStep) → list_any (λ later. same_name later (Step id x)) (map (λ s. Step id s.id) ss) ≡ has_text x (map (λ s. s.id) ss)
same_later id x [] = refl
same_later id x (s ∷ ss) = rw (bytes_same id, same_later id x ss, eq_back s.id x) refl

same_repeat : (id : Utf8) (ss : List TestStep) → has_same_names (map (λ s. Step id s.id) ss) ≡ has_repeat (map (λ s. s.id) ss)
same_repeat id [] = refl
same_repeat id (s ∷ ss) = rw (same_later id s.id ss, same_repeat id ss) refl

none_declared : (es : List Envelope) (id : Utf8) → find_case id es ≡ None → (ss : List TestStep) → list_any (λ name. nat_lt 0 (times_declared name es)) (map (λ s. Step id s.id) ss) ≡ false
none_declared es id none [] = refl
none_declared es id none (s ∷ ss) = rw (step_unknown es id s.id none, none_declared es id none ss) refl

or_yes : (b : Bool) → (b || true) ≡ true
or_yes true = refl
or_yes false = refl

case_told : (again : Bool) → option_and_then told (case_fault again) ≡ first_failed (bad.DuplicateId if again ∷ [])
case_told true = refl
case_told false = refl

case_checked : (first : ℕ) (es : List Envelope) (c : TestCase) → option_and_then told (fault_of first (calls_of es) (call.AddCase c.id (step_ids c))) ≡ first_failed (own_checks first es (envelope.TestCase c))
case_checked first es c =
    ap (λ b. option_and_then told (case_fault (b || has_repeat (step_ids c)))) (some_told c.id es)
    ∙ ap (λ b. option_and_then told (case_fault b)) (go (find_case c.id es) refl)
    ∙ case_told (declares_again es (envelope.TestCase c))
  where
    repeats : has_same_names (declares (envelope.TestCase c)) ≡ has_repeat (step_ids c)
    repeats = rw (no_case c.id c.test_steps) (same_repeat c.id c.test_steps)

    go : (o : Option TestCase) → find_case c.id es ≡ o → (is_some o || has_repeat (step_ids c)) ≡ declares_again es (envelope.TestCase c)
    go None e =
        let declared : nat_lt 0 (times_declared (Case c.id) es) ≡ false = (known (Case c.id) as_case (λ x. bytes_eq c.id x.id) (declares_case c.id) es).1 ∙ ap is_some e in
        let none : list_any (λ name. nat_lt 0 (times_declared name es)) (declares (envelope.TestCase c)) ≡ false = rw declared (none_declared es c.id e c.test_steps) in
        rw (repeats, none) (sym (or_no (has_repeat (step_ids c))))
    go (Some x) e =
        let declared : nat_lt 0 (times_declared (Case c.id) es) ≡ true = (known (Case c.id) as_case (λ x. bytes_eq c.id x.id) (declares_case c.id) es).1 ∙ ap is_some e in
        let some : list_any (λ name. nat_lt 0 (times_declared name es)) (declares (envelope.TestCase c)) ≡ true = rw declared refl in
        rw some (sym (or_yes (has_same_names (declares (envelope.TestCase c)))))

-- ---- a start

start_told : (unknown again misnumbered overlaps : Bool) → option_and_then told (start_fault unknown again misnumbered overlaps)
    ≡ first_failed (bad.UnknownReference if unknown ∷ bad.DuplicateId if again ∷ bad.AttemptNumber if misnumbered ∷ bad.AttemptOverlap if overlaps ∷ [])
start_told true d n o = refl
start_told false true n o = refl
start_told false false true o = refl
start_told false false false true = refl
start_told false false false false = refl

start_checked : (first : ℕ) (es : List Envelope) (s : TestCaseStarted) → option_and_then told (fault_of first (calls_of es) (call.Start s.id s.test_case_id s.attempt)) ≡ first_failed (own_checks first es (envelope.TestCaseStarted s))
start_checked first es s =
    (λ i. option_and_then told (start_fault (unknown i) (again i) (not (s.attempt == first + long_told s.test_case_id es i)) (not (retried_told s.test_case_id es i))))
    ∙ start_told (refers_to_unknown es (envelope.TestCaseStarted s)) (declares_again es (envelope.TestCaseStarted s)) (not (s.attempt == first + length (starts_of s.test_case_id es))) (not (list_all (λ x. is_retried x.id es) (starts_of s.test_case_id es)))
  where
    unknown : not (is_some (call.declared_case s.test_case_id (calls_of es))) ≡ refers_to_unknown es (envelope.TestCaseStarted s)
    unknown = ap not (some_told s.test_case_id es) ∙ sym (known (Case s.test_case_id) as_case (λ c. bytes_eq s.test_case_id c.id) (declares_case s.test_case_id) es).0 ∙ sym (or_no (times_declared (Case s.test_case_id) es == 0))

    again : is_some (call.start_of s.id (calls_of es)) ≡ declares_again es (envelope.TestCaseStarted s)
    again = start_seen s.id es ∙ sym (known (Attempt s.id) as_start (is_of s.id) (declares_attempt s.id) es).1 ∙ sym (or_no (nat_lt 0 (times_declared (Attempt s.id) es)))

-- ---- a step

attempt_known : (es : List Envelope) (a : Utf8) → (times_declared (Attempt a) es == 0) ≡ not (is_some (find (is_of a) (starts es)))
attempt_known es a = (known (Attempt a) as_start (is_of a) (declares_attempt a) es).0

abbrev pub asks_unknown : List Envelope → Utf8 → Utf8 → Bool
asks_unknown es a step = list_any (λ name. times_declared name es == 0) (Attempt a ∷ step_names es a step)

references : (es : List Envelope) (a step : Utf8) (t : TestCaseStarted) → find (is_of a) (starts es) ≡ Some t → asks_unknown es a step ≡ (times_declared (Step t.test_case_id step) es == 0)
references es a step t found = rw (attempt_known es a, found) (or_no (times_declared (Step t.test_case_id step) es == 0))

no_references : (es : List Envelope) (a step : Utf8) → find (is_of a) (starts es) ≡ None → asks_unknown es a step ≡ true
no_references es a step none = rw (attempt_known es a, none) refl

any_of_ids : (q : Utf8) (cs : List TestCase) → has_text q (map (λ c. c.id) cs) ≡ list_any (λ c. bytes_eq q c.id) cs
any_of_ids q [] = refl
any_of_ids q (c ∷ cs) = ap (λ b. bytes_eq q c.id || b) (any_of_ids q cs)

one_of : (q : Utf8) (cs : List TestCase) → has_repeat (map (λ (c : TestCase). c.id) cs) ≡ false → OnlyOne (λ (c : TestCase). bytes_eq q c.id) cs
one_of q [] h = tt
one_of q (c ∷ cs) h =
    let parts = or_false (has_text c.id (map (λ (c : TestCase). c.id) cs)) (has_repeat (map (λ (c : TestCase). c.id) cs)) h in
    (λ e. sym (any_of_ids q cs) ∙ ap (λ z. has_text z (map (λ (c : TestCase). c.id) cs)) (bytes_are q c.id e) ∙ parts.0, one_of q cs parts.1)

not_zero : (n : ℕ) → nat_lt 0 n ≡ false → (n == 0) ≡ true
not_zero n e = grind (arith, nat_tests)

move_told : (has_step is_next : Bool) → option_and_then told (move_fault false (not has_step) is_next) ≡ first_failed (bad.UnknownReference if not has_step ∷ bad.StepOrder if not is_next ∷ [])
move_told true true = refl
move_told true false = refl
move_told false n = refl

-- the attempt or its step is unknown exactly if the case of the attempt hasn't the step
pub step_asked : (es : List Envelope) → has_repeat (map (λ (c : TestCase). c.id) (cases es)) ≡ false → (a step : Utf8) → asks_unknown es a step ≡ not (has_text step (steps_of_attempt a es))
step_asked es distinct a step = go (find (is_of a) (starts es)) refl
  where
    its : (t : TestCaseStarted) → find (is_of a) (starts es) ≡ Some t → (o : Option TestCase) → find_case t.test_case_id es ≡ o → asks_unknown es a step ≡ not (has_text step (steps_of_attempt a es))
    its t e None k =
        let none : has_text step (steps_of_attempt a es) ≡ false = rw (e, k) refl in
        references es a step t e ∙ not_zero (times_declared (Step t.test_case_id step) es) (step_unknown es t.test_case_id step k) ∙ ap not (sym none)
    its t e (Some c) k =
        let steps : has_text step (steps_of_attempt a es) ≡ has_text step (step_ids c) = rw (e, k) refl in
        references es a step t e ∙ step_known es t.test_case_id step c (one_of t.test_case_id (cases es) distinct) k ∙ ap not (sym steps)

    go : (o : Option TestCaseStarted) → find (is_of a) (starts es) ≡ o → asks_unknown es a step ≡ not (has_text step (steps_of_attempt a es))
    go None e =
        let none : has_text step (steps_of_attempt a es) ≡ false = rw e refl in
        no_references es a step e ∙ ap not (sym none)
    go (Some t) e = its t e (find_case t.test_case_id es) refl

step_checked : (es : List Envelope) → has_repeat (map (λ (c : TestCase). c.id) (cases es)) ≡ false → (a step : Utf8) (m : Move)
    → option_and_then told (step_fault (calls_of es) a step m) ≡ first_failed (bad.UnknownReference if asks_unknown es a step ∷ bad.StepOrder if not (is_next_move m a es) ∷ [])
step_checked es distinct a step m = go (find (is_of a) (starts es)) refl
  where
    seen_as : (b : Bool) → is_some (find (is_of a) (starts es)) ≡ b → is_some (call.start_of a (calls_of es)) ≡ b
    seen_as b e = start_seen a es ∙ e

    asked : not (has_text step (call.steps_of_attempt a (calls_of es))) ≡ asks_unknown es a step
    asked = ap (λ steps. not (has_text step steps)) (attempt_steps_told a es) ∙ sym (step_asked es distinct a step)

    go : (o : Option TestCaseStarted) → find (is_of a) (starts es) ≡ o → option_and_then told (step_fault (calls_of es) a step m) ≡ first_failed (bad.UnknownReference if asks_unknown es a step ∷ bad.StepOrder if not (is_next_move m a es) ∷ [])
    go None e = rw (seen_as false (ap is_some e), no_references es a step e) refl
    go (Some t) e =
        rw (seen_as true (ap is_some e), next_told m a es)
        (move_told (has_text step (call.steps_of_attempt a (calls_of es))) (is_next_move m a es) ∙ ap (λ b. first_failed (bad.UnknownReference if b ∷ bad.StepOrder if not (is_next_move m a es) ∷ [])) asked)

-- ---- an end

end_told : (unknown ended is_next : Bool) → option_and_then told (end_fault unknown ended is_next)
    ≡ first_failed (bad.UnknownReference if unknown ∷ bad.StepOrder if ended ∷ bad.FinishedEarly if not is_next ∷ [])
end_told true o n = refl
end_told false true n = refl
end_told false false true = refl
end_told false false false = refl

end_checked : (first : ℕ) (es : List Envelope) (f : TestCaseFinished) → option_and_then told (fault_of first (calls_of es) (call.Finish f.test_case_started_id f.will_be_retried)) ≡ first_failed (own_checks first es (envelope.TestCaseFinished f))
end_checked first es f =
    (λ i. option_and_then told (end_fault (unknown i) (ended_told f.test_case_started_id es i) (next_told Ended f.test_case_started_id es i)))
    ∙ end_told (refers_to_unknown es (envelope.TestCaseFinished f)) (is_ended f.test_case_started_id es) (is_next_move Ended f.test_case_started_id es)
  where
    unknown : not (is_some (call.start_of f.test_case_started_id (calls_of es))) ≡ refers_to_unknown es (envelope.TestCaseFinished f)
    unknown = ap not (start_seen f.test_case_started_id es) ∙ sym (attempt_known es f.test_case_started_id) ∙ sym (or_no (times_declared (Attempt f.test_case_started_id) es == 0))

-- ---- each envelope

pub distinct_cases : (first : ℕ) (es : List Envelope) (t : Table) → table_after first (calls_of es) ≡ Some t → has_repeat (map (λ (c : TestCase). c.id) (cases es)) ≡ false
distinct_cases first es t taken = ap has_repeat (sym (case_ids es)) ∙ (ids_distinct first (calls_of es) t taken).of_cases

pub faults_are_checks : FaultsAreChecks
faults_are_checks first es t taken e = go e
  where
    distinct : has_repeat (map (λ (c : TestCase). c.id) (cases es)) ≡ false
    distinct = distinct_cases first es t taken

    go : (e : Envelope) → results_fault first es e ≡ first_failed (own_checks first es e)
    go (envelope.TestCase c) = case_checked first es c
    go (envelope.TestCaseStarted s) = start_checked first es s
    go (envelope.TestStepStarted s) = step_checked es distinct s.test_case_started_id s.test_step_id (StepStarted s.test_step_id)
    go (envelope.TestStepFinished s) = step_checked es distinct s.test_case_started_id s.test_step_id (StepFinished s.test_step_id)
    go (envelope.TestCaseFinished f) = end_checked first es f
    go _ = refl

-- ---- they are checks of the line

pub own_are_checks : OwnAreChecks
own_are_checks read first es (envelope.TestCase c) = record {
  front = bad.UnknownReference if refers_to_unknown es (envelope.TestCase c) ∷ bad.CaseStepsDiffer if not (has_steps_of_pickle es c) ∷ [];
  rest = [];
  cut = refl;
}
own_are_checks read first es (envelope.TestCaseStarted s) = record { front = bad.OutsideRun if not (has_run_started es) ∷ []; rest = []; cut = refl }
own_are_checks read first es (envelope.TestStepStarted s) = record { front = []; rest = []; cut = refl }
own_are_checks read first es (envelope.TestStepFinished s) = record { front = []; rest = reason.UnknownStatus unsupported_if is_unknown s.test_step_result.status ∷ []; cut = refl }
own_are_checks read first es (envelope.TestCaseFinished f) = record { front = []; rest = []; cut = refl }
own_are_checks read first es e = record { front = []; rest = checks_of_by read first es e; cut = refl }
