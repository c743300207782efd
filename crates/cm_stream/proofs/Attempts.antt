-- A good list has no fault in its attempts.
use Rattle.std.proofs.Common.{◌≡◌, refl, sym, ap, ◌∙◌, List, [], ◌∷◌, ◌++◌, Some, true, false, length, not, append_assoc}
use Rattle.std.specs.Prelude.{find, slice_get}
use Rattle.std.specs.List.{list_any, filter_map, flat_map}
use Rattle.std.specs.Str.{bytes_eq}
use Rattle.cm_stream.specs.Texts.{Utf8}
use Rattle.cm_stream.specs.References.{Case, Attempt, times_declared, as_case, as_start, find_case, steps_of, move_of, moves, is_ended}
use Rattle.cm_attempt.specs.Calls.{Move, Started, StepStarted, StepFinished, Ended, all_moves, is_end}
use Rattle.cm_stream.specs.Good.{Sound}
use Rattle.cm_stream.specs.Checks.{steps_of_attempt, is_next_move}
use Rattle.cm_attempt.specs.CallFaults.{same_move}
use Rattle.cm_envelope.specs.declared.envelope.Envelope.{Envelope}
use Rattle.cm_envelope.specs.declared.envelope.Envelope.TheVariants as envelope
use Rattle.cm_envelope.specs.declared.envelope.TestCaseStarted.{TestCaseStarted}
use Rattle.cm_envelope.specs.declared.envelope.TestStepStarted.{TestStepStarted}
use Rattle.cm_envelope.specs.declared.envelope.TestStepFinished.{TestStepFinished}
use Rattle.cm_envelope.specs.declared.envelope.TestCaseFinished.{TestCaseFinished}
use Rattle.cm_stream.proofs.Lists.{found_cut, at_length, any_here}
use Rattle.cm_stream.proofs.Found.{still_found, bytes_same, bytes_are}
use Rattle.cm_stream.proofs.Declared.{declarer, declares_attempt, declares_case, start_is}

-- an attempt that is started, with the steps of its case before the line and in the whole
pub record IsUnderWay (es before : List Envelope) (a : Utf8) : Type 0 where
  pub steps : steps_of_attempt a before ≡ steps_of_attempt a es
  pub goes : moves a es ≡ all_moves (steps_of_attempt a es)

pub under_way : (es before : List Envelope) (e : Envelope) (after : List Envelope) → Sound es → es ≡ before ++ e ∷ after → (a : Utf8) → times_declared (Attempt a) before ≡ 1 → IsUnderWay es before a
under_way es before e after good cut a one =
    let at = declarer (Attempt a) as_start (λ x. bytes_eq a x.id) (declares_attempt a) before one in
    let start : at.here ≡ envelope.TestCaseStarted at.value = start_is at.here at.value at.is in
    let its_cut : es ≡ at.front ++ envelope.TestCaseStarted at.value ∷ (at.back ++ e ∷ after) =
    cut ∙ ap (λ xs. xs ++ e ∷ after) at.cut ∙ append_assoc at.front (at.here ∷ at.back) (e ∷ after) ∙ ap (λ x. at.front ++ x ∷ (at.back ++ e ∷ after)) start in
    let a_is : a ≡ at.value.id = bytes_are a at.value.id at.passes in
    let case = at.value.test_case_id in
    let known = declarer (Case case) as_case (λ x. bytes_eq case x.id) (declares_case case) at.front (good.references at.front (envelope.TestCaseStarted at.value) (at.back ++ e ∷ after) its_cut).0 in
    let in_before : find_case case before ≡ Some known.value = ap (find_case case) at.cut ∙ still_found as_case (λ x. bytes_eq case x.id) at.front (at.here ∷ at.back) known.value known.found in
    let in_all : find_case case es ≡ Some known.value = ap (find_case case) its_cut ∙ still_found as_case (λ x. bytes_eq case x.id) at.front (envelope.TestCaseStarted at.value ∷ (at.back ++ e ∷ after)) known.value known.found in
    let found_all : find (λ s. bytes_eq a s.id) (filter_map as_start es) ≡ Some at.value = ap (λ xs. find (λ (s : TestCaseStarted). bytes_eq a s.id) (filter_map as_start xs)) cut ∙ still_found as_start (λ x. bytes_eq a x.id) before (e ∷ after) at.value at.found in
    let all : steps_of_attempt a es ≡ steps_of case es = rw found_all refl in
    let part : steps_of_attempt a before ≡ steps_of case before = rw at.found refl in
    let same : steps_of case before ≡ steps_of case es = rw (in_before, in_all) refl in
    record {
      steps = part ∙ same ∙ sym all;
      goes = ap (λ x. moves x es) a_is ∙ good.attempts at.front (envelope.TestCaseStarted at.value) (at.back ++ e ∷ after) its_cut ∙ ap all_moves (sym all);
    }

same_move_itself : (m : Move) → same_move m m ≡ true
same_move_itself Started = refl
same_move_itself (StepStarted s) = bytes_same s
same_move_itself (StepFinished s) = bytes_same s
same_move_itself Ended = refl

-- ---- StepOrder and FinishedEarly

pub is_next : (es before : List Envelope) (e : Envelope) (after : List Envelope) → Sound es → es ≡ before ++ e ∷ after → (a : Utf8) (m : Move) → move_of a e ≡ Some m → times_declared (Attempt a) before ≡ 1
    → is_next_move m a before ≡ true
is_next es before e after good cut a m moved one =
    let way = under_way es before e after good cut a one in
    let parts : all_moves (steps_of_attempt a before) ≡ moves a before ++ m ∷ moves a after =
    ap all_moves way.steps ∙ sym way.goes ∙ ap (moves a) cut ∙ found_cut (move_of a) before e after m moved in
    let next : slice_get (all_moves (steps_of_attempt a before)) (length (moves a before)) ≡ Some m = ap (λ ms. slice_get ms (length (moves a before))) parts ∙ at_length (moves a before) m (moves a after) in
    rw next (same_move_itself m)

pub step_starts_next : (es before : List Envelope) (s : TestStepStarted) (after : List Envelope) → Sound es → es ≡ before ++ envelope.TestStepStarted s ∷ after
    → not (is_next_move (StepStarted s.test_step_id) s.test_case_started_id before) ≡ false
step_starts_next es before s after good cut =
    ap not (is_next es before (envelope.TestStepStarted s) after good cut s.test_case_started_id (StepStarted s.test_step_id) (rw (bytes_same s.test_case_started_id) refl)
    (good.references before (envelope.TestStepStarted s) after cut).0)

pub step_finishes_next : (es before : List Envelope) (s : TestStepFinished) (after : List Envelope) → Sound es → es ≡ before ++ envelope.TestStepFinished s ∷ after
    → not (is_next_move (StepFinished s.test_step_id) s.test_case_started_id before) ≡ false
step_finishes_next es before s after good cut =
    ap not (is_next es before (envelope.TestStepFinished s) after good cut s.test_case_started_id (StepFinished s.test_step_id) (rw (bytes_same s.test_case_started_id) refl)
    (good.references before (envelope.TestStepFinished s) after cut).0)

pub not_early : (es before : List Envelope) (f : TestCaseFinished) (after : List Envelope) → Sound es → es ≡ before ++ envelope.TestCaseFinished f ∷ after
    → not (is_next_move Ended f.test_case_started_id before) ≡ false
not_early es before f after good cut =
    ap not (is_next es before (envelope.TestCaseFinished f) after good cut f.test_case_started_id Ended (rw (bytes_same f.test_case_started_id) refl)
    (good.references before (envelope.TestCaseFinished f) after cut).0)

-- the end comes last
pub steps_have_no_end : (steps : List Utf8) → list_any is_end (flat_map (λ s. StepStarted s ∷ StepFinished s ∷ []) steps) ≡ false
steps_have_no_end [] = refl
steps_have_no_end (s ∷ steps) = steps_have_no_end steps

ends_last : (xs ms ys : List Move) → list_any is_end xs ≡ false → xs ++ Ended ∷ [] ≡ ms ++ Ended ∷ ys → list_any is_end ms ≡ false
ends_last xs [] ys none e = refl
ends_last [] (m ∷ ms) ys none e =
    let rest : [] ≡ ms ++ Ended ∷ ys = cc in
    absurd (empty_isnt ms rest)
  where
    empty_isnt : (ms : List Move) → [] ≡ ms ++ Ended ∷ ys → ⊥
    empty_isnt [] h = cc
    empty_isnt (m ∷ ms) h = cc
ends_last (x ∷ xs) (m ∷ ms) ys none e =
    let here : x ≡ m = cc in
    let rest : xs ++ Ended ∷ [] ≡ ms ++ Ended ∷ ys = cc in
    let front : is_end x ≡ false = any_here is_end [] x xs none in
    let back : list_any is_end xs ≡ false = any_back_of x xs none in
    rw (← here, front, ends_last xs ms ys back rest) refl
  where
    any_back_of : (x : Move) (xs : List Move) → list_any is_end (x ∷ xs) ≡ false → list_any is_end xs ≡ false
    any_back_of Ended xs h = cc
    any_back_of Started xs h = h
    any_back_of (StepStarted s) xs h = h
    any_back_of (StepFinished s) xs h = h

pub not_ended_yet : (es before : List Envelope) (f : TestCaseFinished) (after : List Envelope) → Sound es → es ≡ before ++ envelope.TestCaseFinished f ∷ after
    → is_ended f.test_case_started_id before ≡ false
not_ended_yet es before f after good cut =
    let a = f.test_case_started_id in
    let way = under_way es before (envelope.TestCaseFinished f) after good cut a (good.references before (envelope.TestCaseFinished f) after cut).0 in
    let moved : move_of a (envelope.TestCaseFinished f) ≡ Some Ended = rw (bytes_same a) refl in
    let parts : all_moves (steps_of_attempt a es) ≡ moves a before ++ Ended ∷ moves a after = sym way.goes ∙ ap (moves a) cut ∙ found_cut (move_of a) before (envelope.TestCaseFinished f) after Ended moved in
    ends_last (Started ∷ flat_map (λ s. StepStarted s ∷ StepFinished s ∷ []) (steps_of_attempt a es)) (moves a before) (moves a after) (steps_have_no_end (steps_of_attempt a es)) parts
