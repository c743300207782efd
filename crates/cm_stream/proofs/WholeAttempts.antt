-- Lines without a fault have good attempts.
use Rattle.std.proofs.Common.{◌≡◌, refl, sym, ap, ◌∙◌, List, [], ◌∷◌, ◌++◌, Some, None, true, false, Bool}
use Rattle.std.specs.Prelude.{nat_lt, find}
use Rattle.std.specs.List.{list_any, list_all}
use Rattle.std.specs.Option.{option_map_or}
use Rattle.std.proofs.lemmas.List.Elements.{filter_map-append}
use Rattle.std.proofs.lemmas.List.Folds.{find-append}
use Rattle.std.proofs.lemmas.Bool.{not-false}
use Rattle.cm_attempt.specs.Calls.{all_moves, is_end}
use Rattle.cm_attempt.specs.declared.status.Settings.{Settings}
use Rattle.cm_attempt.proofs.Accepted.{finished_are_whole}
use Rattle.cm_stream.specs.Calls.{calls_of}
use Rattle.cm_stream.specs.Checks.{steps_of_attempt, declares_again}
use Rattle.cm_stream.specs.Good.{AttemptsGood, AttemptGood}
use Rattle.cm_stream.specs.Record.{table_of_envelopes}
use Rattle.cm_stream.specs.ByOnePass.{IsFaultless}
use Rattle.cm_stream.specs.References.{Attempt, times_declared, declares_it, as_start, starts, steps_of, move_of, moves, is_ended}
use Rattle.cm_envelope.specs.declared.envelope.Envelope.{Envelope}
use Rattle.cm_envelope.specs.declared.envelope.Envelope.TheVariants as envelope
use Rattle.cm_envelope.specs.declared.envelope.TestCaseStarted.{TestCaseStarted}
use Rattle.cm_stream.proofs.Lists.{or_false, and_true}
use Rattle.cm_stream.proofs.Found.{bytes_same, none_found}
use Rattle.cm_stream.proofs.Declared.{is_of, declares_attempt, same_any}
use Rattle.cm_stream.proofs.Ends.{till_end}
use Rattle.cm_stream.proofs.Passing.{plain_pass}
use Rattle.cm_stream.proofs.Distinct.{not_counted}
use Rattle.cm_stream.proofs.Order.{TheEnd}
use Rattle.cm_stream.proofs.CallWords.{moves_told, ended_told, attempt_steps_told}
use Rattle.cm_stream.proofs.TableSteps.{none_is_refused}

-- a start is the first of its attempt
pub none_before : (xs : List Envelope) (s : TestCaseStarted) → declares_again xs (envelope.TestCaseStarted s) ≡ false → find (is_of s.id) (starts xs) ≡ None
none_before xs s h =
    let new = or_false (nat_lt 0 (times_declared (Attempt s.id) xs)) false h in
    let nowhere = not_counted (declares_it (Attempt s.id)) xs new.0 in
    none_found as_start (is_of s.id) xs (sym (same_any (declares_it (Attempt s.id)) (λ e. option_map_or (is_of s.id) (as_start e) false) (declares_attempt s.id) xs) ∙ nowhere)

find_all : {X : Type 0} (p q : X → Bool) (xs : List X) (x : X) → find q xs ≡ Some x → list_all p xs ≡ true → p x ≡ true
find_all p q [] x found all = cc
find_all p q (y ∷ xs) x found all = go (q y) refl (find_all p q xs x)
  where
    parts : (p y ≡ true) × (list_all p xs ≡ true)
    parts = and_true (p y) (list_all p xs) all

    go : (b : Bool) → q y ≡ b → (find q xs ≡ Some x → list_all p xs ≡ true → p x ≡ true) → p x ≡ true
    go true e rec =
        let here : Some y ≡ Some x = rw e at found in
        let same : y ≡ x = cc in
        ap p (sym same) ∙ parts.0
    go false e rec = rec (rw e at found) parts.1

pub all_attempts : (settings : Settings) (es : List Envelope) → IsFaultless settings es → TheEnd es → AttemptsGood es
all_attempts settings es none_fails end before e after cut = at e cut
  where
    whole_of : (s : TestCaseStarted) → find (is_of s.id) (starts es) ≡ Some s → moves s.id es ≡ all_moves (steps_of s.test_case_id es)
    whole_of s found =
        let first = settings.first_attempt in
        let in_front : find (is_of s.id) (starts end.before) ≡ Some s = ap (find (is_of s.id)) (sym (till_end es end.before end.end end.after end.run as_start refl refl)) ∙ found in
        let is : is_ended s.id end.before ≡ true = find_all (λ x. is_ended x.id end.before) (is_of s.id) (starts end.before) s in_front (not-false (list_all (λ x. is_ended x.id end.before) (starts end.before)) ((end.line.passes.1).1).0) in
        let ended : is_ended s.id es ≡ true = ap (list_any is_end) (till_end es end.before end.end end.after end.run (move_of s.id) refl refl) ∙ is in
        let all = (finished_are_whole first (calls_of es) (table_of_envelopes first es) (none_is_refused settings es none_fails) s.id (ended_told s.id es ∙ ended)).0 in
        let steps : steps_of_attempt s.id es ≡ steps_of s.test_case_id es = rw found refl in
        sym (moves_told s.id es) ∙ all ∙ ap all_moves (attempt_steps_told s.id es ∙ steps)

    at : (e : Envelope) → es ≡ before ++ e ∷ after → AttemptGood es e
    at (envelope.TestCaseStarted s) cut =
        let h = (plain_pass settings es none_fails before (envelope.TestCaseStarted s) after cut).1 in
        let none = none_before before s ((h.1).1).0 in
        let here : find (is_of s.id) (starts (envelope.TestCaseStarted s ∷ after)) ≡ Some s = rw (bytes_same s.id) refl in
        let found : find (is_of s.id) (starts es) ≡ Some s =
        ap (λ xs. find (is_of s.id) (starts xs)) cut ∙ rw (filter_map-append as_start before (envelope.TestCaseStarted s ∷ after), find-append (is_of s.id) (starts before) (starts (envelope.TestCaseStarted s ∷ after)), none) here in
        whole_of s found
    at _ cut = tt
