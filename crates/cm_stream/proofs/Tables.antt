-- What one more envelope makes of the table, and of attempts that are well ordered.
use Rattle.std.proofs.Common.{◌≡◌, ◌+◌, ℕ, refl, sym, ap, ◌∙◌, List, [], ◌∷◌, ◌++◌, Option, Some, None, true, false, Bool, not, ◌||◌, ◌==◌, length, map, ◌↔◌, unwrap_or}
use Rattle.std.specs.Prelude.{is_some}
use Rattle.std.specs.List.{list_all, cons_option}
use Rattle.std.specs.Option.{option_and_then, option_map_or}
use Rattle.std.proofs.lemmas.List.Elements.{filter_map-append}
use Rattle.cm_attempt.specs.Table.{Utf8, Table, table_from, has_text, has_repeat, reported_status}
use Rattle.cm_attempt.specs.Calls as call
use Rattle.cm_attempt.specs.Calls.{DeclaredCase, cases, result_of}
use Rattle.cm_attempt.specs.Calls.{Call, AddCase, Start, StartStep, FinishStep, Finish, Move, call_fault, after_call, unless_refused, table_after_calls, table_after}
use Rattle.cm_attempt.specs.CallFaults as calls
use Rattle.cm_attempt.specs.CallFaults.{fault_of, step_fault}
use Rattle.cm_attempt.specs.declared.fault.TrackFault.{TrackFault}
use Rattle.cm_attempt.proofs.Refused.{refused_for_fault}
use Rattle.cm_attempt.proofs.Accepted.{come_in_order, has_cases, reports, cut_at}
use Rattle.cm_attempt.proofs.Converse.{are_accepted}
use Rattle.cm_stream.specs.Findings.{Finding}
use Rattle.cm_stream.specs.CallFaults.{call_fault_finding, call_fault_of_envelope}
use Rattle.cm_stream.specs.Record.{table_after_envelope}
use Rattle.cm_envelope.specs.declared.envelope.Envelope.{Envelope}
use Rattle.cm_stream.specs.Results.{AreWellOrdered, results_of, results_fault, TablesHaveResults, RefusedForFaults, TablesChange, WellOrderedAreAccepted, FrontsAreWellOrdered, FaultsAreExact}
use Rattle.cm_stream.specs.Calls.{call_of, calls_of}
use Rattle.cm_stream.proofs.Lists.{map_twice, map_same}
use Rattle.cm_stream.proofs.CallChecks.{case_fault, start_fault, move_fault, end_fault}

abbrev told : TrackFault → Option Finding
told f = call_fault_finding f

-- ---- want of memory is none of the refusals

case_told_none : (again : Bool) → option_and_then told (case_fault again) ≡ None → case_fault again ≡ None
case_told_none true h = cc
case_told_none false h = refl

start_told_none : (unknown again misnumbered overlaps : Bool) → option_and_then told (start_fault unknown again misnumbered overlaps) ≡ None → start_fault unknown again misnumbered overlaps ≡ None
start_told_none true d n o h = cc
start_told_none false true n o h = cc
start_told_none false false true o h = cc
start_told_none false false false true h = cc
start_told_none false false false false h = refl

move_told_none : (unknown no_step is_next : Bool) → option_and_then told (move_fault unknown no_step is_next) ≡ None → move_fault unknown no_step is_next ≡ None
move_told_none true k n h = cc
move_told_none false true n h = cc
move_told_none false false false h = cc
move_told_none false false true h = refl

end_told_none : (unknown ended is_next : Bool) → option_and_then told (end_fault unknown ended is_next) ≡ None → end_fault unknown ended is_next ≡ None
end_told_none true o n h = cc
end_told_none false true n h = cc
end_told_none false false false h = cc
end_told_none false false true h = refl

step_told : (cs : List Call) (a step : Utf8) (m : Move) → option_and_then told (step_fault cs a step m) ≡ None → step_fault cs a step m ≡ None
step_told cs a step m h = move_told_none (not (is_some (call.start_of a cs))) (not (has_text step (call.steps_of_attempt a cs))) (calls.is_next_move m a cs) h

fault_told : (first : ℕ) (cs : List Call) (c : Call) → option_and_then told (fault_of first cs c) ≡ None → fault_of first cs c ≡ None
fault_told first cs (AddCase id steps) h = case_told_none (is_some (call.declared_case id cs) || has_repeat steps) h
fault_told first cs (Start id case number) h = start_told_none (not (is_some (call.declared_case case cs))) (is_some (call.start_of id cs)) (not (number == first + length (call.starts_of case cs))) (not (list_all (λ s. call.is_retried s.id cs) (call.starts_of case cs))) h
fault_told first cs (StartStep a step) h = step_told cs a step (call.StepStarted step) h
fault_told first cs (FinishStep a step status) h = step_told cs a step (call.StepFinished step) h
fault_told first cs (Finish a r) h = end_told_none (not (is_some (call.start_of a cs))) (call.is_ended a cs) (calls.is_next_move call.Ended a cs) h

refusal_told : (first : ℕ) (cs : List Call) (t : Table) → table_after first cs ≡ Some t → (c : Call) → option_and_then told (call_fault t c) ≡ None → call_fault t c ≡ None
refusal_told first cs t taken c h = let same = refused_for_fault first cs t taken c in same ∙ fault_told first cs c (ap (option_and_then told) (sym same) ∙ h)

not_refused : (first : ℕ) (es : List Envelope) (t : Table) → table_after first (calls_of es) ≡ Some t → (e : Envelope) → option_and_then told (call_fault_of_envelope t e) ≡ None → call_fault_of_envelope t e ≡ None
not_refused first es t taken e h = go (call_of e) h
  where
    go : (o : Option Call) → option_and_then told (option_and_then (call_fault t) o) ≡ None → option_and_then (call_fault t) o ≡ None
    go None k = refl
    go (Some c) k = refusal_told first (calls_of es) t taken c k

pub refused_for_faults : RefusedForFaults
refused_for_faults first es t taken e = go (call_of e)
  where
    go : (o : Option Call) → option_and_then told (option_and_then (call_fault t) o) ≡ option_and_then told (option_and_then (fault_of first (calls_of es)) o)
    go None = refl
    go (Some c) = ap (option_and_then told) (refused_for_fault first (calls_of es) t taken c)

-- ---- one more envelope

left_both : (xs ys : List Call) (t u : Table) → table_after_calls t xs ≡ Some u → table_after_calls t (xs ++ ys) ≡ table_after_calls u ys
left_both [] ys t u e = ap (λ o. table_after_calls (unwrap_or o t) ys) e
left_both (c ∷ xs) ys t u e = go (call_fault t c) refl e (left_both xs ys (after_call t c) u)
  where
    go : (o : Option TrackFault) → call_fault t c ≡ o → unless_refused o (table_after_calls (after_call t c) xs) ≡ Some u → (table_after_calls (after_call t c) xs ≡ Some u → table_after_calls (after_call t c) (xs ++ ys) ≡ table_after_calls u ys) → table_after_calls t (c ∷ xs ++ ys) ≡ table_after_calls u ys
    go None k l rec = rw k (rec l)
    go (Some f) k l rec = cc

left_one : (first : ℕ) (es : List Envelope) (t : Table) → table_after first (calls_of es) ≡ Some t → (e : Envelope) → table_after first (calls_of (es ++ e ∷ [])) ≡ unless_refused (call_fault_of_envelope t e) (Some (table_after_envelope t e))
left_one first es t taken e = ap (table_after first) (filter_map-append call_of es (e ∷ [])) ∙ left_both (calls_of es) (calls_of (e ∷ [])) (table_from first) t taken ∙ go (call_of e)
  where
    go : (o : Option Call) → table_after_calls t (cons_option o []) ≡ unless_refused (option_and_then (call_fault t) o) (Some (option_map_or (after_call t) o t))
    go None = refl
    go (Some c) = refl

pub tables_change : TablesChange
tables_change first es t taken e none =
    let fine : call_fault_of_envelope t e ≡ None = not_refused first es t taken e (refused_for_faults first es t taken e ∙ none) in
    left_one first es t taken e ∙ ap (λ o. unless_refused o (Some (table_after_envelope t e))) fine

-- ---- the results

table_results : (first : ℕ) (es : List Envelope) (t : Table) → table_after first (calls_of es) ≡ Some t → map (λ c. (c.id, reported_status t c.id)) t.cases ≡ results_of es
table_results first es t e =
    sym (map_twice (λ (id : Utf8). (id, reported_status t id)) (λ c. c.id) t.cases)
    ∙ ap (map (λ (id : Utf8). (id, reported_status t id))) (has_cases first (calls_of es) t e)
    ∙ map_twice (λ (id : Utf8). (id, reported_status t id)) (λ (c : DeclaredCase). c.id) (cases (calls_of es))
    ∙ map_same (λ (c : DeclaredCase). (c.id, reported_status t c.id)) (λ (c : DeclaredCase). (c.id, result_of c.id (calls_of es))) (λ c. ap (λ r. (c.id, r)) (reports first (calls_of es) t e c.id)) (cases (calls_of es))

pub tables_have_results : TablesHaveResults
tables_have_results first es t e = (come_in_order first (calls_of es) t e, table_results first es t e)

pub well_ordered_are_accepted : WellOrderedAreAccepted
well_ordered_are_accepted first es well = are_accepted first (calls_of es) well

pub fronts_are_well_ordered : FrontsAreWellOrdered
fronts_are_well_ordered first before after well = go (table_after first (calls_of (before ++ after))) refl (well_ordered_are_accepted first (before ++ after) well)
  where
    go : (o : Option Table) → table_after first (calls_of (before ++ after)) ≡ o → is_some o ≡ true → AreWellOrdered first before
    go None e k = cc
    go (Some t) e k =
        let parts = cut_at (calls_of before) (calls_of after) (table_from first) t (ap (table_after first) (sym (filter_map-append call_of before after)) ∙ e) in
        come_in_order first (calls_of before) parts.0 parts.1

-- ---- exactly where they aren't well ordered any more

accepted_one : (o : Option TrackFault) (l : Option Table) → is_some (unless_refused o l) ≡ true → o ≡ None
accepted_one None l h = refl
accepted_one (Some f) l h = cc

pub faults_are_exact : FaultsAreExact
faults_are_exact first es well e = go (table_after first (calls_of es)) refl (well_ordered_are_accepted first es well)
  where
    go : (o : Option Table) → table_after first (calls_of es) ≡ o → is_some o ≡ true → (results_fault first es e ≡ None) ↔ AreWellOrdered first (es ++ e ∷ [])
    go None taken k = cc
    go (Some t) taken k = (
      λ none. (tables_have_results first (es ++ e ∷ []) (table_after_envelope t e) (tables_change first es t taken e none)).0,
      λ more.
          let all : is_some (unless_refused (call_fault_of_envelope t e) (Some (table_after_envelope t e))) ≡ true = ap is_some (sym (left_one first es t taken e)) ∙ well_ordered_are_accepted first (es ++ e ∷ []) more in
          sym (refused_for_faults first es t taken e) ∙ ap (option_and_then told) (accepted_one (call_fault_of_envelope t e) (Some (table_after_envelope t e)) all),
    )
