-- What a call finds in the table that doesn't refuse it.
use Rattle.std.proofs.Common.{◌≡◌, ℕ, refl, List, Option, Some, None, true, false, Bool, not, ◌||◌, ◌==◌, ◌+◌}
use Rattle.std.specs.Prelude.{is_some, if◌then◌else◌}
use Rattle.std.proofs.lemmas.Bool.{eqb-true}
use Rattle.cm_attempt.specs.Table.{Utf8, CaseRow, AttemptRow, Table, has_text, has_repeat, find_case, find_attempt, steps_of, add_case_fault, start_fault, start_fault_at, is_closed_to_new, step_fault_at, step_fault_of, end_fault_of, finish_fault, finish_fault_at}
use Rattle.cm_attempt.specs.declared.track.Cursor.{Cursor}
use Rattle.cm_attempt.specs.declared.fault.TrackFault.{TrackFault}
use Rattle.cm_attempt.specs.declared.fault.TrackFault.TheVariants as fault
use Rattle.cm_attempt.proofs.Growing.{or_false}
use Rattle.cm_attempt.proofs.EntryLemmas.{none_of}

not_so : (b : Bool) (f : TrackFault) → (if b then Some f else None) ≡ None → b ≡ false
not_so true f e = cc
not_so false f e = refl

pub record CaseFits (t : Table) (id : Utf8) (steps : List Utf8) : Type 0 where
  pub new : find_case t id ≡ None
  pub distinct : has_repeat steps ≡ false

pub case_fits : (t : Table) (id : Utf8) (steps : List Utf8) → add_case_fault t id steps ≡ None → CaseFits t id steps
case_fits t id steps h =
    let parts = or_false (is_some (find_case t id)) (has_repeat steps) (not_so (is_some (find_case t id) || has_repeat steps) fault.DuplicateId h) in
    record { new = none_of (find_case t id) parts.0; distinct = parts.1 }

pub record StartFits (t : Table) (id case : Utf8) (number : ℕ) : Type 0 where
  pub row : CaseRow
  pub found : find_case t case ≡ Some row
  pub new : find_attempt t id ≡ None
  pub count : number ≡ t.first + row.attempts
  pub closed : is_closed_to_new row.last ≡ false

three : (a b c : Bool) → (if a then Some fault.DuplicateId else (if not b then Some fault.AttemptNumber else (if c then Some fault.AttemptOverlap else None))) ≡ None → (a ≡ false) × (b ≡ true) × (c ≡ false)
three true b c h = cc
three false false c h = cc
three false true true h = cc
three false true false h = (refl, refl, refl)

pub start_fits : (t : Table) (id case : Utf8) (number : ℕ) → start_fault t id case number ≡ None → StartFits t id case number
start_fits t id case number h = go (find_case t case) refl h
  where
    go : (o : Option CaseRow) → find_case t case ≡ o → start_fault_at t id number o ≡ None → StartFits t id case number
    go None e k = cc
    go (Some row) e k =
        let parts = three (is_some (find_attempt t id)) (number == t.first + row.attempts) (is_closed_to_new row.last) k in
        record {
          row = row;
          found = e;
          new = none_of (find_attempt t id) parts.0;
          count = eqb-true number (t.first + row.attempts) parts.1;
          closed = parts.2;
        }

pub record StepFits (t : Table) (a step : Utf8) (may : Option Cursor → List Utf8 → Bool) : Type 0 where
  pub row : AttemptRow
  pub found : find_attempt t a ≡ Some row
  pub next : may row.cursor (steps_of t row.case_id) ≡ true

two : (a b : Bool) → step_fault_of a b ≡ None → b ≡ true
two false b h = cc
two true false h = cc
two true true h = refl

pub step_fits : (t : Table) (a step : Utf8) (may : Option Cursor → List Utf8 → Bool) → step_fault_at t step may (find_attempt t a) ≡ None → StepFits t a step may
step_fits t a step may h = go (find_attempt t a) refl h
  where
    go : (o : Option AttemptRow) → find_attempt t a ≡ o → step_fault_at t step may o ≡ None → StepFits t a step may
    go None e k = cc
    go (Some row) e k = record {
      row = row;
      found = e;
      next = two (has_text step (steps_of t row.case_id)) (may row.cursor (steps_of t row.case_id)) k;
    }

pub record EndFits (t : Table) (a : Utf8) : Type 0 where
  pub row : AttemptRow
  pub found : find_attempt t a ≡ Some row
  pub ends : end_fault_of row.cursor (steps_of t row.case_id) ≡ None

pub end_fits : (t : Table) (a : Utf8) → finish_fault t a ≡ None → EndFits t a
end_fits t a h = go (find_attempt t a) refl h
  where
    go : (o : Option AttemptRow) → find_attempt t a ≡ o → finish_fault_at t o ≡ None → EndFits t a
    go None e k = cc
    go (Some row) e k = record { row = row; found = e; ends = k }
