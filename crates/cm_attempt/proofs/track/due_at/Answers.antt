use Rattle.std.proofs.Common.{◌≡◌, ◌∙◌, refl, sym, Some, []}
use Rattle.kept_texts.specs.Kept.{bytes_of}
use Rattle.cm_attempt.specs.Due.{due_at, due_of}
use Rattle.cm_attempt.specs.Table.{AttemptRow, CaseRow, Table, find_case}
use Rattle.cm_attempt.specs.Rows.{attempt_row, case_row, table_of}
use Rattle.cm_attempt.specs.declared.track.Cursor.{Cursor}
use Rattle.cm_attempt.proofs.track.due_at.Goals as goal

due_found : (t : Table) (a : AttemptRow) (c : Cursor) (row : CaseRow) → a.cursor ≡ Some c → find_case t a.case_id ≡ Some row → due_of c row.steps ≡ due_at t a
due_found t a c row is found = rw (is, found) refl

pub returns-in-Some-find_case : goal.returns-in-Some-find_case
returns-in-Some-find_case c =
    let found = rw c.as_str.ensures at c.in-Some-find_case.ensures.row in
    c.due_of.ensures ∙ due_found (table_of 0 c.args.cases.now.entries []) (attempt_row [] c.args.attempt.now) c.in-Some.cursor (case_row (bytes_of c.args.attempt.now.case_id) c.in-Some-find_case.case.now) c.in-Some.is (sym found)
