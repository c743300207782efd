-- The rows of the table, as the entries of the maps have them.
use Rattle.std.specs.Prelude.{ℕ, List, Option, map, position}
use Rattle.std.specs.Map.{keys_of}
use Rattle.std.specs.Str.{bytes_eq}
use Rattle.kept_texts.specs.Kept.{bytes_of}
use Rattle.kept_texts.specs.declared.kept_text.KeptText.{KeptText}
use Rattle.cm_refs.specs.StepIds.{ids_in}
use Rattle.cm_attempt.specs.Table.{CaseRow, AttemptRow, Table, Utf8}
use Rattle.cm_attempt.specs.declared.track.Case.{Case}
use Rattle.cm_attempt.specs.declared.track.Attempt.{Attempt}

abbrev pub case_row : Utf8 → Case → CaseRow
case_row id c = record {
  id = id;
  steps = ids_in c.steps;
  attempts = c.attempts;
  last = c.last;
}

abbrev pub attempt_row : Utf8 → Attempt → AttemptRow
attempt_row id a = record {
  id = id;
  case_id = bytes_of a.case_id;
  cursor = a.cursor;
  worst = a.worst;
}

abbrev pub case_rows : List (KeptText × Case) → List CaseRow
case_rows = map (λ e. case_row (bytes_of e.0) e.1)

abbrev pub attempt_rows : List (KeptText × Attempt) → List AttemptRow
attempt_rows = map (λ e. attempt_row (bytes_of e.0) e.1)

-- the first attempt of each case has the first number
abbrev pub table_of : ℕ → List (KeptText × Case) → List (KeptText × Attempt) → Table
table_of first cases attempts = record {
  first = first;
  cases = case_rows cases;
  attempts = attempt_rows attempts;
}

-- where the entry of this id is among the entries
abbrev pub place_of : {X : Type 0} → Utf8 → List (KeptText × X) → Option ℕ
place_of id entries = position (λ k. bytes_eq id (bytes_of k)) (keys_of entries)
