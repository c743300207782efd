-- What is counted of what is kept of a stream, for its release.
use Rattle.std.specs.Prelude.{◌==◌, ◌&&◌, ◌||◌, ℕ, Bool, false, not, List, Option, Some, None, if◌then◌else◌, count_by, filter, find, length, map, nat_lt}
use Rattle.std.specs.Borrow.{Bor}
use Rattle.std.specs.List.{flat_map, list_any}
use Rattle.std.specs.Option.{option_and_then, option_map_or}
use Rattle.std.specs.Str.{bytes_eq}
use Rattle.indexmap.specs.IndexMap.{IndexMap}
use Rattle.cm_attempt.specs.Calls.{last_of}
use Rattle.cm_attempt.specs.Table.{passes_pending}
use Rattle.cm_attempt.specs.declared.status.Policy.{Policy}
use Rattle.cm_cases.specs.Firsts.{value_at}
use Rattle.cm_reasons.specs.Reasons.{StepIds}
use Rattle.cm_reasons.specs.declared.reasons.CaseStep.{CaseStep}
use Rattle.cm_stream.specs.Release.{Conditions}
use Rattle.cm_stream.specs.Texts.{Utf8}
use Rattle.cm_stream.specs.declared.laws.ReleaseCounts.{ReleaseCounts}
use Rattle.cm_release.specs.declared.tally.CaseEntry.{CaseEntry}
use Rattle.cm_release.specs.declared.tally.FinishEntry.{FinishEntry}
use Rattle.cm_release.specs.declared.tally.Kept.{Kept}
use Rattle.cm_release.specs.declared.tally.PickleEntry.{PickleEntry}
use Rattle.cm_release.specs.declared.tally.StartEntry.{StartEntry}

-- ---- missed

-- the pickle may be without a case
abbrev pub may_stay : Conditions → PickleEntry → Bool
may_stay asked p =
    asked.allows_unrun || list_any (λ tag. list_any (bytes_eq tag) p.tags) asked.allowed_tags

-- no case names it, and it may not be without one; of a part no pickle is asked
abbrev pub is_missed_in : Conditions → Kept → PickleEntry → Bool
is_missed_in asked kept p =
    not asked.is_part && not (list_any (λ c. bytes_eq p.id c.pickle_id) kept.cases)
    && not (may_stay asked p)

-- ---- retried

abbrev pub case_in : List CaseEntry → (id : Utf8) → Option CaseEntry
case_in cases id = find (λ c. bytes_eq id c.id) cases

-- the start is of a case that names the pickle of this id
abbrev pub is_attempt_in : List CaseEntry → (pickle : Utf8) → StartEntry → Bool
is_attempt_in cases pickle s =
    option_map_or (λ c. bytes_eq pickle c.pickle_id) (case_in cases s.case_id) false

abbrev pub attempts_in : List CaseEntry → (pickle : Utf8) → List StartEntry → ℕ
attempts_in cases pickle starts = count_by (is_attempt_in cases pickle) starts

abbrev pub is_retried_in : Kept → PickleEntry → Bool
is_retried_in kept p = nat_lt 1 (attempts_in kept.cases p.id kept.starts)

-- of a number of attempts, whether there is more than one, where there are any
abbrev pub some_or_more : ℕ → Option Bool
some_or_more n = if n == 0 then None else Some (nat_lt 1 n)

-- ---- skipped

abbrev pub last_start : List StartEntry → (case : Utf8) → Option StartEntry
last_start starts case = last_of (filter (λ s. bytes_eq case s.case_id) starts)

abbrev pub has_skip_in : Kept → CaseEntry → Bool
has_skip_in kept c =
    option_map_or (λ s. list_any (bytes_eq s.id) kept.skips) (last_start kept.starts c.id) false

-- ---- stepless

abbrev pub is_stepless_in : Kept → CaseEntry → Bool
is_stepless_in kept c =
    option_map_or (λ p. p.is_stepless) (find (λ p. bytes_eq c.pickle_id p.id) kept.pickles) false

-- ---- undefined

-- a step that came to this end passed
abbrev pub passes_in : Policy → FinishEntry → Bool
passes_in policy f = not f.is_pending || passes_pending policy

-- the case of an attempt
abbrev pub case_of_attempt : Kept → (attempt : Utf8) → Option CaseEntry
case_of_attempt kept attempt =
    option_and_then (λ s. case_in kept.cases s.case_id)
    (find (λ s. bytes_eq attempt s.id) kept.starts)

-- the step passed, and is an unmatched one of the case of its attempt
abbrev pub is_undefined_in : Policy → Kept → FinishEntry → Bool
is_undefined_in policy kept f =
    passes_in policy f
    && option_map_or (λ c. list_any (bytes_eq f.step_id) c.unmatched)
    (case_of_attempt kept f.attempt_id) false

-- the end is that of the step in an attempt of the case
abbrev pub is_end_in : Kept → (test_case step : Utf8) → FinishEntry → Bool
is_end_in kept case step f =
    bytes_eq step f.step_id
    && option_map_or (λ s. bytes_eq case s.case_id)
    (find (λ s. bytes_eq f.attempt_id s.id) kept.starts) false

-- the step of the case passed, and is an unmatched one
abbrev pub passes_undefined_in : Policy → Kept → (test_case step : Utf8) → Bool
passes_undefined_in policy kept case step =
    list_any (λ f. is_undefined_in policy kept f && is_end_in kept case step f) kept.finishes

-- those of a case's unmatched steps that pass a test, and those of all cases
abbrev pub steps_passing : (test : (test_case step : Utf8) → Bool) → CaseEntry → List StepIds
steps_passing test c =
    map (λ step. record { test_case = c.id; step = step }) (filter (test c.id) c.unmatched)

abbrev pub undefined_steps_in : Policy → Kept → List StepIds
undefined_steps_in policy kept =
    flat_map (steps_passing (passes_undefined_in policy kept)) kept.cases

-- the step of the case is one of these
abbrev pub has_step : List CaseStep → (test_case step : Utf8) → Bool
has_step steps case step =
    list_any (λ s. bytes_eq step s.step.now && bytes_eq case s.case.now) steps

module _ {S : Type 0} (starts : IndexMap (Bor Utf8) (Bor StartEntry) S) where
  -- the same of an end, by a map of the attempts
  abbrev pub is_end_by : (test_case step : Utf8) → FinishEntry → Bool
  is_end_by case step f =
      bytes_eq step f.step_id
      && option_map_or (λ s. bytes_eq case s.now.case_id) (value_at starts f.attempt_id) false

  -- and by one of the unmatched steps of each case
  abbrev pub is_undefined_by : {T : Type 0} → IndexMap (Bor Utf8) (List Utf8) T → Policy
      → FinishEntry → Bool
  is_undefined_by cases policy f =
      passes_in policy f
      && option_map_or (list_any (bytes_eq f.step_id))
      (option_and_then (λ s. value_at cases s.now.case_id) (value_at starts f.attempt_id)) false

-- ---- all

-- texts that the code holds by references
abbrev pub texts_of : List (Bor Utf8) → List Utf8
texts_of ids = map (λ id. id.now) ids

-- the ids of the pickles and of the cases that pass each test
abbrev pub missed_in : Conditions → Kept → List Utf8
missed_in asked kept = map (λ p. p.id) (filter (is_missed_in asked kept) kept.pickles)

abbrev pub retried_in : Kept → List Utf8
retried_in kept = map (λ p. p.id) (filter (is_retried_in kept) kept.pickles)

abbrev pub skipped_in : Kept → List Utf8
skipped_in kept = map (λ c. c.id) (filter (has_skip_in kept) kept.cases)

abbrev pub stepless_in : Kept → List Utf8
stepless_in kept = map (λ c. c.id) (filter (is_stepless_in kept) kept.cases)

-- how many there are of each
abbrev pub counts_in : Conditions → Policy → Kept → ReleaseCounts
counts_in asked policy kept = record {
  missed = length (missed_in asked kept);
  retried = length (retried_in kept);
  skipped = length (skipped_in kept);
  stepless = length (stepless_in kept);
  undefined = count_by (is_undefined_in policy kept) kept.finishes;
}
