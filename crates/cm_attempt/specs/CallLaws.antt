-- What the calls of a run say where none is refused, for every interleaving of attempts, and what their table shows of it.
use Rattle.std.specs.Prelude.{◌≡◌, ◌+◌, ℕ, true, false, not, List, ◌∷◌, ◌++◌, map, length, Some, is_some, count_by}
use Rattle.std.specs.List.{list_all, AllByRecursion}
use Rattle.cm_attempt.specs.Table.{Utf8, Table, has_repeat, open_count, reported_status}
use Rattle.cm_attempt.specs.Calls.{Call, Start, table_after, cases, starts, declared_case, starts_of, steps_of_attempt, moves, all_moves, ends_of, is_ended, is_retried, result_of}

-- the list begins so
abbrev pub IsFront : {A : Type 0} → List A → List A → Type 0
IsFront {A} front all = (rest : List A) × (all ≡ front ++ rest)

-- what holds of each start and the calls before it
abbrev pub AtEachStart : (List Call → (id test_case : Utf8) → ℕ → Type 0) → List Call → Type 0
AtEachStart P calls = (before : List Call) (id case : Utf8) (number : ℕ) (after : List Call)
    → calls ≡ before ++ Start id case number ∷ after → P before id case number

-- an attempt is of a case that was declared
abbrev pub CasesKnown : List Call → Type 0
CasesKnown = AtEachStart (λ before id case number. is_some (declared_case case before) ≡ true)

-- the attempts of a case are numbered from the first number on, in order of start
abbrev pub AreNumbered : ℕ → List Call → Type 0
AreNumbered first =
    AtEachStart (λ before id case number. number ≡ first + length (starts_of case before))

-- each attempt of a case but the last is finished and will be retried before the next starts
abbrev pub NoneOverlaps : List Call → Type 0
NoneOverlaps = AtEachStart
    (λ before id case number. list_all (λ s. is_retried s.id before) (starts_of case before) ≡ true)

-- Each attempt went through a front of what it has to: it started, each step of its case started and finished in order, and it
-- ended. Of what wasn't started there is no move.
abbrev pub StepsInOrder : List Call → Type 0
StepsInOrder calls = (attempt : Utf8)
    → IsFront (moves attempt calls) (all_moves (steps_of_attempt attempt calls))

-- An attempt that is finished went through the whole, and it finished once.
abbrev pub FinishedAreWhole : List Call → Type 0
FinishedAreWhole calls = (attempt : Utf8) → is_ended attempt calls ≡ true
    → (moves attempt calls ≡ all_moves (steps_of_attempt attempt calls))
    × (length (ends_of attempt calls) ≡ 1)

-- no two cases, no two steps of a case and no two attempts have one id
pub record IdsDistinct (calls : List Call) : Type 0 where
  pub of_cases : has_repeat (map (λ c. c.id) (cases calls)) ≡ false
  pub of_steps : AllByRecursion (λ c. has_repeat c.steps ≡ false) (cases calls)
  pub of_attempts : has_repeat (map (λ s. s.id) (starts calls)) ≡ false

-- the calls come as they must, where attempts are counted from the first number
pub record ComeInOrder (first : ℕ) (calls : List Call) : Type 0 where
  pub distinct : IdsDistinct calls
  pub known : CasesKnown calls
  pub numbers : AreNumbered first calls
  pub overlap : NoneOverlaps calls
  pub steps : StepsInOrder calls

-- ---- the laws

-- what holds of the calls of each run without a refusal, by the number that attempts are counted from
abbrev pub WhereAcceptedFrom : (ℕ → List Call → Type 0) → Type 0
WhereAcceptedFrom P = (first : ℕ) (calls : List Call) (t : Table)
    → table_after first calls ≡ Some t → P first calls

-- what holds of them from whatever number attempts are counted
abbrev pub WhereAccepted : (List Call → Type 0) → Type 0
WhereAccepted P = WhereAcceptedFrom (λ first calls. P calls)

-- what holds of them and their table
abbrev pub OfTheirTable : (List Call → Table → Type 0) → Type 0
OfTheirTable P = (first : ℕ) (calls : List Call) (t : Table)
    → table_after first calls ≡ Some t → P calls t

-- the table has the declared cases in order
abbrev pub HasCases : List Call → Table → Type 0
HasCases calls t = map (λ c. c.id) t.cases ≡ map (λ c. c.id) (cases calls)

-- what it reports of a case is the worst status of the final attempt, and none where there is none
abbrev pub ReportsResults : List Call → Table → Type 0
ReportsResults calls t = (case : Utf8) → reported_status t case ≡ result_of case calls

-- its open attempts are those that were started and aren't finished
abbrev pub CountsOpen : List Call → Table → Type 0
CountsOpen calls t = open_count t ≡ count_by (λ s. not (is_ended s.id calls)) (starts calls)

-- calls are accepted exactly where they come as they must
abbrev pub AcceptedComeInOrder : Type 0
AcceptedComeInOrder = WhereAcceptedFrom ComeInOrder

abbrev pub InOrderAreAccepted : Type 0
InOrderAreAccepted = (first : ℕ) (calls : List Call) → ComeInOrder first calls
    → is_some (table_after first calls) ≡ true
