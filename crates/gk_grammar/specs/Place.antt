-- Where a list of lines stops being the front of a text, and which fault is there.
use Rattle.std.specs.Prelude.{◌≡◌, ◌≢◌, ℕ, ◌+◌, ◌≤◌, ◌<◌, Bool, true, List, [], ◌∷◌, ◌++◌, length, take, codes, Err, IsTrue, IsFalse, ◌⊎◌}
use Rattle.std.specs.List.{AllByRecursion}
use Rattle.gk_document.specs.declared.tree.Cell.{Cell}
use Rattle.gk_grammar.specs.declared.fault.FaultKind.{FaultKind}
use Rattle.gk_grammar.specs.declared.fault.FaultKind.TheVariants as kind
use Rattle.gk_grammar.specs.Token.{Language, Tags, Row, Line, line, line_of, is_gap}
use Rattle.gk_grammar.specs.Tree.{Document}
use Rattle.gk_grammar.specs.Grammar.{Doc, english}

-- the lines are a text of the grammar
abbrev pub IsText : List Line → Type 0
IsText ls = (d : Document) × Doc ls d

-- what may follow the first lines to show that they are the front of a text
pub data Completion : Type 0 where
  ByNothing : Completion
  ByFeature : Completion
  ByScenario : Completion
  ByQuotes : Completion
  ByBackticks : Completion

-- the line `Feature:`, `Scenario:`, three quotes or three backticks, at this number
abbrev pub completion_lines : Completion → ℕ → List Line
completion_lines ByNothing number = []
completion_lines ByFeature number = line_of (number, codes "Feature:") ∷ []
completion_lines ByScenario number = line_of (number, codes "Scenario:") ∷ []
completion_lines ByQuotes number = line_of (number, codes "\"\"\"") ∷ []
completion_lines ByBackticks number = line_of (number, codes "```") ∷ []

-- the lines are the front of a text, as one of the five completions shows
abbrev pub IsFront : List Line → Type 0
IsFront ls = (c : Completion) × IsText (ls ++ completion_lines c (length ls + 1))

-- The first n lines are the first that are no front. There is a line number n.
pub record IsFirstBad (ls : List Line) (n : ℕ) : Type 0 where
  pub from_one : 1 ≤ n
  pub within : n ≤ length ls
  pub bad : IsFront (take n ls) → ⊥
  pub least : (m : ℕ) → 1 ≤ m → m < n → IsFront (take m ls)

-- every first lines are a front, but the whole is no text
pub record IsOpenAtEnd (ls : List Line) (n : ℕ) : Type 0 where
  pub past_end : n ≡ length ls + 1
  pub fronts : (m : ℕ) → 1 ≤ m → m ≤ length ls → IsFront (take m ls)
  pub open_yet : IsText ls → ⊥

-- a row or what may be between rows
abbrev pub is_row_or_gap : Line → Bool
is_row_or_gap (line _ _ _ (Row _)) = true
is_row_or_gap l = is_gap l

abbrev pub HasOtherCount : List Cell → Line → Type 0
HasOtherCount cells (line _ _ _ (Row others)) = length others ≢ length cells
HasOtherCount cells _ = ⊥

-- The lines end in a table, whose first row has another count: it is the first row after a line that is neither a row nor a
-- comment nor blank, and after it come rows, comments and blank lines alone.
pub record DiffersFromTable (before : List Line) (cells : List Cell) : Type 0 where
  pub earlier : List Line
  pub last : Line
  pub gap : List Line
  pub first : Line
  pub others : List Line
  pub cut : before ≡ earlier ++ last ∷ (gap ++ first ∷ others)
  pub no_row : IsFalse (is_row_or_gap last)
  pub only_gap : AllByRecursion (λ l. IsTrue (is_gap l)) gap
  pub other : HasOtherCount cells first
  pub one_table : AllByRecursion (λ l. IsTrue (is_row_or_gap l)) others

-- the kind and the column of the fault at a line, by the line and those before it
abbrev pub IsFaultAt : List Line → Line → FaultKind → ℕ → Type 0
IsFaultAt before (line _ _ _ (Tags (Err c))) found column =
    (found ≡ kind.TagSpace) × (column ≡ c)
IsFaultAt before (line _ _ indent (Language word)) found column =
    (word ≢ english) × (found ≡ kind.UnsupportedLanguage) × (column ≡ indent + 1)
IsFaultAt before (line _ _ indent (Row cells)) found column =
    ((DiffersFromTable before cells × (found ≡ kind.CellCount))
    ⊎ ((DiffersFromTable before cells → ⊥) × (found ≡ kind.Unexpected)))
    × (column ≡ indent + 1)
IsFaultAt before (line _ _ indent _) found column =
    (found ≡ kind.Unexpected) × (column ≡ indent + 1)

-- a fault at one of the lines: the line is cut out of the list
pub record IsFaultWithin (ls : List Line) (k : FaultKind) (n column : ℕ) : Type 0 where
  pub place : IsFirstBad ls n
  pub before : List Line
  pub at : Line
  pub later : List Line
  pub cut : ls ≡ before ++ at ∷ later
  pub here : length before + 1 ≡ n
  pub what : IsFaultAt before at k column

pub record IsFaultAtEnd (ls : List Line) (k : FaultKind) (n column : ℕ) : Type 0 where
  pub place : IsOpenAtEnd ls n
  pub what : k ≡ kind.UnexpectedEnd
  pub first_column : column ≡ 1

-- the fault of lines that are no text
abbrev pub IsFault : List Line → FaultKind → (n column : ℕ) → Type 0
IsFault ls k n column = IsFaultWithin ls k n column ⊎ IsFaultAtEnd ls k n column
