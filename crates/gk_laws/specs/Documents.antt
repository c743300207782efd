-- What holds of every list of lines and its document, and of the places of faults.
use Rattle.std.specs.Prelude.{◌≡◌, ◌≤◌, ◌⊎◌, ℕ, List, map, length, take}
use Rattle.std.specs.List.{enumerate_from}
use Rattle.gk_grammar.specs.Token.{Line, line_of}
use Rattle.gk_grammar.specs.Tree.{Document}
use Rattle.gk_grammar.specs.Grammar.{Doc}
use Rattle.gk_grammar.specs.Place.{IsFault, IsFront, IsText}
use Rattle.gk_grammar.specs.Documents.{lines_read}
use Rattle.gk_grammar.specs.declared.fault.FaultKind.{FaultKind}

-- the lines of these characters, numbered from 1, as the grammar reads them
abbrev pub read_lines : List (List ℕ) → List Line
read_lines texts = map line_of (enumerate_from 1 texts)

-- the lines of a text are such lines, so that what holds of these holds of texts
abbrev pub TextsAreLines : Type 0
TextsAreLines = (text : List ℕ) → (texts : List (List ℕ)) × (lines_read text ≡ read_lines texts)

-- lines have one document at most
abbrev pub OneDocumentOfLines : Type 0
OneDocumentOfLines =
    (texts : List (List ℕ)) (a b : Document) → Doc (read_lines texts) a → Doc (read_lines texts) b
    → a ≡ b

-- lines have a document, or a fault
abbrev pub DocumentOrFaultOfLines : Type 0
DocumentOrFaultOfLines =
    (texts : List (List ℕ)) → ((d : Document) × Doc (read_lines texts) d)
    ⊎ ((kind : FaultKind) × (n : ℕ) × (column : ℕ) × IsFault (read_lines texts) kind n column)

-- and not both
abbrev pub NoDocumentWithFaultOfLines : Type 0
NoDocumentWithFaultOfLines =
    (texts : List (List ℕ)) (d : Document) (kind : FaultKind) (n column : ℕ)
    → Doc (read_lines texts) d → IsFault (read_lines texts) kind n column → ⊥

-- lines have one fault at most
abbrev pub OneFaultOfLines : Type 0
OneFaultOfLines =
    (texts : List (List ℕ)) (kind other_kind : FaultKind) (n other_n column other_column : ℕ)
    → IsFault (read_lines texts) kind n column
    → IsFault (read_lines texts) other_kind other_n other_column
    → (kind ≡ other_kind) × (n ≡ other_n) × (column ≡ other_column)

-- ---- where a fault is

-- The first lines of a text of the grammar are a front: what some lines complete, one of the five completions does.
abbrev pub FrontsAreShown : Type 0
FrontsAreShown =
    (texts : List (List ℕ)) (m : ℕ)
    → IsText (read_lines texts) → IsFront (take m (read_lines texts))

-- Where lines have a fault, no lines that begin with those up to it are a text of the grammar, whatever comes after them.
abbrev pub FaultsStay : Type 0
FaultsStay =
    (texts others : List (List ℕ)) (kind : FaultKind) (n column : ℕ)
    → n ≤ length texts → take n texts ≡ take n others
    → IsFault (read_lines texts) kind n column → IsText (read_lines others) → ⊥
