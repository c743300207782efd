-- What holds of every text and its document.
use Rattle.std.specs.Prelude.{◌≡◌, ◌≤◌, ◌⊎◌, ℕ, List, length, map}
use Rattle.std.specs.List.{range_with_len}
use Rattle.std.specs.Str.{IsUtf8}
use Rattle.gk_grammar.specs.Tree.{Document}
use Rattle.gk_grammar.specs.Grammar.{Node, feature_nodes}
use Rattle.gk_grammar.specs.Documents.{IsDocumentOf, HasFault}
use Rattle.gk_grammar.specs.declared.fault.FaultKind.{FaultKind}

-- a text has one document at most
abbrev pub OneDocument : Type 0
OneDocument = (text : List ℕ) (a b : Document) → IsDocumentOf text a → IsDocumentOf text b → a ≡ b

-- a text has a document, or a fault
abbrev pub DocumentOrFault : Type 0
DocumentOrFault =
    (text : List ℕ) → ((d : Document) × IsDocumentOf text d)
    ⊎ ((kind : FaultKind) × (line : ℕ) × (column : ℕ) × HasFault text kind line column)

-- and not both
abbrev pub NoDocumentWithFault : Type 0
NoDocumentWithFault =
    (text : List ℕ) (d : Document) (kind : FaultKind) (line column : ℕ)
    → IsDocumentOf text d → HasFault text kind line column → ⊥

-- a text has one fault at most
abbrev pub OneFault : Type 0
OneFault =
    (text : List ℕ) (kind other_kind : FaultKind) (line other_line column other_column : ℕ)
    → HasFault text kind line column → HasFault text other_kind other_line other_column
    → (kind ≡ other_kind) × (line ≡ other_line) × (column ≡ other_column)

-- in the order of the tree the nodes of a document have the numbers 0, 1, .., as many as it says
abbrev pub NumberedInOrder : Type 0
NumberedInOrder =
    (text : List ℕ) (d : Document) → IsDocumentOf text d
    → map (λ (x : Node). x.1) (feature_nodes d.feature) ≡ range_with_len 0 d.nodes

-- a document has as many nodes as its text has bytes, at most
abbrev pub NoMoreNodesThanBytes : Type 0
NoMoreNodesThanBytes =
    (text : List ℕ) (d : Document) → IsUtf8 text → IsDocumentOf text d → d.nodes ≤ length text
