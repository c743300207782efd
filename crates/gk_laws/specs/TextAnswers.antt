-- What a text is: one of the grammar, or one with a fault.
use Rattle.std.specs.Prelude.{◌≡◌, ℕ, List}
use Rattle.gk_grammar.specs.Tree.{Document}
use Rattle.gk_grammar.specs.Documents.{IsDocumentOf, HasFault}
use Rattle.gk_grammar.specs.declared.fault.FaultKind.{FaultKind}

-- a document, or a fault with its line and column
pub data TextAnswer : Type 0 where
  TheDocument : Document → TextAnswer
  TheFault : FaultKind → (line column : ℕ) → TextAnswer

-- the text is of the grammar with this document, or of none with this fault
abbrev pub IsAnswerOf : List ℕ → TextAnswer → Type 0
IsAnswerOf text (TheDocument d) = IsDocumentOf text d
IsAnswerOf text (TheFault kind line column) = HasFault text kind line column

-- each text has exactly one of a document and a fault
abbrev pub EachTextHasOneAnswer : Type 0
EachTextHasOneAnswer =
    (text : List ℕ) → (a : TextAnswer) × IsAnswerOf text a
    × ((other : TextAnswer) → IsAnswerOf text other → other ≡ a)
