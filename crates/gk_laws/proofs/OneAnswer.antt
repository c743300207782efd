-- Each text has exactly one of a document and a fault.
use Rattle.std.proofs.Common.{◌≡◌, ◌⊎◌, ℕ, List, ap, ◌∙◌, inl, inr}
use Rattle.gk_grammar.specs.Tree.{Document}
use Rattle.gk_grammar.specs.Documents.{IsDocumentOf, HasFault}
use Rattle.gk_grammar.specs.declared.fault.FaultKind.{FaultKind}
use Rattle.gk_grammar.proofs.LawLemmas.{one_document_holds, document_or_fault_holds, no_document_with_fault_holds, one_fault_holds}
use Rattle.gk_laws.specs.TextAnswers.{TextAnswer, TheDocument, TheFault, IsAnswerOf, EachTextHasOneAnswer}

same_fault : (kind other : FaultKind) (line other_line column other_column : ℕ)
    → kind ≡ other → line ≡ other_line → column ≡ other_column
    → TheFault kind line column ≡ TheFault other other_line other_column
same_fault kind other line other_line column other_column k l c =
    ap (λ (z : FaultKind). TheFault z line column) k
    ∙ ap (λ (z : ℕ). TheFault other z column) l
    ∙ ap (λ (z : ℕ). TheFault other other_line z) c

of_document : (text : List ℕ) (d : Document) → IsDocumentOf text d → (other : TextAnswer)
    → IsAnswerOf text other → other ≡ TheDocument d
of_document text d h (TheDocument e) k = ap TheDocument (one_document_holds text e d k h)
of_document text d h (TheFault kind line column) k =
    absurd (no_document_with_fault_holds text d kind line column h k)

of_fault : (text : List ℕ) (kind : FaultKind) (line column : ℕ) → HasFault text kind line column
    → (other : TextAnswer) → IsAnswerOf text other → other ≡ TheFault kind line column
of_fault text kind line column h (TheDocument d) k =
    absurd (no_document_with_fault_holds text d kind line column k h)
of_fault text kind line column h (TheFault other l c) k =
    let same = one_fault_holds text other kind l line c column k h in
    same_fault other kind l line c column same.0 same.1 same.2

pub each_text_has_one_answer_holds : EachTextHasOneAnswer
each_text_has_one_answer_holds text = go (document_or_fault_holds text)
  where
    go : ((d : Document) × IsDocumentOf text d)
        ⊎ ((kind : FaultKind) × (line : ℕ) × (column : ℕ) × HasFault text kind line column)
        → (a : TextAnswer) × IsAnswerOf text a
        × ((other : TextAnswer) → IsAnswerOf text other → other ≡ a)
    go (inl h) = (TheDocument h.0, h.1, of_document text h.0 h.1)
    go (inr h) = (TheFault h.0 h.1 h.2, h.3, of_fault text h.0 h.1 h.2 h.3)
