-- The laws.
use Rattle.std.proofs.Common.{◌≡◌, ℕ, ◌+◌, List, [], ◌∷◌, length, Some, None, Ok, Err, refl, sym, ap, ◌∙◌}
use Rattle.std.specs.Prelude.{map}
use Rattle.std.specs.List.{range_with_len}
use Rattle.gk_grammar.specs.Grammar.{Node, feature_nodes}
use Rattle.gk_grammar.specs.declared.fault.FaultKind.TheVariants as kind
use Rattle.gk_grammar.specs.Machine.{FlatBlock, State, PlacedFault, run, blocks_at_end, initial_state}
use Rattle.gk_grammar.specs.Documents.{lines_read, HasFault}
use Rattle.gk_grammar.specs.Laws.{OneDocument, DocumentOrFault, NoDocumentWithFault, OneFault, NumberedInOrder, NoMoreNodesThanBytes}
use Rattle.gk_grammar.proofs.Complete.{Counts}
use Rattle.gk_grammar.proofs.Numbers.{counted}
use Rattle.gk_grammar.proofs.Places.{text_in_order}
use Rattle.gk_grammar.proofs.Reading.{read_are_lines}
use Rattle.gk_grammar.proofs.Accepted.{Accepted, accepted, one_doc}
use Rattle.gk_grammar.proofs.Placed.{text_or_fault, fault_is_no_text, one_fault, stop_has_fault, open_has_fault}
use Rattle.gk_grammar.proofs.Bytes.{nodes_fewer}

pub one_document_holds : OneDocument
one_document_holds text a b h k = one_doc (lines_read text) (read_are_lines text) a b h k

pub document_or_fault_holds : DocumentOrFault
document_or_fault_holds text = text_or_fault (lines_read text) (read_are_lines text)

pub no_document_with_fault_holds : NoDocumentWithFault
no_document_with_fault_holds text d kind line column h f = fault_is_no_text (lines_read text) kind line column (read_are_lines text) f (d, h)

pub one_fault_holds : OneFault
one_fault_holds text kind other_kind line other_line column other_column f g = one_fault (lines_read text) kind other_kind line other_line column other_column f g

-- ---- what a run says of its text

-- where it takes the lines whole, its document is that of the text
pub whole_run : (text : List ℕ) (s : State) (last : List FlatBlock) → run initial_state (lines_read text) ≡ Ok s → blocks_at_end s.phase ≡ Some last → Accepted (lines_read text) s last
whole_run text s last e f = accepted (lines_read text) s last (read_are_lines text) e f

-- where it stops, the text has its fault
pub stopped_run : (text : List ℕ) (b : PlacedFault) → run initial_state (lines_read text) ≡ Err b → HasFault text b.kind b.line b.column
stopped_run text b e = stop_has_fault (lines_read text) b (read_are_lines text) e

-- where it ends at a phase that isn't closed, the text ends too early
pub open_run : (text : List ℕ) (s : State) → run initial_state (lines_read text) ≡ Ok s → blocks_at_end s.phase ≡ None → HasFault text kind.UnexpectedEnd (length (lines_read text) + 1) 1
open_run text s e f = open_has_fault (lines_read text) s (read_are_lines text) e f

-- ---- numbers

count_from : (n : ℕ) (nodes : List Node) → Counts n nodes → map (λ (x : Node). x.1) nodes ≡ range_with_len n (length nodes)
count_from n [] h = refl
count_from n (x ∷ xs) h =
    let head : x.1 ≡ n = h.0 in
    let rest : map (λ (x : Node). x.1) xs ≡ range_with_len (n + 1) (length xs) = count_from (n + 1) xs h.1 in
    cc

pub numbered_in_order_holds : NumberedInOrder
numbered_in_order_holds text d h =
    count_from 0 (feature_nodes d.feature) (counted (feature_nodes d.feature) (text_in_order d.feature 1 (lines_read text) d.comments (read_are_lines text) h.text) h.numbers)
    ∙ ap (λ (n : ℕ). range_with_len 0 n) (sym h.count)

pub no_more_nodes_than_bytes_holds : NoMoreNodesThanBytes
no_more_nodes_than_bytes_holds text d u h = nodes_fewer text d u h
