-- The laws of documents, of lists of lines.
use Rattle.std.proofs.Common.{ℕ, List, refl}
use Rattle.std.specs.Str.{chars}
use Rattle.std.specs.Str.Lines.{lines}
use Rattle.gk_line.specs.Lines.{lines_of, numbered_lines, without_mark}
use Rattle.gk_grammar.specs.Documents.{lines_read}
use Rattle.gk_laws.specs.Documents.{read_lines, TextsAreLines, OneDocumentOfLines, DocumentOrFaultOfLines, NoDocumentWithFaultOfLines, OneFaultOfLines}
use Rattle.gk_grammar.proofs.Places.{AreNumberedFrom}
use Rattle.gk_grammar.proofs.Reading.{numbered_are_lines}
use Rattle.gk_grammar.proofs.Accepted.{one_doc}
use Rattle.gk_grammar.proofs.Placed.{text_or_fault, fault_is_no_text, one_fault}

pub are_lines : (texts : List (List ℕ)) → AreNumberedFrom 1 (read_lines texts)
are_lines texts = numbered_are_lines 1 texts

pub texts_are_lines_holds : TextsAreLines
unfolding lines_read lines_of numbered_lines
texts_are_lines_holds text = (lines (without_mark (chars text)), refl)

pub one_document_holds : OneDocumentOfLines
one_document_holds texts a b h k = one_doc (read_lines texts) (are_lines texts) a b h k

pub document_or_fault_holds : DocumentOrFaultOfLines
document_or_fault_holds texts = text_or_fault (read_lines texts) (are_lines texts)

pub no_document_with_fault_holds : NoDocumentWithFaultOfLines
no_document_with_fault_holds texts d kind n column h f = fault_is_no_text (read_lines texts) kind n column (are_lines texts) f (d, h)

pub one_fault_holds : OneFaultOfLines
one_fault_holds texts kind other_kind n other_n column other_column f g = one_fault (read_lines texts) kind other_kind n other_n column other_column f g
