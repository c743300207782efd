-- A file has one reading.
use Rattle.std.proofs.Common.{◌≡◌, ◌∙◌, ap, sym, inl, inr, ℕ, Option, None, Some}
use Rattle.cm_stream.specs.Texts.{Utf8}
use Rattle.gk_document.specs.declared.tree.Document.{Document}
use Rattle.gk_grammar.specs.declared.fault.FaultKind.{FaultKind}
use Rattle.gk_grammar.proofs.LawLemmas.{no_document_with_fault_holds, one_document_holds, one_fault_holds}
use Rattle.cm_missing.specs.Missing.{Accepted, FileReading, IsFileReading, IsRefusedFor, Refused}

same_refused : (k l : FaultKind) (i j m n : ℕ) → k ≡ l → i ≡ j → m ≡ n → Refused k i m ≡ Refused l j n
same_refused k l i j m n a b c = λ x. Refused (a x) (b x) (c x)

not_both : (text : Utf8) (d : Document) (k : FaultKind) (i j : ℕ) → IsFileReading (Some text) (Accepted d) → IsRefusedFor text k i j → ⊥
not_both text d k i j (fits, doc) (inl (long, a, b, c)) = fits long
not_both text d k i j (fits, doc) (inr (short, fault)) = no_document_with_fault_holds text d k i j doc fault

one_refusal : (text : Utf8) (k l : FaultKind) (i j m n : ℕ) → IsRefusedFor text k i m → IsRefusedFor text l j n → Refused k i m ≡ Refused l j n
one_refusal text k l i j m n (inl (long, a, b, c)) (inl (again, x, y, z)) = same_refused k l i j m n (a ∙ sym x) (b ∙ sym y) (c ∙ sym z)
one_refusal text k l i j m n (inl (long, a, b, c)) (inr (short, fault)) = absurd (short long)
one_refusal text k l i j m n (inr (short, fault)) (inl (long, a, b, c)) = absurd (short long)
one_refusal text k l i j m n (inr (short, fault)) (inr (again, other)) =
    let same = one_fault_holds text k l i j m n fault other in
    same_refused k l i j m n same.0 same.1 same.2

pub one_file_reading : (text : Option Utf8) (a b : FileReading) → IsFileReading text a → IsFileReading text b → a ≡ b
one_file_reading None a b x y = x ∙ sym y
one_file_reading (Some text) (Accepted d) (Accepted e) x y = ap Accepted (one_document_holds text d e x.1 y.1)
one_file_reading (Some text) (Accepted d) (Refused k i j) x y = absurd (not_both text d k i j x y)
one_file_reading (Some text) (Refused k i j) (Accepted d) x y = absurd (not_both text d k i j y x)
one_file_reading (Some text) (Refused k i m) (Refused l j n) x y = one_refusal text k l i j m n x y
