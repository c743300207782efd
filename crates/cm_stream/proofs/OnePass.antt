-- The one pass over the lines of a text makes of it what the grammar says.
use Rattle.std.proofs.Common.{◌≡◌, ℕ, ◌<◌, refl, ap, List, Option, Some, None, Result, Ok, Err, true, false, Bool, ◌||◌, length, arith, inl, inr}
use Rattle.std.specs.Prelude.{nat_lt, ◌⊎◌}
use Rattle.std.proofs.lemmas.Bool.Decides.{nat_tests}
use Rattle.gk_grammar.specs.declared.fault.FaultKind.{FaultKind}
use Rattle.gk_grammar.specs.declared.fault.FaultKind.TheVariants as kind
use Rattle.gk_grammar.specs.Documents.{lines_read, HasFault, IsTooLong, max_bytes, max_lines}
use Rattle.gk_grammar.specs.Machine.{FlatBlock, State, PlacedFault, run, blocks_at_end, initial_state}
use Rattle.gk_grammar.proofs.LawLemmas.{one_document_holds, no_document_with_fault_holds, one_fault_holds, whole_run, stopped_run, open_run}
use Rattle.cm_stream.specs.Texts.{Utf8}
use Rattle.cm_stream.specs.Readings.{Reading, Accepted, Refused, OtherLanguage, TooLong, IsReading, OneReading, ReadsByTheGrammar, SomeReading}
use Rattle.cm_stream.specs.OnePass.{passes_limits, reading_of_fault, reading_at_end, reading_after, reads}

-- ---- limits

too_many : (m n p q : ℕ) → (nat_lt m n || nat_lt p q) ≡ true → (m < n) ⊎ (p < q)
too_many m n p q h = go (nat_lt m n) refl (nat_lt p q) refl
  where
    go : (a : Bool) → nat_lt m n ≡ a → (b : Bool) → nat_lt p q ≡ b → (m < n) ⊎ (p < q)
    go true e b k = inl (grind (arith, nat_tests, e))
    go false e true k = inr (grind (arith, nat_tests, k))
    go false e false k = let none : (nat_lt m n || nat_lt p q) ≡ false = rw (e, k) refl in cc

few_enough : (m n p q : ℕ) → (nat_lt m n || nat_lt p q) ≡ false → (m < n) ⊎ (p < q) → ⊥
few_enough m n p q h (inl l) = let yes_too : nat_lt m n ≡ true = grind (arith, nat_tests, l) in let some : (nat_lt m n || nat_lt p q) ≡ true = rw yes_too refl in cc
few_enough m n p q h (inr l) =
    let yes_too : nat_lt p q ≡ true = grind (arith, nat_tests, l) in
    let some : (nat_lt m n || nat_lt p q) ≡ true = rw yes_too (or_yes (nat_lt m n)) in
    cc
  where
    or_yes : (b : Bool) → (b || true) ≡ true
    or_yes true = refl
    or_yes false = refl

-- ---- what the pass makes of a text

fault_read : (text : Utf8) → (IsTooLong text → ⊥) → (k : FaultKind) (line column : ℕ) → HasFault text k line column → IsReading text (reading_of_fault k)
fault_read text fits kind.UnsupportedLanguage n c h = (fits, record { line = n; column = c; fault = h })
fault_read text fits kind.Unexpected n c h = (fits, record { kind = kind.Unexpected; line = n; column = c; fault = h; other = λ e. cc })
fault_read text fits kind.TagSpace n c h = (fits, record { kind = kind.TagSpace; line = n; column = c; fault = h; other = λ e. cc })
fault_read text fits kind.CellCount n c h = (fits, record { kind = kind.CellCount; line = n; column = c; fault = h; other = λ e. cc })
fault_read text fits kind.UnexpectedEnd n c h = (fits, record { kind = kind.UnexpectedEnd; line = n; column = c; fault = h; other = λ e. cc })
fault_read text fits kind.TooLong n c h = (fits, record { kind = kind.TooLong; line = n; column = c; fault = h; other = λ e. cc })
fault_read text fits kind.Memory n c h = (fits, record { kind = kind.Memory; line = n; column = c; fault = h; other = λ e. cc })

pass_read : (text : Utf8) → (IsTooLong text → ⊥) → (r : Result State PlacedFault) → run initial_state (lines_read text) ≡ r → IsReading text (reading_after r)
pass_read text fits (Err b) e = fault_read text fits b.kind b.line b.column (stopped_run text b e)
pass_read text fits (Ok s) e = go (blocks_at_end s.phase) refl
  where
    go : (o : Option (List FlatBlock)) → blocks_at_end s.phase ≡ o → IsReading text (reading_at_end s o)
    go (Some last) k = (fits, (whole_run text s last e k).doc)
    go None k = fault_read text fits kind.UnexpectedEnd _ _ (open_run text s e k)

-- what the one pass makes of a text is what the grammar says of it
pub is_read : ReadsByTheGrammar reads
unfolding reads
is_read text = go (passes_limits text) refl
  where
    go : (b : Bool) → passes_limits text ≡ b → IsReading text (reads text)
    go true e = rw e (too_many max_bytes (length text) max_lines (length (lines_read text)) e)
    go false e = rw e (pass_read text (few_enough max_bytes (length text) max_lines (length (lines_read text)) e) (run initial_state (lines_read text)) refl)

-- ---- one reading

pub one_reading : OneReading
one_reading text (Accepted d) (Accepted e) x y = ap Accepted (one_document_holds text d e x.1 y.1)
one_reading text (Accepted d) Refused x y = absurd (no_document_with_fault_holds text d (y.1).kind (y.1).line (y.1).column x.1 (y.1).fault)
one_reading text (Accepted d) OtherLanguage x y = absurd (no_document_with_fault_holds text d kind.UnsupportedLanguage (y.1).line (y.1).column x.1 (y.1).fault)
one_reading text (Accepted d) TooLong x y = absurd (x.0 y)
one_reading text Refused (Accepted d) x y = absurd (no_document_with_fault_holds text d (x.1).kind (x.1).line (x.1).column y.1 (x.1).fault)
one_reading text Refused Refused x y = refl
one_reading text Refused OtherLanguage x y = absurd ((x.1).other (one_fault_holds text (x.1).kind kind.UnsupportedLanguage (x.1).line (y.1).line (x.1).column (y.1).column (x.1).fault (y.1).fault).0)
one_reading text Refused TooLong x y = absurd (x.0 y)
one_reading text OtherLanguage (Accepted d) x y = absurd (no_document_with_fault_holds text d kind.UnsupportedLanguage (x.1).line (x.1).column y.1 (x.1).fault)
one_reading text OtherLanguage Refused x y = absurd ((y.1).other (one_fault_holds text (y.1).kind kind.UnsupportedLanguage (y.1).line (x.1).line (y.1).column (x.1).column (y.1).fault (x.1).fault).0)
one_reading text OtherLanguage OtherLanguage x y = refl
one_reading text OtherLanguage TooLong x y = absurd (x.0 y)
one_reading text TooLong (Accepted d) x y = absurd (y.0 x)
one_reading text TooLong Refused x y = absurd (y.0 x)
one_reading text TooLong OtherLanguage x y = absurd (y.0 x)
one_reading text TooLong TooLong x y = refl

pub reads_it : (text : Utf8) (r : Reading) → IsReading text r → reads text ≡ r
reads_it text r h = one_reading text (reads text) r (is_read text) h

pub some_reading : SomeReading
some_reading text = (reads text, is_read text)
