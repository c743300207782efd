-- What one write of several leaves.
use Rattle.std.proofs.Common.{◌≡◌, ◌∙◌, ◌++◌, ℕ, List, length, take, drop, sym, ap, append_assoc, take-append-drop, arith}
use Rattle.std.proofs.lemmas.Bool.{ne_eqb}
use Rattle.std.proofs.lemmas.Slice.{between_to_end}
use Rattle.std.specs.List.{between}
use Rattle.std.specs.Prelude.{Result, Ok}
use Rattle.std.specs.Io.KnownBytes.{Keeps}
use Rattle.std.proofs.KnownBytes.{Appends-kept, Appends-trans}
use Rattle.cm_envelope.specs.Device.{CountsFailure, Output, Writes, is_failed_write}

pub writes_then : (a b c : Output) (bytes more : List ℕ) → Writes a b bytes → Writes b c more → Writes a c (bytes ++ more)
writes_then a b c bytes more p q =
    record {
      taken = q.taken ∙ ap (λ l. l ++ more) p.taken ∙ append_assoc a.taken bytes more;
      shown = Appends-trans a.shown b.shown c.shown bytes more p.shown q.shown;
    }

-- where a call took nothing after these bytes
pub writes_kept : (a b c : Output) (bytes : List ℕ) → Writes a b bytes → c.taken ≡ b.taken → Keeps b.shown c.shown → Writes a c bytes
writes_kept a b c bytes p same shown = record { taken = same ∙ p.taken; shown = Appends-kept a.shown b.shown c.shown bytes p.shown shown }

-- what was written so far, and what is left
pub wrote_more : (a b c : Output) (all rest : List ℕ) (n : ℕ)
    → (w : (front : List ℕ) × (all ≡ front ++ rest) × Writes a b front) → Writes b c (take n rest)
    → (front : List ℕ) × (all ≡ front ++ between n (length rest) rest) × Writes a c front
wrote_more a b c all rest n w q =
    let left : between n (length rest) rest ≡ drop n rest = between_to_end rest n (length rest) (omega arith) in
    let cut : w.0 ++ rest ≡ (w.0 ++ take n rest) ++ between n (length rest) rest =
    ap (λ l. w.0 ++ l) (sym (take-append-drop n rest)) ∙ sym (append_assoc w.0 (take n rest) (drop n rest)) ∙ ap (λ l. (w.0 ++ take n rest) ++ l) (sym left) in
    (w.0 ++ take n rest, w.1 ∙ cut, writes_then a b c w.0 (take n rest) w.2 q)

-- a write that took something hasn't failed
pub no_failed_write : {E : Type 0} (r : Result ℕ E) (n : ℕ) (bytes : List ℕ) (old new : ℕ) → r ≡ Ok n → (n ≡ 0 → ⊥)
    → CountsFailure (is_failed_write r bytes) old new → new ≡ old
no_failed_write r n bytes old new is some counts =
    rw (is, ne_eqb n 0 some) at counts
