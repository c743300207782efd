-- What the parser takes is within the limits.
use Rattle.std.proofs.Common.{◌≡◌, ℕ, ◌<◌, ◌≤◌, List, length, inl, arith}
use Rattle.std.specs.Prelude.{◌↔◌, Ok, Err}
use Rattle.gk_document.specs.declared.tree.Document.{Document}
use Rattle.gk_grammar.specs.Documents.{IsTooLong}
use Rattle.gk_tree.specs.Views.{too_long}

no_more : (n m : ℕ) → (m < n → ⊥) → n ≤ m
no_more n m h = omega (arith, h)

-- what the parser takes isn't too long
pub within_limit : (text : List ℕ) (d : Document) → ((Ok d ≡ Err too_long) ↔ IsTooLong text) → length text ≤ 16777216
within_limit text d h =
    let never : (Ok d ≡ Err too_long) → ⊥ = λ e. cc in
    no_more (length text) 16777216 (λ more. never (h.1 (inl more)))
