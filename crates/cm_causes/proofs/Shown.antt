-- What is shown of no lines, and of some.
use Rattle.std.proofs.Common.{◌≡◌, ◌∙◌, refl, sym, ℕ, ◌-◌, List, [], ◌∷◌, ◌++◌, append_assoc, length, take}
use Rattle.cm_envelope.specs.Lines.{line_feed}
use Rattle.cm_reasons.specs.Lines.{text_of_lines, limited_text, more_text}

pub not_empty : (a : List ℕ) (x : ℕ) (b : List ℕ) → a ++ x ∷ b ≡ [] → ⊥
not_empty [] x b h = cc
not_empty (y ∷ a) x b h = cc

pub both_empty : (a b : List ℕ) → a ++ b ≡ [] → (a ≡ []) × (b ≡ [])
both_empty [] b h = (refl, h)
both_empty (x ∷ a) b h = let never : ⊥ = cc in absurd never

pub none_shown : limited_text [] ≡ []
none_shown = refl

-- the first line begins what is shown
pub first_shown : (line : List ℕ) (lines : List (List ℕ)) → limited_text (line ∷ lines) ≡ line ++ line_feed ∷ (text_of_lines (take 99 lines) ++ more_text (length (line ∷ lines) - 100))
first_shown line lines =
    append_assoc (line ++ line_feed ∷ []) (text_of_lines (take 99 lines)) (more_text (length (line ∷ lines) - 100))
    ∙ append_assoc line (line_feed ∷ []) (text_of_lines (take 99 lines) ++ more_text (length (line ∷ lines) - 100))

pub shown_empty : (lines : List (List ℕ)) → limited_text lines ≡ [] → lines ≡ []
shown_empty [] h = refl
shown_empty (line ∷ lines) h = absurd (not_empty line line_feed (text_of_lines (take 99 lines) ++ more_text (length (line ∷ lines) - 100)) (sym (first_shown line lines) ∙ h))
