-- White space and marks at the start of a text, and the text without white space at its ends.
use Rattle.std.proofs.Common.{◌≡◌, ℕ, false, cond, List, [], ◌∷◌, ◌++◌, length, Some, refl, ap, ◌∙◌, arith}
use Rattle.std.specs.Prelude.{◌==◌, ◌&&◌}
use Rattle.std.specs.Char.{is_whitespace}
use Rattle.std.specs.Str.{skip_leading_whitespace, drop_trailing_whitespace}
use Rattle.std.proofs.lemmas.Grind.{common_steps}
use Rattle.gk_line.specs.Texts.{after, trimmed_text}
use Rattle.gk_line.proofs.TextLemmas.{and_true}
use Rattle.gk_laws.specs.Trimming.{IsSpace}
use Rattle.gk_laws.proofs.Trims.{skip, drop_end}

-- what follows a front of a text
pub after_front : (p cs : List ℕ) → after p (p ++ cs) ≡ Some cs
unfolding after
after_front [] cs = refl
after_front (b ∷ p) cs = grind (arith, common_steps, after_front p cs)

pub skip_gap : (gap : List ℕ) (c : ℕ) (cs : List ℕ) → IsSpace gap → is_whitespace c ≡ false → skip_leading_whitespace (gap ++ c ∷ cs) ≡ c ∷ cs
skip_gap [] c cs h e = ap (λ b. cond b (skip_leading_whitespace cs) (c ∷ cs)) e
skip_gap (d ∷ gap) c cs h e =
    let both = and_true _ _ h in
    ap (λ b. cond b (skip_leading_whitespace (gap ++ c ∷ cs)) (d ∷ gap ++ c ∷ cs)) both.0 ∙ skip_gap gap c cs both.1 e

skipped : (text : List ℕ) → skip_leading_whitespace text ≡ skip is_whitespace text
skipped [] = refl
skipped (c ∷ cs) = ap (λ q. cond (is_whitespace c) q (c ∷ cs)) (skipped cs)

dropped : (text : List ℕ) → drop_trailing_whitespace text ≡ drop_end is_whitespace text
dropped [] = refl
dropped (c ∷ cs) = ap (λ q. cond (is_whitespace c && length q == 0) [] (c ∷ q)) (dropped cs)

pub trimmed_ends : (text : List ℕ) → trimmed_text text ≡ drop_end is_whitespace (skip is_whitespace text)
unfolding trimmed_text
trimmed_ends text = dropped (skip_leading_whitespace text) ∙ ap (drop_end is_whitespace) (skipped text)
