-- The first of some texts that stands before in their list.
use Rattle.std.proofs.Common.{◌≡◌, ◌∙◌, refl, sym, ap, ℕ, zero, suc, ◌+◌, ◌<◌, true, false, List, [], ◌∷◌, get_or, length, map, take, drop, Some, arith, Bor}
use Rattle.std.proofs.Math.Seq.{drop-cons}
use Rattle.std.proofs.lemmas.List.{take_more}
use Rattle.cm_attempt.specs.Table.{has_text}
use Rattle.cm_stream.specs.Texts.{Utf8}
use Rattle.cm_fault_reasons.specs.Duplicate.{first_again}

-- a text that is referred to, at an index
pub text_at : (xs : List (Bor Utf8)) (i : ℕ) (d : Bor Utf8) (e : Utf8) → i < length xs → (get_or xs i d).now ≡ get_or (map (λ (x : Bor Utf8). x.now) xs) i e
text_at [] i d e less = absurd (omega (arith, less))
text_at (x ∷ xs) zero d e less = refl
text_at (x ∷ xs) (suc i) d e less = text_at xs i d e (omega (arith, less))

module _ (texts : List Utf8) (i : ℕ) (text : Utf8) (less : i < length texts) where
  pub stands_before : has_text (get_or texts i text) (take i texts) ≡ true → first_again (take i texts) (drop i texts) ≡ Some (get_or texts i text)
  stands_before h = ap (first_again (take i texts)) (drop-cons texts i text less) ∙ rw h refl

  pub stands_first : has_text (get_or texts i text) (take i texts) ≡ false → first_again (take i texts) (drop i texts) ≡ first_again (take (i + 1) texts) (drop (i + 1) texts)
  stands_first h =
      let next : suc i ≡ i + 1 = omega arith in
      ap (first_again (take i texts)) (drop-cons texts i text less) ∙ rw h (λ j. first_again (sym (take_more texts i text less) j) (drop (next j) texts))
