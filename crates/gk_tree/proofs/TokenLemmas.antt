-- What the code's tokens have to do with those of the grammar.
use Rattle.std.proofs.Common.{◌≡◌, ℕ, zero, suc, ◌+◌, ◌-◌, ◌*◌, ◌≤◌, List, [], ◌∷◌, length, Option, Some, None, Ok, refl, sym, ap, ◌∙◌, arith}
use Rattle.std.specs.Prelude.{map}
use Rattle.std.specs.List.{AllByRecursion}
use Rattle.std.specs.Str.{chars, chars_after, continuation_len, lead_bits, IsUtf8}
use Rattle.std.proofs.lemmas.List.{length-map}
use Rattle.std.proofs.lemmas.Str.{encodes-chars}
use Rattle.gk_document.specs.declared.tree.Cell.{Cell}
use Rattle.gk_line.specs.declared.tags_and_comments.TagText.{TagText}
use Rattle.gk_line.specs.Cells.{CellText}
use Rattle.gk_line.specs.Tags.{TagWord, tags_of}
use Rattle.gk_line.specs.Views.{cell_text, tag_word}
use Rattle.gk_grammar.specs.Token.{cell, tag_text, tag_list}
use Rattle.gk_grammar.proofs.Bytes.{tags_fewer}
use Rattle.gk_tree.specs.Views.{word_of}

after_bound : (bs : List ℕ) (n c : ℕ) → length (chars_after n c bs) ≤ length bs + 1
after_bound [] zero c = omega arith
after_bound [] (suc n) c = omega arith
after_bound (b ∷ bs) zero c = omega (arith, after_bound bs (continuation_len b) (lead_bits b))
after_bound (b ∷ bs) (suc n) c = omega (arith, after_bound bs n (c * 64 + (b - 128)))

-- no more characters than bytes
pub chars_bound : (bs : List ℕ) → length (chars bs) ≤ length bs
unfolding chars
chars_bound [] = omega arith
chars_bound (b ∷ bs) = omega (arith, after_bound bs (continuation_len b) (lead_bits b))

pub words_bound : (bs : List ℕ) (ws : List TagText) → map tag_word ws ≡ tags_of (chars bs) → length ws ≤ length bs
words_bound bs ws e = omega (arith, sym (length-map ws tag_word), ap length e, tags_fewer (chars bs), chars_bound bs)

pub no_space : (o : Option TagWord) (words : List TagWord) → o ≡ None → tag_list o words ≡ Ok (map tag_text words)
no_space None words e = refl
no_space (Some x) words e = absurd cc

-- a cell whose value is UTF-8 is the grammar's cell of its characters
cell_same : (c : Cell) → IsUtf8 c.value → c ≡ cell (cell_text c)
cell_same c u = sym (ap (λ (z : List ℕ). record { value = z; column = c.column }) (encodes-chars c.value u))

-- the cells of the grammar
pub cells_same : (xs : List Cell) (found : List CellText) → AllByRecursion (λ (c : Cell). IsUtf8 c.value) xs → map cell_text xs ≡ found → xs ≡ map cell found
cells_same xs found u e = go xs u ∙ ap (λ (z : List CellText). map cell z) e
  where
    go : (ys : List Cell) → AllByRecursion (λ (c : Cell). IsUtf8 c.value) ys → ys ≡ map cell (map cell_text ys)
    go [] h = refl
    go (y ∷ ys) h = ap (λ (z : Cell). z ∷ ys) (cell_same y h.0) ∙ ap (λ (zs : List Cell). cell (cell_text y) ∷ zs) (go ys h.1)

pub words_same : (xs : List TagText) (found : List TagWord) → map tag_word xs ≡ found → map word_of xs ≡ map tag_text found
words_same xs found e = go xs ∙ ap (λ (z : List TagWord). map tag_text z) e
  where
    go : (ys : List TagText) → map word_of ys ≡ map tag_text (map tag_word ys)
    go [] = refl
    go (y ∷ ys) = ap (λ z. word_of y ∷ z) (go ys)
