-- The white space at a text's end, by its bytes.
use Rattle.std.proofs.Common.{◌≡◌, ℕ, ◌-◌, ◌<◌, ◌≤◌, Bool, true, false, cond, List, [], ◌∷◌, ◌++◌, length, take, get_or, sym, refl, ap, ◌∙◌, subst, arith, length-append}
use Rattle.std.specs.Prelude.{◌&&◌, ◌==◌, slice_index}
use Rattle.std.specs.Char.{is_ascii, is_whitespace}
use Rattle.std.specs.Str.{chars, IsUtf8, drop_trailing_whitespace}
use Rattle.std.proofs.lemmas.Grind.{common_steps, take_at_read}
use Rattle.std.proofs.lemmas.Str.{chars-nil, chars-append, IsUtf8-take, IsCharBoundary-before_ascii}
use Rattle.std.proofs.Math.Seq.{take-append_seam}
use Rattle.gk_line.specs.Texts.{is_ascii_space}
use Rattle.gk_line.proofs.TextLemmas.{and_true}
use Rattle.gk_line.proofs.SpaceLemmas.{ascii_small, chars-ascii}

drop-white : (cs : List ℕ) (w : ℕ) → is_whitespace w ≡ true → drop_trailing_whitespace (cs ++ w ∷ []) ≡ drop_trailing_whitespace cs
drop-white [] w h = rw h refl
drop-white (c ∷ cs) w h = rw (drop-white cs w h) refl

drop-visible : (cs : List ℕ) (b : ℕ) → is_whitespace b ≡ false → drop_trailing_whitespace (cs ++ b ∷ []) ≡ cs ++ b ∷ []
drop-visible [] b h = rw h refl
drop-visible (c ∷ cs) b h = rw (drop-visible cs b h) (kept (is_whitespace c) (cs ++ b ∷ []) (omega (arith, length-append cs (b ∷ [])))) where
  kept : (w : Bool) (xs : List ℕ) → 0 < length xs → cond (w && length xs == 0) [] (c ∷ xs) ≡ c ∷ xs
  kept false xs l = refl
  kept true xs l = grind (arith, common_steps)

front-IsUtf8 : (xs : List ℕ) (b : ℕ) → is_ascii b ≡ true → IsUtf8 (xs ++ b ∷ []) → IsUtf8 xs
front-IsUtf8 xs b a u =
    let inside : length xs < length (xs ++ b ∷ []) = omega (arith, length-append xs (b ∷ [])) in
    let small : get_or (xs ++ b ∷ []) (length xs) 0 < 128 = subst (λ n. n < 128) (sym (grind (arith, common_steps))) (ascii_small b a) in
    subst IsUtf8 (take-append_seam xs (b ∷ [])) (IsUtf8-take (xs ++ b ∷ []) (length xs) u (IsCharBoundary-before_ascii (xs ++ b ∷ []) (length xs) inside small))

chars-end : (xs : List ℕ) (b : ℕ) → is_ascii b ≡ true → IsUtf8 xs → chars (xs ++ b ∷ []) ≡ chars xs ++ b ∷ []
chars-end xs b a u = chars-append xs (b ∷ []) u ∙ ap (λ q. chars xs ++ q) (chars-ascii b [] a ∙ ap (λ q. b ∷ q) chars-nil)

-- the first end bytes, the last of them by itself
end-split : (bs : List ℕ) (end : ℕ) → 0 < end → end ≤ length bs → take end bs ≡ take (end - 1) bs ++ slice_index bs (end - 1) ∷ []
end-split bs end l h = grind (arith, common_steps, take_at_read bs (end - 1) 0)

-- an ASCII white space at the end is passed over
pub back-turn : (bs : List ℕ) (end : ℕ) → 0 < end → end ≤ length bs → is_ascii_space (slice_index bs (end - 1)) ≡ true → IsUtf8 (take end bs) → IsUtf8 (take (end - 1) bs) × (drop_trailing_whitespace (chars (take (end - 1) bs)) ≡ drop_trailing_whitespace (chars (take end bs)))
back-turn bs end l h s u =
    let b = slice_index bs (end - 1) in
    let both = and_true (is_ascii b) (is_whitespace b) s in
    let whole = end-split bs end l h in
    let front = front-IsUtf8 (take (end - 1) bs) b both.0 (subst IsUtf8 whole u) in
    (front, sym (ap (λ q. drop_trailing_whitespace (chars q)) whole ∙ ap drop_trailing_whitespace (chars-end (take (end - 1) bs) b both.0 front) ∙ drop-white (chars (take (end - 1) bs)) b both.1))

-- a text that ends in an ASCII character that is no white space ends in no white space
pub settled_end : (bs : List ℕ) → IsUtf8 bs → is_ascii_space (slice_index bs (length bs - 1)) ≡ false → is_ascii (slice_index bs (length bs - 1)) ≡ true → drop_trailing_whitespace (chars bs) ≡ chars bs
settled_end [] u s a = rw chars-nil refl
settled_end (c ∷ cs) u s a =
    let bs : List ℕ = c ∷ cs in
    let b = slice_index bs (length bs - 1) in
    let whole : bs ≡ take (length bs - 1) bs ++ b ∷ [] = grind (arith, common_steps, take_at_read bs (length bs - 1) 0) in
    let front = front-IsUtf8 (take (length bs - 1) bs) b a (subst IsUtf8 whole u) in
    let split = ap chars whole ∙ chars-end (take (length bs - 1) bs) b a front in
    let visible : is_whitespace b ≡ false = by_and (is_ascii b) (is_whitespace b) a s in
    ap drop_trailing_whitespace split ∙ drop-visible (chars (take (length bs - 1) bs)) b visible ∙ sym split where
      by_and : (x y : Bool) → x ≡ true → (x && y) ≡ false → y ≡ false
      by_and true y e h = h
      by_and false y e h = absurd (cc)
