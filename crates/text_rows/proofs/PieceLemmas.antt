-- Texts and rows that are cut from a buffer, and one more after them.
use Rattle.std.proofs.Common.{ℕ, ◌≡◌, ◌≤◌, ◌∙◌, ap, refl, subst, sym, arith, List, [], ◌∷◌, ◌++◌, drop, length, length-append, suc, take}
use Rattle.std.specs.Prelude.{IsTrue}
use Rattle.std.specs.Str.{IsCharBoundary, IsUtf8, is_utf8}
use Rattle.std.proofs.lemmas.List.{drop-append-le, take-append-drop, take-append-le}
use Rattle.std.proofs.lemmas.Str.{IsCharBoundary-from_take, IsUtf8-append, IsUtf8-from_is_utf8, IsUtf8-nil, is_utf8-from_IsUtf8}
use Rattle.text_rows.specs.Pieces.{AreRows, AreTexts, rows_of, texts_of}
use Rattle.text_rows.specs.declared.rows.RowSize.{RowSize}

take_whole : {X : Type 0} (xs : List X) → take (length xs) xs ≡ xs
take_whole [] = refl
take_whole (x ∷ xs) = ap (λ ys. x ∷ ys) (take_whole xs)

drop_whole : {X : Type 0} (xs : List X) → drop (length xs) xs ≡ []
drop_whole [] = refl
drop_whole (x ∷ xs) = drop_whole xs

within : {X : Type 0} (n : ℕ) (xs ys : List X) → n ≤ length xs → n ≤ length (xs ++ ys)
within n xs ys le = omega (arith, le, length-append xs ys)

-- ---- texts

-- texts in a row are one text
pub texts_utf8 : (ns bs : List ℕ) → AreTexts ns bs → IsUtf8 bs
texts_utf8 [] bs none = subst IsUtf8 (sym none) IsUtf8-nil
texts_utf8 (n ∷ ns) bs are =
    subst IsUtf8 (take-append-drop n bs)
    (IsUtf8-append (take n bs) (drop n bs) (IsUtf8-from_is_utf8 (take n bs) are.1) (texts_utf8 ns (drop n bs) are.2))

-- a buffer may be cut after its first text
pub first_end : (n : ℕ) (ns bs : List ℕ) → AreTexts (n ∷ ns) bs → IsCharBoundary bs n
first_end n ns bs are =
    IsCharBoundary-from_take bs n (texts_utf8 (n ∷ ns) bs are) are.0 (IsUtf8-from_is_utf8 (take n bs) are.1)

pub texts_more : (ns bs text : List ℕ) → AreTexts ns bs → texts_of (ns ++ length text ∷ []) (bs ++ text) ≡ texts_of ns bs ++ text ∷ []
texts_more [] bs text none = rw none (ap (λ t. t ∷ []) (take_whole text))
texts_more (n ∷ ns) bs text are =
    ap (λ t. t ∷ texts_of (ns ++ length text ∷ []) (drop n (bs ++ text))) (take-append-le n bs text are.0)
    ∙ ap (λ rest. take n bs ∷ texts_of (ns ++ length text ∷ []) rest) (drop-append-le n bs text are.0)
    ∙ ap (λ ts. take n bs ∷ ts) (texts_more ns (drop n bs) text are.2)

pub are_texts_more : (ns bs text : List ℕ) → AreTexts ns bs → IsUtf8 text → AreTexts (ns ++ length text ∷ []) (bs ++ text)
are_texts_more [] bs text none utf8 =
    rw none (
      omega arith,
      subst (λ t. IsTrue (is_utf8 t)) (sym (take_whole text)) (is_utf8-from_IsUtf8 text utf8),
      drop_whole text,
    )
are_texts_more (n ∷ ns) bs text are utf8 = (
  within n bs text are.0,
  subst (λ t. IsTrue (is_utf8 t)) (sym (take-append-le n bs text are.0)) are.1,
  subst (AreTexts (ns ++ length text ∷ [])) (sym (drop-append-le n bs text are.0)) (are_texts_more ns (drop n bs) text are.2 utf8),
)

-- there are as many as lengths
pub texts_count : (ns bs : List ℕ) → length (texts_of ns bs) ≡ length ns
texts_count [] bs = refl
texts_count (n ∷ ns) bs = ap suc (texts_count ns (drop n bs))

-- ---- rows

-- rows of texts are one text
pub rows_utf8 : (rs : List RowSize) (ns bs : List ℕ) → AreRows rs ns bs → IsUtf8 bs
rows_utf8 [] ns bs none = subst IsUtf8 (sym none.1) IsUtf8-nil
rows_utf8 (r ∷ rs) ns bs are =
    subst IsUtf8 (take-append-drop r.bytes bs)
    (IsUtf8-append (take r.bytes bs) (drop r.bytes bs)
    (texts_utf8 (take r.texts ns) (take r.bytes bs) are.2) (rows_utf8 rs (drop r.texts ns) (drop r.bytes bs) are.3))

-- a buffer may be cut after its first row
pub first_row_end : (r : RowSize) (rs : List RowSize) (ns bs : List ℕ) → AreRows (r ∷ rs) ns bs → IsCharBoundary bs r.bytes
first_row_end r rs ns bs are =
    IsCharBoundary-from_take bs r.bytes (rows_utf8 (r ∷ rs) ns bs are) are.1 (texts_utf8 (take r.texts ns) (take r.bytes bs) are.2)

-- a row of these lengths and bytes
abbrev pub size_of : (lengths bytes : List ℕ) → RowSize
size_of lengths bytes = record { texts = length lengths; bytes = length bytes }

pub rows_more : (rs : List RowSize) (ns bs ms cs : List ℕ) → AreRows rs ns bs → rows_of (rs ++ size_of ms cs ∷ []) (ns ++ ms) (bs ++ cs) ≡ rows_of rs ns bs ++ texts_of ms cs ∷ []
rows_more [] ns bs ms cs none = rw (none.0, none.1) (ap (λ ts. ts ∷ []) (λ j. texts_of (take_whole ms j) (take_whole cs j)))
rows_more (r ∷ rs) ns bs ms cs are =
    λ j. texts_of (take-append-le r.texts ns ms are.0 j) (take-append-le r.bytes bs cs are.1 j)
    ∷ ((λ i. rows_of (rs ++ size_of ms cs ∷ []) (drop-append-le r.texts ns ms are.0 i) (drop-append-le r.bytes bs cs are.1 i))
    ∙ rows_more rs (drop r.texts ns) (drop r.bytes bs) ms cs are.3) j

pub are_rows_more : (rs : List RowSize) (ns bs ms cs : List ℕ) → AreRows rs ns bs → AreTexts ms cs → AreRows (rs ++ size_of ms cs ∷ []) (ns ++ ms) (bs ++ cs)
are_rows_more [] ns bs ms cs none texts =
    rw (none.0, none.1) (
      omega arith,
      omega arith,
      subst (λ ls. AreTexts ls (take (length cs) cs)) (sym (take_whole ms)) (subst (AreTexts ms) (sym (take_whole cs)) texts),
      (drop_whole ms, drop_whole cs),
    )
are_rows_more (r ∷ rs) ns bs ms cs are texts = (
  within r.texts ns ms are.0,
  within r.bytes bs cs are.1,
  subst (λ ls. AreTexts ls (take r.bytes (bs ++ cs))) (sym (take-append-le r.texts ns ms are.0))
      (subst (AreTexts (take r.texts ns)) (sym (take-append-le r.bytes bs cs are.1)) are.2),
  subst (λ ls. AreRows (rs ++ size_of ms cs ∷ []) ls (drop r.bytes (bs ++ cs))) (sym (drop-append-le r.texts ns ms are.0))
      (subst (AreRows (rs ++ size_of ms cs ∷ []) (drop r.texts ns ++ ms)) (sym (drop-append-le r.bytes bs cs are.1)) (are_rows_more rs (drop r.texts ns) (drop r.bytes bs) ms cs are.3 texts)),
)
