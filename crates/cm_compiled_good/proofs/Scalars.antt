-- Lists of characters that are scalar values, as all parts of a text of UTF-8 are.
use Rattle.std.proofs.Common.{◌≡◌, ℕ, suc, zero, ◌≤◌, ◌==◌, ◌-◌, List, [], ◌∷◌, ◌++◌, Bool, true, false, cond, length, take, drop, IsUtf8, refl, ap, arith}
use Rattle.std.specs.Prelude.{is_some, nat_lt, slice_index}
use Rattle.std.specs.Char.{IsScalar, is_whitespace}
use Rattle.std.specs.List.{AllByRecursion, slice_split, onto_first}
use Rattle.std.specs.Str.{encode_utf8_all, chars, skip_leading_whitespace}
use Rattle.std.specs.Str.Lines.{lines, lines_of_parts, strip_carriage_return}
use Rattle.std.proofs.Math.Utf8.{scalars}
use Rattle.std.proofs.lemmas.Str.{scalars-chars, encodes-chars, length-le-encodes}
use Rattle.gk_line.specs.Texts.{text_after_indent, after}
use Rattle.gk_line.specs.Lines.{without_mark}
use Rattle.gk_line.specs.Characters.{byte_order_mark}
use Rattle.gk_document.specs.Fences.{fence_mark}
use Rattle.gk_line.specs.DocStrings.{outdented_line, fences_unescaped, escaped_mark, doc_line_of}
use Rattle.gk_line.specs.Tokens.{indent_of}
use Rattle.gk_document.specs.declared.tree.Fence.{Fence}
use Rattle.gk_document.specs.declared.tree.Fence.TheVariants.{Quotes, Backticks}
use Rattle.cm_stream.proofs.Lists.{and_true}

abbrev pub Scalars : List ℕ → Type 0
Scalars cs = AllByRecursion IsScalar cs

scalars_all : (cs : List ℕ) → Scalars cs → scalars cs ≡ true
scalars_all [] h = refl
scalars_all (c ∷ cs) h = rw (h.0, scalars_all cs h.1) refl

all_scalars : (cs : List ℕ) → scalars cs ≡ true → Scalars cs
all_scalars [] h = tt
all_scalars (c ∷ cs) h = let k = and_true _ _ h in (k.0, all_scalars cs k.1)

pub encoded : (cs : List ℕ) → Scalars cs → IsUtf8 (encode_utf8_all cs)
encoded cs h = (cs, (scalars_all cs h, refl))

pub scalars_of : (text : List ℕ) → IsUtf8 text → Scalars (chars text)
scalars_of text u = all_scalars (chars text) (scalars-chars text u)

pub chars_fewer : (text : List ℕ) → IsUtf8 text → length (chars text) ≤ length text
chars_fewer text u = omega (arith, length-le-encodes (chars text), ap length (encodes-chars text u))

-- ---- parts

pub parts_apart : {A : Type 0} (P : A → Type 0) (xs ys : List A) → AllByRecursion P (xs ++ ys) → AllByRecursion P xs × AllByRecursion P ys
parts_apart P [] ys h = (tt, h)
parts_apart P (x ∷ xs) ys h = let k = parts_apart P xs ys h.1 in ((h.0, k.0), k.1)

taken : {A : Type 0} (P : A → Type 0) (n : ℕ) (xs : List A) → AllByRecursion P xs → AllByRecursion P (take n xs)
taken P zero xs h = tt
taken P (suc n) [] h = tt
taken P (suc n) (x ∷ xs) h = (h.0, taken P n xs h.1)

dropped : {A : Type 0} (P : A → Type 0) (n : ℕ) (xs : List A) → AllByRecursion P xs → AllByRecursion P (drop n xs)
dropped P zero xs h = h
dropped P (suc n) [] h = tt
dropped P (suc n) (x ∷ xs) h = dropped P n xs h.1

take_shorter : (n : ℕ) (xs : List ℕ) → length (take n xs) ≤ length xs
take_shorter zero xs = omega arith
take_shorter (suc n) [] = omega arith
take_shorter (suc n) (x ∷ xs) = omega (arith, take_shorter n xs)

body_scalars : (cs : List ℕ) → Scalars cs → Scalars (text_after_indent cs)
unfolding text_after_indent
body_scalars cs h = skipped cs h
  where
    skipped : (cs : List ℕ) → Scalars cs → Scalars (skip_leading_whitespace cs)
    skipped [] h = tt
    skipped (c ∷ cs) h = go (is_whitespace c) (skipped cs h.1)
      where
        go : (b : Bool) → Scalars (skip_leading_whitespace cs) → Scalars (cond b (skip_leading_whitespace cs) (c ∷ cs))
        go true k = k
        go false k = h

-- ---- lists that are cut

onto_all : {A : Type 0} (P : A → Type 0) (x : A) (ps : List (List A)) → P x → AllByRecursion (AllByRecursion P) ps → AllByRecursion (AllByRecursion P) (onto_first x ps)
onto_all P x [] h k = ((h, tt), tt)
onto_all P x (p ∷ ps) h k = ((h, k.0), k.1)

pub split_all : {A : Type 0} (P : A → Type 0) (q : A → Bool) (xs : List A) → AllByRecursion P xs → AllByRecursion (AllByRecursion P) (slice_split q xs)
split_all P q [] h = (tt, tt)
split_all {A} P q (x ∷ xs) h = go (q x) (split_all P q xs h.1)
  where
    go : (b : Bool) → AllByRecursion (AllByRecursion P) (slice_split q xs) → AllByRecursion (AllByRecursion P) (cond b ([] ∷ slice_split q xs) (onto_first x (slice_split q xs)))
    go true k = (tt, k)
    go false k = onto_all P x (slice_split q xs) h.0 k

abbrev Short : ℕ → List (List ℕ) → Type 0
Short m ps = AllByRecursion (λ (p : List ℕ). length p ≤ m) ps

longer : (m n : ℕ) (ps : List (List ℕ)) → m ≤ n → Short m ps → Short n ps
longer m n [] h k = tt
longer m n (p ∷ ps) h k = (let short = k.0 in omega arith, longer m n ps h k.1)

onto_short : (m x : ℕ) (ps : List (List ℕ)) → Short m ps → Short (suc m) (onto_first x ps)
onto_short m x [] k = (omega arith, tt)
onto_short m x (p ∷ ps) k = (let short = k.0 in omega arith, longer m (suc m) ps (omega arith) k.1)

split_short : (q : ℕ → Bool) (xs : List ℕ) → Short (length xs) (slice_split q xs)
split_short q [] = (omega arith, tt)
split_short q (x ∷ xs) = go (q x) (split_short q xs)
  where
    go : (b : Bool) → Short (length xs) (slice_split q xs) → Short (length (x ∷ xs)) (cond b ([] ∷ slice_split q xs) (onto_first x (slice_split q xs)))
    go true k = (omega arith, longer (length xs) (suc (length xs)) (slice_split q xs) (omega arith) k)
    go false k = onto_short (length xs) x (slice_split q xs) k

-- ---- lines

-- characters that are scalar values, and no more than these
abbrev pub Fits : ℕ → List ℕ → Type 0
Fits m cs = Scalars cs × (length cs ≤ m)

both : (m : ℕ) (ps : List (List ℕ)) → AllByRecursion Scalars ps → Short m ps → AllByRecursion (Fits m) ps
both m [] h k = tt
both m (p ∷ ps) h k = ((h.0, k.0), both m ps h.1 k.1)

stripped : (m : ℕ) (cs : List ℕ) → Fits m cs → Fits m (strip_carriage_return cs)
stripped m cs h = go (slice_index cs (length cs - 1) == 13)
  where
    go : (b : Bool) → Fits m (cond b (take (length cs - 1) cs) cs)
    go true = (taken IsScalar (length cs - 1) cs h.0, let shorter = take_shorter (length cs - 1) cs in let few = h.1 in omega arith)
    go false = h

parts_fit : (m : ℕ) (ps : List (List ℕ)) → AllByRecursion (Fits m) ps → AllByRecursion (Fits m) (lines_of_parts ps)
parts_fit m [] h = tt
parts_fit m (x ∷ []) h = go (length x == 0)
  where
    go : (b : Bool) → AllByRecursion (Fits m) (cond b [] (x ∷ []))
    go true = tt
    go false = h
parts_fit m (x ∷ y ∷ more) h = (stripped m x h.0, parts_fit m (y ∷ more) h.1)

lines_fit : (cs : List ℕ) → Scalars cs → AllByRecursion (Fits (length cs)) (lines cs)
lines_fit cs h = parts_fit (length cs) _ (both (length cs) _ (split_all IsScalar (λ b. b == 10) cs h) (split_short (λ b. b == 10) cs))

weaker_fit : (m n : ℕ) (ps : List (List ℕ)) → m ≤ n → AllByRecursion (Fits m) ps → AllByRecursion (Fits n) ps
weaker_fit m n [] h k = tt
weaker_fit m n (p ∷ ps) h k = ((k.0.0, let short = k.0.1 in omega arith), weaker_fit m n ps h k.1)

pub text_lines_fit : (m : ℕ) (cs : List ℕ) → Scalars cs → length cs ≤ m → AllByRecursion (Fits m) (lines (without_mark cs))
unfolding without_mark
text_lines_fit m [] h short = weaker_fit 0 m (lines []) (omega arith) (lines_fit [] tt)
text_lines_fit m (c ∷ cs) h short = go (c == byte_order_mark)
  where
    go : (b : Bool) → AllByRecursion (Fits m) (lines (cond b cs (c ∷ cs)))
    go true = weaker_fit (length cs) m (lines cs) (omega arith) (lines_fit cs h.1)
    go false = weaker_fit (length (c ∷ cs)) m (lines (c ∷ cs)) (omega arith) (lines_fit (c ∷ cs) h)

-- ---- doc strings

mark_fits : (f : Fence) → IsScalar (fence_mark f)
mark_fits Quotes = refl
mark_fits Backticks = refl

unescaped_fits : (mark skip : ℕ) (cs : List ℕ) → IsScalar mark → Scalars cs → Scalars (fences_unescaped mark skip cs)
unescaped_fits mark skip [] m h = tt
unescaped_fits mark (suc skip) (c ∷ cs) m h = unescaped_fits mark skip cs m h.1
unescaped_fits mark zero (c ∷ cs) m h = go (is_some (after (escaped_mark mark) (c ∷ cs))) (unescaped_fits mark 5 cs m h.1) (unescaped_fits mark 0 cs m h.1)
  where
    go : (b : Bool) → Scalars (fences_unescaped mark 5 cs) → Scalars (fences_unescaped mark 0 cs)
        → Scalars (cond b (mark ∷ mark ∷ mark ∷ fences_unescaped mark 5 cs) (c ∷ fences_unescaped mark 0 cs))
    go true five none = (m, (m, (m, five)))
    go false five none = (h.0, none)

outdented_fits : (n : ℕ) (cs : List ℕ) → Scalars cs → Scalars (outdented_line n cs)
unfolding outdented_line
outdented_fits n cs h = go (nat_lt (indent_of cs) n)
  where
    go : (b : Bool) → Scalars (cond b (text_after_indent cs) (drop n cs))
    go true = body_scalars cs h
    go false = dropped IsScalar n cs h

pub doc_line_fits : (f : Fence) (n : ℕ) (cs : List ℕ) → Scalars cs → Scalars (doc_line_of f n cs)
unfolding doc_line_of
doc_line_fits f n cs h = unescaped_fits (fence_mark f) 0 (outdented_line n cs) (mark_fits f) (outdented_fits n cs h)
