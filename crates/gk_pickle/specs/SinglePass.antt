-- What one pass over a text has read and does, in the contracts of `src/fill_single_pass` and of `src/columns`; no public
-- contract needs it. Each `>` closes the innermost `<` that is open, and where a column has the name between them, its cell is
-- read in their place, and only the columns after it fill what it brings.
use Rattle.std.specs.Prelude.{◌≡◌, ℕ, zero, suc, ◌+◌, ◌<◌, ◌≤◌, ⊤, Bool, false, ◌||◌, max, nat_le, ◌==◌, Option, None, Some, option_map, option_and_then, List, [], ◌∷◌, ◌++◌, map, length, take, drop, find, slice_get, if◌then◌else◌}
use Rattle.std.specs.List.{AllByRecursion}
use Rattle.std.specs.Str.{IsUtf8, bytes_eq}
use Rattle.gk_document.specs.declared.tree.Cell.{Cell}
use Rattle.gk_pickle.specs.declared.filling.Open.{Open}
use Rattle.gk_pickle.specs.declared.filling.Part.{Part}

abbrev pub is_bracket : ℕ → Bool
is_bracket b = b == 60 || b == 62

abbrev pub HasNoBracket : List ℕ → Type 0
HasNoBracket text = AllByRecursion (λ b. is_bracket b ≡ false) text

-- no cell has a bracket
abbrev pub HaveNoBracket : List Cell → Type 0
HaveNoBracket cells = AllByRecursion (λ c. HasNoBracket c.value) cells

-- the columns of a header that have a name, from 0
abbrev pub columns_named : List ℕ → List Cell → List ℕ
columns_named name [] = []
columns_named name (c ∷ cs) =
    if bytes_eq name c.value then 0 ∷ map suc (columns_named name cs)
    else map suc (columns_named name cs)

-- the first column from `done` on that has the name, with its cell, where the row has one
abbrev pub replacement : List Cell → List Cell → ℕ → List ℕ → Option (ℕ × List ℕ)
replacement header row done name =
    option_and_then (λ column. option_map (λ cell. (column, cell.value)) (slice_get row column))
    (find (λ column. nat_le done column) (columns_named name header))

-- what is written so far, and each `<` in it that may open a placeholder, the innermost first
pub record Reading : Type 0 where
  pub out : List ℕ
  pub opens : List Open

abbrev pub nothing_read : Reading
nothing_read = record { out = []; opens = [] }

abbrev pub with_bytes : List ℕ → Reading → Reading
with_bytes bytes r = record r { out = r.out ++ bytes }

-- a `<`, in whose place `done` columns are done
abbrev pub with_open : ℕ → Reading → Reading
with_open done r = record {
  out = r.out ++ 60 ∷ [];
  opens = record { start = length r.out; done = done } ∷ r.opens;
}

-- around a placeholder that is filled, the columns before `done` are done
abbrev pub raised_opens : ℕ → List Open → List Open
raised_opens done [] = []
raised_opens done (o ∷ os) = record o { done = max o.done done } ∷ os

-- a `>` that closes no placeholder is written, and no `<` before it opens one; else the placeholder goes
abbrev pub closed_by : Option (ℕ × List ℕ) → List ℕ → ℕ → List Open → Reading
closed_by None out start around = record { out = out ++ 62 ∷ []; opens = [] }
closed_by (Some found) out start around = record {
  out = take start out;
  opens = raised_opens (found.0 + 1) around;
}

-- the column and the cell of the placeholder that a `>` closes, in whose place `done` columns are done, and what then is written
abbrev pub closed_in : List Cell → List Cell → ℕ → List ℕ → List Open
    → Option (ℕ × List ℕ) × Reading
closed_in header row done out [] = (None, record { out = out ++ 62 ∷ []; opens = [] })
closed_in header row done out (o ∷ os) =
    let found = replacement header row (max o.done done) (drop (o.start + 1) out) in
    (found, closed_by found out o.start os)

abbrev pub closed_placeholder : List Cell → List Cell → ℕ → Reading → Option (ℕ × List ℕ) × Reading
closed_placeholder header row done r = closed_in header row done r.out r.opens

-- what a cell brings is read where its column and those before it are done
abbrev pub with_cell_read : (ℕ → List ℕ → Reading → Reading) → Option (ℕ × List ℕ) → Reading
    → Reading
with_cell_read reads None r = r
with_cell_read reads (Some found) r = reads (found.0 + 1) found.1 r

abbrev pub step : (ℕ → List ℕ → Reading → Reading) → List Cell → List Cell → ℕ → ℕ → Reading
    → Reading
step reads header row done b r =
    if b == 60 then with_open done r
    else if b == 62
    then with_cell_read reads (closed_placeholder header row done r).0
    (closed_placeholder header row done r).1
    else with_bytes (b ∷ []) r

abbrev pub read_by : (ℕ → List ℕ → Reading → Reading) → List Cell → List Cell → ℕ → List ℕ → Reading
    → Reading
read_by reads header row done [] r = r
read_by reads header row done (b ∷ bs) r =
    read_by reads header row done bs (step reads header row done b r)

-- a text is read, where `done` columns are done, with cells that bring cells to this depth
abbrev pub read_to : ℕ → List Cell → List Cell → ℕ → List ℕ → Reading → Reading
read_to zero header row done text r = r
read_to (suc depth) header row done text r =
    read_by (read_to depth header row) header row done text r

-- each cell in a cell is of a later column
abbrev pub reading_after : List Cell → List Cell → ℕ → List ℕ → Reading → Reading
reading_after header row done text r = read_to (suc (length row)) header row done text r

-- texts that are still to be read, each where as many columns are done
abbrev pub read_parts : List Cell → List Cell → List Part → Reading → Reading
read_parts header row [] r = r
read_parts header row (p ∷ ps) r =
    read_parts header row ps (reading_after header row p.done p.text.now r)

-- each of these `<` is in what is written, the first after the others
abbrev pub AreOpenIn : List ℕ → List Open → Type 0
AreOpenIn out [] = ⊤
AreOpenIn out (o ∷ os) =
    (o.start < length out) × (slice_get out o.start ≡ Some 60) × AreOpenIn (take o.start out) os

-- these parts are texts, and none is said to be done beyond the row
abbrev pub AreWithin : List Cell → List Part → Type 0
AreWithin row parts = AllByRecursion (λ p. IsUtf8 p.text.now × (p.done ≤ length row)) parts

-- How much reading may be left: a byte weighs more than the text that a cell of these columns brings.
abbrev pub weight : ℕ → List ℕ → ℕ
weight byte [] = byte
weight byte (b ∷ bs) = byte + weight byte bs

abbrev pub byte_weight : List Cell → ℕ
byte_weight [] = 1
byte_weight (c ∷ cs) = suc (byte_weight cs + weight (byte_weight cs) c.value)

abbrev pub work : List Cell → List Part → ℕ
work row [] = 0
work row (p ∷ ps) = weight (byte_weight (drop p.done row)) p.text.now + work row ps
