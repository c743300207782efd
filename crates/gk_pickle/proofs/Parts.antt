-- Parts of a text that are read one after another.
use Rattle.std.proofs.Common.{◌≡◌, ℕ, zero, suc, ◌+◌, ◌<◌, ◌≤◌, true, Option, None, Some, List, [], ◌∷◌, ◌++◌, length, drop, reverse, max, refl, sym, ap, ◌∙◌, ⊎_elim, subst, arith, append-nil, Bor, eq-eqb}
use Rattle.std.specs.Prelude.{IfSome, OnOk, Result, Ok, Err, option_map, option_and_then, slice_get, find, nat_le, ◌==◌, ⊤}
use Rattle.std.proofs.lemmas.Bool.{cond-true, cond-false, eqb-true, or_cases, false_from_ne_true}
use Rattle.std.proofs.lemmas.List.{reverse-append}
use Rattle.std.proofs.lemmas.Option.{IfSome_then}
use Rattle.std.specs.Str.{IsUtf8}
use Rattle.gk_document.specs.declared.tree.Cell.{Cell}
use Rattle.gk_pickle.specs.declared.filling.Open.{Open}
use Rattle.gk_pickle.specs.declared.filling.Part.{Part}
use Rattle.gk_pickle.specs.SinglePass.{is_bracket, HasNoBracket, columns_named, Reading, with_bytes, with_open, closed_placeholder, closed_in, with_cell_read, step, read_to, reading_after, read_parts, AreWithin, replacement, closed_by, weight, byte_weight, work}
use Rattle.gk_pickle.proofs.Reading.{Found, Reads, at_column, From, find_from, read_plain, deeper}

pub ok_then : {T E : Type 0} (r : Result T E) {P Q : Type 0} → (P → Q) → OnOk r P → OnOk r Q
ok_then (Ok t) f h = f h
ok_then (Err e) f h = h

abbrev Given : Type 0
Given = ℕ × Bor (List ℕ)

abbrev pub found_of : Option Given → Option Found
found_of given = option_map (λ (f : Given). (f.0, f.1.now)) given

pub found_is : (given : Option Given) (f : Given) (found : Option Found) → given ≡ Some f → found_of given ≡ found → Some (f.0, f.1.now) ≡ found
found_is given f found is e = sym (ap found_of is) ∙ e

pub within_is : (row : List Cell) (given : Option Given) (f : Given) → given ≡ Some f → IfSome given (λ f. f.0 < length row) → f.0 < length row
within_is row given f is h = let P : Option Given → Type 0 = λ o. IfSome o (λ f. f.0 < length row) in subst P is h

pub none_is : (given : Option Given) (found : Option Found) → given ≡ None → found_of given ≡ found → None ≡ found
none_is given found is e = sym (ap found_of is) ∙ e

-- the innermost `<` is closed
pub closes : (header row : List Cell) (done : ℕ) (out : List ℕ) (items rest : List Open) (o : Open) (m : ℕ) (name : List ℕ) (found : Option Found)
    → items ≡ rest ++ o ∷ [] → m ≡ max o.done done → name ≡ drop (o.start + 1) out → found ≡ replacement header row m name
    → (found ≡ (closed_placeholder header row done (record { out = out; opens = reverse items })).0)
    × (closed_by found out o.start (reverse rest) ≡ (closed_placeholder header row done (record { out = out; opens = reverse items })).1)
closes header row done out items rest o m name found e em en ef =
    let all : reverse items ≡ o ∷ reverse rest = ap reverse e ∙ reverse-append rest (o ∷ []) in
    rw (all, ef, em, en) (refl, refl)

module _ (header row : List Cell) where
  abbrev reads : Reads
  reads = read_to (length row) header row

  plain_read : (done : ℕ) (text : List ℕ) (r : Reading) → HasNoBracket text → reading_after header row done text r ≡ with_bytes text r
  plain_read done text r h = ap (λ t. reading_after header row done t r) (sym (append-nil text)) ∙ read_plain reads header row done text [] r h

  cut_read : (done : ℕ) (text before after : List ℕ) (b : ℕ) (r : Reading) → text ≡ before ++ b ∷ after → HasNoBracket before
      → reading_after header row done text r ≡ reading_after header row done after (step reads header row done b (with_bytes before r))
  cut_read done text before after b r e h = ap (λ t. reading_after header row done t r) e ∙ read_plain reads header row done before (b ∷ after) r h

  -- a part without brackets
  pub part_read : (part : Part) (ps : List Part) (r new : Reading) → HasNoBracket part.text.now → new ≡ with_bytes part.text.now r
      → read_parts header row ps new ≡ read_parts header row (part ∷ ps) r
  part_read part ps r new h n = ap (read_parts header row ps) (n ∙ sym (plain_read part.done part.text.now r h))

  -- what is left of a part
  module _ (part : Part) (before : List ℕ) (b : ℕ) (after : Bor (List ℕ)) (items all : List Part) (r more new : Reading)
      (cut : part.text.now ≡ before ++ b ∷ after.now) (plain : HasNoBracket before) (m : more ≡ with_bytes before r) where
    abbrev left : Part
    left = record { text = after; done = part.done }

    left_read : all ≡ items ++ left ∷ [] → new ≡ step reads header row part.done b more
        → read_parts header row (reverse all) new ≡ read_parts header row (part ∷ reverse items) r
    left_read a n =
        ap (λ ps. read_parts header row (reverse ps) new) a ∙ ap (λ ps. read_parts header row ps new) (reverse-append items (left ∷ []))
        ∙ ap (λ s. read_parts header row (reverse items) (reading_after header row part.done after.now s)) (n ∙ ap (step reads header row part.done b) m)
        ∙ ap (read_parts header row (reverse items)) (sym (cut_read part.done part.text.now before after.now b r cut plain))

    pub open_read : all ≡ items ++ left ∷ [] → b ≡ 60 → new ≡ with_open part.done more
        → read_parts header row (reverse all) new ≡ read_parts header row (part ∷ reverse items) r
    open_read a is n = left_read a (n ∙ sym (cond-true _ _ _ (eq-eqb b 60 is)))

    closing : is_bracket b ≡ true → (b ≡ 60 → ⊥) → step reads header row part.done b more ≡ with_cell_read reads (closed_placeholder header row part.done more).0 (closed_placeholder header row part.done more).1
    closing bracket other =
        let is : b == 62 ≡ true = ⊎_elim (λ y. absurd (other (eqb-true b 60 y))) (λ y. y) (or_cases (b == 60) (b == 62) bracket) in
        cond-false _ _ _ (false_from_ne_true _ (λ t. other (eqb-true b 60 t))) ∙ cond-true _ _ _ is

    pub close_read : all ≡ items ++ left ∷ [] → is_bracket b ≡ true → (b ≡ 60 → ⊥) → None ≡ (closed_placeholder header row part.done more).0 → new ≡ (closed_placeholder header row part.done more).1
        → read_parts header row (reverse all) new ≡ read_parts header row (part ∷ reverse items) r
    close_read a bracket other none n =
        left_read a (n ∙ ap (λ f. with_cell_read reads f (closed_placeholder header row part.done more).1) none ∙ sym (closing bracket other))

    left_read_of : (push : List Part) → push ≡ items ++ left ∷ []
        → read_parts header row (reverse push) (step reads header row part.done b more) ≡ read_parts header row (part ∷ reverse items) r
    left_read_of push u =
        ap (λ ps. read_parts header row (reverse ps) (step reads header row part.done b more)) u
        ∙ ap (λ ps. read_parts header row ps (step reads header row part.done b more)) (reverse-append items (left ∷ []))
        ∙ ap (λ s. read_parts header row (reverse items) (reading_after header row part.done after.now (step reads header row part.done b s))) m
        ∙ ap (read_parts header row (reverse items)) (sym (cut_read part.done part.text.now before after.now b r cut plain))

    -- and what a cell brings
    pub bring_read : (column : ℕ) (cell : Bor (List ℕ)) (push : List Part) → push ≡ items ++ left ∷ [] → all ≡ push ++ record { text = cell; done = column + 1 } ∷ []
        → is_bracket b ≡ true → (b ≡ 60 → ⊥) → Some (column, cell.now) ≡ (closed_placeholder header row part.done more).0 → new ≡ (closed_placeholder header row part.done more).1 → column < length row
        → read_parts header row (reverse all) new ≡ read_parts header row (part ∷ reverse items) r
    bring_read column cell push u a bracket other found n l =
        let whole : reading_after header row (column + 1) cell.now new ≡ step reads header row part.done b more =
        deeper header row (suc (length row)) (length row) (column + 1) (omega arith) (omega arith) (omega arith) cell.now new
        ∙ ap (reads (column + 1) cell.now) n
        ∙ ap (λ f. with_cell_read reads f (closed_placeholder header row part.done more).1) found ∙ sym (closing bracket other) in
        ap (λ ps. read_parts header row (reverse ps) new) a ∙ ap (λ ps. read_parts header row ps new) (reverse-append push (record { text = cell; done = column + 1 } ∷ []))
        ∙ ap (read_parts header row (reverse push)) whole
        ∙ left_read_of push u

-- how much reading is left
weight_least : (w : ℕ) (text : List ℕ) → w ≤ weight w text
weight_least w [] = omega arith
weight_least w (b ∷ bs) = omega arith

weight_cut : (w : ℕ) (before : List ℕ) (b : ℕ) (after : List ℕ) → w + weight w after ≤ weight w (before ++ b ∷ after)
weight_cut w [] b after = omega arith
weight_cut w (x ∷ xs) b after = let less = weight_cut w xs b after in omega arith

byte_weight_some : (cells : List Cell) → 1 ≤ byte_weight cells
byte_weight_some [] = omega arith
byte_weight_some (c ∷ cs) = omega arith

cell_weight : (row : List Cell) (done column : ℕ) → done ≤ column
    → IfSome (slice_get row column) (λ cell. weight (byte_weight (drop (column + 1) row)) cell.value < byte_weight (drop done row))
cell_weight [] done column le = tt
cell_weight (c ∷ cs) zero zero le = omega arith
cell_weight (c ∷ cs) zero (suc k) le =
    let next : suc k + 1 ≡ suc (k + 1) = omega arith in
    IfSome_then _ {Q = λ cell. weight (byte_weight (drop (suc k + 1) (c ∷ cs))) cell.value < byte_weight (c ∷ cs)} (cell_weight cs zero k (omega arith))
    (λ cell h. omega (arith, h, ap (λ m. weight (byte_weight (drop m (c ∷ cs))) cell.value) next))
cell_weight (c ∷ cs) (suc d) zero le = absurd (omega arith)
cell_weight (c ∷ cs) (suc d) (suc k) le =
    let next : suc k + 1 ≡ suc (k + 1) = omega arith in
    IfSome_then _ {Q = λ cell. weight (byte_weight (drop (suc k + 1) (c ∷ cs))) cell.value < byte_weight (drop d cs)} (cell_weight cs d k (omega arith))
    (λ cell h. omega (arith, h, ap (λ m. weight (byte_weight (drop m (c ∷ cs))) cell.value) next))

-- what is found weighs less than a byte where it is found
abbrev Lighter : List Cell → ℕ → Option Found → Type 0
Lighter row done None = ⊤
Lighter row done (Some f) = weight (byte_weight (drop (f.0 + 1) row)) f.1 < byte_weight (drop done row)

lighter_cell : (row : List Cell) (done k : ℕ) (o : Option Cell)
    → IfSome o (λ cell. weight (byte_weight (drop (k + 1) row)) cell.value < byte_weight (drop done row))
    → Lighter row done (option_map {U = Found} (λ (c : Cell). (k, c.value)) o)
lighter_cell row done k None h = tt
lighter_cell row done k (Some c) h = h

lighter_column : (row : List Cell) (done from : ℕ) (found : Option ℕ) → done ≤ from → From from found → Lighter row done (option_and_then (at_column row) found)
lighter_column row done from None le h = tt
lighter_column row done from (Some k) le h = lighter_cell row done k (slice_get row k) (cell_weight row done k (omega (arith, h)))

lighter : (header row : List Cell) (done : ℕ) (out : List ℕ) (opens : List Open) → Lighter row done (closed_in header row done out opens).0
lighter header row done out [] = tt
lighter header row done out (o ∷ os) =
    let from : ℕ = max o.done done in
    let name : List ℕ = drop (o.start + 1) out in
    lighter_column row done from (find (λ column. nat_le from column) (columns_named name header)) (omega arith) (find_from from (columns_named name header))

work_more : (row : List Cell) (items : List Part) (p : Part) → work row (items ++ p ∷ []) ≡ weight (byte_weight (drop p.done row)) p.text.now + work row items
work_more row [] p = refl
work_more row (q ∷ qs) p = let more = work_more row qs p in omega arith

pub none_left : (row : List Cell) (part : Part) (ps : List Part) → work row ps < work row (part ∷ ps)
none_left row part ps =
    let some = byte_weight_some (drop part.done row) in
    let least = weight_least (byte_weight (drop part.done row)) part.text.now in
    omega arith

module _ (row : List Cell) (part : Part) (before : List ℕ) (b : ℕ) (after : Bor (List ℕ)) (items push : List Part) (cut : part.text.now ≡ before ++ b ∷ after.now)
    (u : push ≡ items ++ record { text = after; done = part.done } ∷ []) where
  abbrev byte : ℕ
  byte = byte_weight (drop part.done row)

  one_less : work row push + byte ≤ work row (part ∷ items)
  one_less =
      let whole : weight byte part.text.now ≡ weight byte (before ++ b ∷ after.now) = ap (weight byte) cut in
      let rest = weight_cut byte before b after.now in
      let more : work row push ≡ weight byte after.now + work row items = ap (work row) u ∙ work_more row items (record { text = after; done = part.done }) in
      omega arith

  pub less_left : work row push < work row (part ∷ items)
  less_left =
      let some = byte_weight_some (drop part.done row) in
      let less = one_less in
      omega arith

  pub less_brought : (header : List Cell) (more : Reading) (column : ℕ) (cell : Bor (List ℕ)) (all : List Part) → all ≡ push ++ record { text = cell; done = column + 1 } ∷ []
      → Some (column, cell.now) ≡ (closed_placeholder header row part.done more).0 → work row all < work row (part ∷ items)
  less_brought header more column cell all a found =
      let P : Option Found → Type 0 = Lighter row part.done in
      let light : weight (byte_weight (drop (column + 1) row)) cell.now < byte = subst P (sym found) (lighter header row part.done more.out more.opens) in
      let most : work row all ≡ weight (byte_weight (drop (column + 1) row)) cell.now + work row push =
      ap (work row) a ∙ work_more row push (record { text = cell; done = column + 1 }) in
      let less = one_less in
      omega arith

-- one part more
one_within : (row : List Cell) (items : List Part) (p : Part) → IsUtf8 p.text.now → p.done ≤ length row → AreWithin row items → AreWithin row (items ++ p ∷ [])
one_within row [] p u le h = ((u, le), tt)
one_within row (q ∷ qs) p u le h = (h.0, one_within row qs p u le h.1)

pub more_within : (row : List Cell) (items all : List Part) (p : Part) → all ≡ items ++ p ∷ [] → IsUtf8 p.text.now → p.done ≤ length row → AreWithin row items → AreWithin row all
more_within row items all p a u le h = rw a (one_within row items p u le h)

-- the last part, taken off
last_within : (row : List Cell) (rest : List Part) (p : Part) → AreWithin row (rest ++ p ∷ []) → AreWithin row (p ∷ rest)
last_within row [] p h = h
last_within row (q ∷ qs) p h = let more = last_within row qs p h.1 in (more.0, (h.0, more.1))

pub popped_within : (row : List Cell) (items rest : List Part) (p : Part) → items ≡ rest ++ p ∷ [] → AreWithin row items → AreWithin row (p ∷ rest)
popped_within row items rest p e h = let P : List Part → Type 0 = AreWithin row in last_within row rest p (subst P e h)

pub popped_work : (row : List Cell) (items rest : List Part) (p : Part) → items ≡ rest ++ p ∷ [] → work row items ≡ work row (p ∷ rest)
popped_work row items rest p e = ap (work row) e ∙ work_more row rest p
