-- Filling a text in one reading is filling it column by column.
use Rattle.std.proofs.Common.{◌≡◌, ℕ, zero, suc, ◌+◌, ◌-◌, ◌<◌, ◌≤◌, false, Option, None, Some, List, [], ◌∷◌, ◌++◌, length, take, drop, map, max, refl, sym, ap, ◌∙◌, ⊎_elim, subst, arith, append_assoc, append-nil, length-append, length-drop, le_refl}
use Rattle.std.specs.Prelude.{find, nat_eq, nat_le, slice_get, option_map, option_and_then, bytes_eq, ◌==◌, ⊤}
use Rattle.std.specs.List.{starts_with}
use Rattle.std.proofs.lemmas.Bool.{cases_Bool, cond-true, cond-false, eqb-true, or_parts, le-leb, lt-leb, leb-true, leb-false, false_from_ne_true, both_ways}
use Rattle.std.proofs.lemmas.List.{drop_at, take_at, drop-append-le}
use Rattle.std.proofs.lemmas.Slice.Eq.{bytes_eq-Decides}
use Rattle.gk_document.specs.declared.tree.Cell.{Cell}
use Rattle.gk_pickle.specs.declared.filling.Open.{Open}
use Rattle.gk_pickle.specs.Fill.{placeholder, replaced_text, filled_text}
use Rattle.gk_pickle.specs.SinglePass.{is_bracket, HasNoBracket, HaveNoBracket, columns_named, replacement, Reading, nothing_read, with_bytes, with_open, raised_opens, closed_by, closed_in, with_cell_read, step, read_by, read_to, reading_after}
use Rattle.std.proofs.lemmas.Option.{slice_get_cases}
use Rattle.gk_pickle.proofs.Replacing.{nowhere, starts, occurs, fits_of, first, not_at_front, length-placeholder}
use Rattle.gk_pickle.proofs.Cutting.{split_at, place_of}

-- how a cell is read that a placeholder brings, where a number of columns is done
abbrev pub Reads : Type 0
Reads = ℕ → List ℕ → Reading → Reading

module _ (reads : Reads) (header row : List Cell) (done : ℕ) where
  abbrev go : List ℕ → Reading → Reading
  go text r = read_by reads header row done text r

  step_plain : (b : ℕ) (r : Reading) → is_bracket b ≡ false → step reads header row done b r ≡ with_bytes (b ∷ []) r
  step_plain b r h = let parts = or_parts (b == 60) (b == 62) h in cond-false _ _ _ parts.0 ∙ cond-false _ _ _ parts.1

  -- bytes that are no brackets are only added
  pub read_plain : (before rest : List ℕ) (r : Reading) → HasNoBracket before → go (before ++ rest) r ≡ go rest (with_bytes before r)
  read_plain [] rest r h = ap (λ o. go rest (record r { out = o })) (sym (append-nil r.out))
  read_plain (b ∷ bs) rest r h =
      ap (go (bs ++ rest)) (step_plain b r h.0) ∙ read_plain bs rest (with_bytes (b ∷ []) r) h.1
      ∙ ap (λ o. go rest (record r { out = o })) (append_assoc r.out (b ∷ []) bs)

  read_both : (front back : List ℕ) (r : Reading) → go (front ++ back) r ≡ go back (go front r)
  read_both [] back r = refl
  read_both (b ∷ bs) back r = read_both bs back (step reads header row done b r)

  -- where no name is replaced, the text stays
  module _ (none : (from : ℕ) (name : List ℕ) → replacement header row from name ≡ None) where
    abbrev after_close : (Option (ℕ × List ℕ) × Reading) → Reading
    after_close c = with_cell_read reads c.0 c.1

    out_closed : (out : List ℕ) (opens : List Open) → (after_close (closed_in header row done out opens)).out ≡ out ++ 62 ∷ []
    out_closed out [] = refl
    out_closed out (o ∷ os) = ap (λ f. (after_close (f, closed_by f out o.start os)).out) (none (max o.done done) (drop (o.start + 1) out))

    out_step : (b : ℕ) (r : Reading) → (step reads header row done b r).out ≡ r.out ++ b ∷ []
    out_step b r =
        ⊎_elim (λ yes. ap (λ (s : Reading). s.out) (cond-true _ _ _ yes) ∙ ap (λ x. r.out ++ x ∷ []) (sym (eqb-true b 60 yes)))
        (λ no.
        ap (λ (s : Reading). s.out) (cond-false _ _ _ no)
        ∙ ⊎_elim (λ yes. ap (λ (s : Reading). s.out) (cond-true _ _ _ yes) ∙ out_closed r.out r.opens ∙ ap (λ x. r.out ++ x ∷ []) (sym (eqb-true b 62 yes)))
        (λ other. ap (λ (s : Reading). s.out) (cond-false _ _ _ other)) (cases_Bool (b == 62)))
        (cases_Bool (b == 60))

    out_read : (text : List ℕ) (r : Reading) → (go text r).out ≡ r.out ++ text
    out_read [] r = sym (append-nil r.out)
    out_read (b ∷ bs) r = out_read bs (step reads header row done b r) ∙ ap (λ o. o ++ bs) (out_step b r) ∙ append_assoc r.out (b ∷ []) bs

abbrev pub Found : Type 0
Found = ℕ × List ℕ

abbrev pub at_column : List Cell → ℕ → Option Found
at_column row column = option_map (λ cell. (column, cell.value)) (slice_get row column)

no_header : (row : List Cell) (done : ℕ) (name : List ℕ) → replacement [] row done name ≡ None
no_header row done name = refl

no_cell : (found : Option ℕ) → option_and_then (at_column []) found ≡ None
no_cell None = refl
no_cell (Some k) = refl

no_row : (header : List Cell) (done : ℕ) (name : List ℕ) → replacement header [] done name ≡ None
no_row header done name = no_cell (find (λ column. nat_le done column) (columns_named name header))

-- what replaces a name is of a column from the one asked for on, and within the row
abbrev pub From : ℕ → Option ℕ → Type 0
From from None = ⊤
From from (Some k) = from ≤ k

pub find_from : (from : ℕ) (xs : List ℕ) → From from (find (λ x. nat_le from x) xs)
find_from from [] = tt
find_from from (x ∷ xs) =
    let P : Option ℕ → Type 0 = From from in
    ⊎_elim (λ yes. subst P (sym (cond-true _ _ _ yes)) (leb-true from x yes))
    (λ no. subst P (sym (cond-false _ _ _ no)) (find_from from xs)) (cases_Bool (nat_le from x))

abbrev Within : List Cell → ℕ → Option Found → Type 0
Within row from None = ⊤
Within row from (Some f) = (from ≤ f.0) × (f.0 < length row)

cell_within : (row : List Cell) (from : ℕ) (found : Option ℕ) → From from found → Within row from (option_and_then (at_column row) found)
cell_within row from None h = tt
cell_within row from (Some k) h =
    let P : Option Cell → Type 0 = λ o. Within row from (option_map {U = Found} (λ (c : Cell). (k, c.value)) o) in
    ⊎_elim (λ p. subst P (sym p.2) (h, p.1)) (λ p. subst P (sym p.1) tt) (slice_get_cases row k).1

later_from : (row : List Cell) (m from : ℕ) (found : Option Found) → m ≤ from → Within row from found → Within row m found
later_from row m from None le h = tt
later_from row m from (Some f) le h = let low = h.0 in (omega arith, h.1)

replaced_within : (header row : List Cell) (m from : ℕ) (name : List ℕ) → m ≤ from → Within row m (replacement header row from name)
replaced_within header row m from name le = later_from row m from _ le (cell_within row from _ (find_from from (columns_named name header)))

-- Cells in cells are of later columns: a reading that goes deeper than that is the same.
module _ (header row : List Cell) where
  module _ (reads others : Reads) (done : ℕ)
      (alike : (column : ℕ) (text : List ℕ) (r : Reading) → done ≤ column → column < length row → reads (column + 1) text r ≡ others (column + 1) text r) where
    brought_alike : (found : Option Found) (r : Reading) → Within row done found → with_cell_read reads found r ≡ with_cell_read others found r
    brought_alike None r h = refl
    brought_alike (Some f) r h = alike f.0 f.1 r h.0 h.1

    closed_alike : (out : List ℕ) (opens : List Open)
        → with_cell_read reads (closed_in header row done out opens).0 (closed_in header row done out opens).1
        ≡ with_cell_read others (closed_in header row done out opens).0 (closed_in header row done out opens).1
    closed_alike out [] = refl
    closed_alike out (o ∷ os) = brought_alike _ _ (replaced_within header row done (max o.done done) (drop (o.start + 1) out) (omega arith))

    step_alike : (b : ℕ) (r : Reading) → step reads header row done b r ≡ step others header row done b r
    step_alike b r =
        ⊎_elim (λ yes. cond-true _ _ _ yes ∙ sym (cond-true _ _ _ yes))
        (λ no.
        cond-false _ _ _ no
        ∙ ⊎_elim (λ yes. cond-true _ _ _ yes ∙ closed_alike r.out r.opens ∙ sym (cond-true _ _ _ yes))
        (λ other. cond-false _ _ _ other ∙ sym (cond-false _ _ _ other)) (cases_Bool (b == 62))
        ∙ sym (cond-false _ _ _ no))
        (cases_Bool (b == 60))

    read_alike : (text : List ℕ) (r : Reading) → read_by reads header row done text r ≡ read_by others header row done text r
    read_alike [] r = refl
    read_alike (b ∷ bs) r = ap (read_by reads header row done bs) (step_alike b r) ∙ read_alike bs (step others header row done b r)

  pub deeper : (i j done : ℕ) → done ≤ length row → length row < i + done → length row < j + done
      → (text : List ℕ) (r : Reading) → read_to i header row done text r ≡ read_to j header row done text r
  deeper zero j done le li lj text r = absurd (omega arith)
  deeper (suc i) zero done le li lj text r = absurd (omega arith)
  deeper (suc i) (suc j) done le li lj text r =
      read_alike (read_to i header row) (read_to j header row) done
      (λ column more s from within. deeper i j (column + 1) (omega arith) (omega arith) (omega arith) more s) text r

-- the columns after the first
found_later : (xs : List ℕ) (done : ℕ) → find (λ x. nat_le done x) (map suc xs) ≡ option_map suc (find (λ x. nat_le (done - 1) x) xs)
found_later [] done = refl
found_later (x ∷ xs) done =
    ⊎_elim
    (λ yes. cond-true _ _ _ (le-leb done (suc x) (let l = leb-true (done - 1) x yes in omega arith)) ∙ ap (option_map suc) (sym (cond-true _ _ _ yes)))
    (λ no.
    cond-false _ _ _ (lt-leb done (suc x) (let l = leb-false (done - 1) x no in omega arith)) ∙ found_later xs done
    ∙ ap (option_map suc) (sym (cond-false _ _ _ no)))
    (cases_Bool (nat_le (done - 1) x))

abbrev later : Found → Found
later f = (suc f.0, f.1)

cell_later : (k : ℕ) (cell : Option Cell) → option_map {U = Found} (λ (c : Cell). (suc k, c.value)) cell ≡ option_map later (option_map (λ (c : Cell). (k, c.value)) cell)
cell_later k None = refl
cell_later k (Some c) = refl

row_later : (c : Cell) (cs : List Cell) (found : Option ℕ)
    → option_and_then (at_column (c ∷ cs)) (option_map suc found) ≡ option_map later (option_and_then (at_column cs) found)
row_later c cs None = refl
row_later c cs (Some k) = cell_later k (slice_get cs k)

module _ (n : Cell) (ns : List Cell) (c : Cell) (cs : List Cell) where
  replaced_later : (done : ℕ) (name : List ℕ) → (done ≡ 0 → bytes_eq name n.value ≡ false)
      → replacement (n ∷ ns) (c ∷ cs) done name ≡ option_map later (replacement ns cs (done - 1) name)
  replaced_later done name other =
      let xs : List ℕ = columns_named name ns in
      let found : find (λ x. nat_le done x) (columns_named name (n ∷ ns)) ≡ option_map suc (find (λ x. nat_le (done - 1) x) xs) =
      ⊎_elim
      (λ yes.
      ap (find (λ x. nat_le done x)) (cond-true _ _ _ yes)
      ∙ cond-false _ _ _ (false_from_ne_true _ (λ t. let l = leb-true done 0 t in both_ways _ (other (omega arith)) yes)) ∙ found_later xs done)
      (λ no. ap (find (λ x. nat_le done x)) (cond-false _ _ _ no) ∙ found_later xs done)
      (cases_Bool (bytes_eq name n.value)) in
      ap (option_and_then (at_column (c ∷ cs))) found
      ∙ row_later c cs (find (λ x. nat_le (done - 1) x) xs)

  replaced_first : replacement (n ∷ ns) (c ∷ cs) 0 n.value ≡ Some (0, c.value)
  replaced_first =
      ap (λ xs. option_and_then (at_column (c ∷ cs)) (find (λ x. nat_le 0 x) xs))
      (cond-true _ _ _ ((bytes_eq-Decides n.value n.value).1 refl))

  -- the same reading by the columns after the first
  abbrev less : Open → Open
  less o = record { start = o.start; done = o.done - 1 }

  abbrev shifted : Reading → Reading
  shifted r = record { out = r.out; opens = map less r.opens }

  raised_less : (k : ℕ) (os : List Open) → map less (raised_opens (suc k + 1) os) ≡ raised_opens (k + 1) (map less os)
  raised_less k [] = refl
  raised_less k (o ∷ os) =
      let same : max o.done (suc k + 1) - 1 ≡ max (o.done - 1) (k + 1) = omega arith in
      ap (λ d. record { start = o.start; done = d } ∷ map less os) same

  raised_first : (os : List Open) → map less (raised_opens 1 os) ≡ map less os
  raised_first [] = refl
  raised_first (o ∷ os) =
      let same : max o.done 1 - 1 ≡ o.done - 1 = omega arith in
      ap (λ d. record { start = o.start; done = d } ∷ map less os) same

  closed_less : (found : Option Found) (out : List ℕ) (start : ℕ) (os : List Open)
      → shifted (closed_by (option_map later found) out start os) ≡ closed_by found out start (map less os)
  closed_less None out start os = refl
  closed_less (Some f) out start os = ap (λ opens. record { out = take start out; opens = opens }) (raised_less f.0 os)

  -- where the first column is not done, what comes after the innermost `<` isn't its name
  abbrev Other : ℕ → List ℕ → List Open → Type 0
  Other done out [] = ⊤
  Other done out (o ∷ os) = max o.done done ≡ 0 → bytes_eq (drop (o.start + 1) out) n.value ≡ false

  -- One step is the same by the columns after the first, where reading what a later cell brings is.
  module _ (reads others : Reads) (done less_done : ℕ) (one : done - 1 ≡ less_done)
      (agree : (k : ℕ) (text : List ℕ) (r : Reading) → k < length cs → shifted (reads (suc k + 1) text r) ≡ others (k + 1) text (shifted r)) where
    brought_less : (found : Option Found) (r : Reading) → Within cs 0 found → shifted (with_cell_read reads (option_map later found) r) ≡ with_cell_read others found (shifted r)
    brought_less None r h = refl
    brought_less (Some f) r h = agree f.0 f.1 r h.1

    close_less : (out : List ℕ) (opens : List Open) → Other done out opens
        → shifted (with_cell_read reads (closed_in (n ∷ ns) (c ∷ cs) done out opens).0 (closed_in (n ∷ ns) (c ∷ cs) done out opens).1)
        ≡ with_cell_read others (closed_in ns cs less_done out (map less opens)).0 (closed_in ns cs less_done out (map less opens)).1
    close_less out [] h = refl
    close_less out (o ∷ os) h =
        let name : List ℕ = drop (o.start + 1) out in
        let from : max o.done done - 1 ≡ max (o.done - 1) less_done = omega (arith, one) in
        let found : Option Found = replacement ns cs (max (o.done - 1) less_done) name in
        ap (λ f. shifted (with_cell_read reads f (closed_by f out o.start os)))
        (replaced_later (max o.done done) name h ∙ ap (λ m. option_map later (replacement ns cs m name)) from)
        ∙ brought_less found (closed_by (option_map later found) out o.start os) (replaced_within ns cs 0 (max (o.done - 1) less_done) name (omega arith))
        ∙ ap (with_cell_read others found) (closed_less found out o.start os)

    step_less : (b : ℕ) (r : Reading) → (b ≡ 62 → Other done r.out r.opens)
        → shifted (step reads (n ∷ ns) (c ∷ cs) done b r) ≡ step others ns cs less_done b (shifted r)
    step_less b r h =
        ⊎_elim
        (λ yes.
        ap shifted (cond-true _ _ _ yes)
        ∙ ap (λ d. record { out = r.out ++ 60 ∷ []; opens = record { start = length r.out; done = d } ∷ map less r.opens }) one
        ∙ sym (cond-true _ _ _ yes))
        (λ no.
        ap shifted (cond-false _ _ _ no)
        ∙ ⊎_elim
        (λ yes. ap shifted (cond-true _ _ _ yes) ∙ close_less r.out r.opens (h (eqb-true b 62 yes)) ∙ sym (cond-true _ _ _ yes))
        (λ other. ap shifted (cond-false _ _ _ other) ∙ sym (cond-false _ _ _ other)) (cases_Bool (b == 62))
        ∙ sym (cond-false _ _ _ no))
        (cases_Bool (b == 60))

  -- where the first column is done, all is the same
  other_done : (k : ℕ) (out : List ℕ) (opens : List Open) → Other (suc k) out opens
  other_done k out [] = tt
  other_done k out (o ∷ os) = λ z. absurd (omega arith)

  done_by : (reads others : Reads) (k : ℕ)
      → ((j : ℕ) (text : List ℕ) (r : Reading) → j < length cs → shifted (reads (suc j + 1) text r) ≡ others (j + 1) text (shifted r))
      → (text : List ℕ) (r : Reading) → shifted (read_by reads (n ∷ ns) (c ∷ cs) (suc k) text r) ≡ read_by others ns cs k text (shifted r)
  done_by reads others k agree [] r = refl
  done_by reads others k agree (b ∷ bs) r =
      done_by reads others k agree bs (step reads (n ∷ ns) (c ∷ cs) (suc k) b r)
      ∙ ap (read_by others ns cs k bs) (step_less reads others (suc k) k (omega arith) agree b r (λ is. other_done k r.out r.opens))

  done_alike : (depth k : ℕ) (text : List ℕ) (r : Reading) → shifted (read_to depth (n ∷ ns) (c ∷ cs) (suc k) text r) ≡ read_to depth ns cs k text (shifted r)
  done_alike zero k text r = refl
  done_alike (suc depth) k text r =
      done_by (read_to depth (n ∷ ns) (c ∷ cs)) (read_to depth ns cs) k
      (λ j more s l.
      let next : suc j + 1 ≡ suc (j + 1) = omega arith in
      ap (λ m. shifted (read_to depth (n ∷ ns) (c ∷ cs) m more s)) next ∙ done_alike depth (j + 1) more s)
      text r

  -- and the first column is done at the innermost `<`
  abbrev Done : List Open → Type 0
  Done [] = ⊤
  Done (o ∷ os) = 1 ≤ o.done

  done_raised : (k : ℕ) (os : List Open) → Done (raised_opens (k + 1) os)
  done_raised k [] = tt
  done_raised k (o ∷ os) = omega arith

  module _ (reads : Reads) (kept : (k : ℕ) (text : List ℕ) (r : Reading) → Done r.opens → Done (reads (k + 1) text r).opens) where
    done_brought : (found : Option Found) (out : List ℕ) (start : ℕ) (os : List Open) → Done (with_cell_read reads found (closed_by found out start os)).opens
    done_brought None out start os = tt
    done_brought (Some f) out start os = kept f.0 f.1 _ (done_raised f.0 os)

    done_closed : (done : ℕ) (out : List ℕ) (opens : List Open)
        → Done (with_cell_read reads (closed_in (n ∷ ns) (c ∷ cs) done out opens).0 (closed_in (n ∷ ns) (c ∷ cs) done out opens).1).opens
    done_closed done out [] = tt
    done_closed done out (o ∷ os) = done_brought (replacement (n ∷ ns) (c ∷ cs) (max o.done done) (drop (o.start + 1) out)) out o.start os

    done_step : (k b : ℕ) (r : Reading) → Done r.opens → Done (step reads (n ∷ ns) (c ∷ cs) (k + 1) b r).opens
    done_step k b r h =
        let P : Reading → Type 0 = λ s. Done s.opens in
        let more : 1 ≤ k + 1 = omega arith in
        ⊎_elim (λ yes. subst P (sym (cond-true _ _ _ yes)) more)
        (λ no.
        subst P (sym (cond-false _ _ _ no))
        (⊎_elim (λ yes. subst P (sym (cond-true _ _ _ yes)) (done_closed (k + 1) r.out r.opens))
        (λ other. subst P (sym (cond-false _ _ _ other)) h) (cases_Bool (b == 62))))
        (cases_Bool (b == 60))

    done_read : (k : ℕ) (text : List ℕ) (r : Reading) → Done r.opens → Done (read_by reads (n ∷ ns) (c ∷ cs) (k + 1) text r).opens
    done_read k [] r h = h
    done_read k (b ∷ bs) r h = done_read k bs (step reads (n ∷ ns) (c ∷ cs) (k + 1) b r) (done_step k b r h)

  done_kept : (depth k : ℕ) (text : List ℕ) (r : Reading) → Done r.opens → Done (read_to depth (n ∷ ns) (c ∷ cs) (k + 1) text r).opens
  done_kept zero k text r h = h
  done_kept (suc depth) k text r h = done_read (read_to depth (n ∷ ns) (c ∷ cs)) (done_kept depth) k text r h

  -- what comes after the innermost `<` is no placeholder of the first column, where that isn't done
  abbrev NotFirst : List ℕ → List Open → List ℕ → Type 0
  NotFirst out [] text = ⊤
  NotFirst out (o ∷ os) text = o.done ≡ 0 → (o.start + 1 ≤ length out) × ((rest : List ℕ) → drop (o.start + 1) out ++ text ≡ n.value ++ 62 ∷ rest → ⊥)

  abbrev NotFirstIn : Reading → List ℕ → Type 0
  NotFirstIn r text = NotFirst r.out r.opens text

  done_not_first : (out : List ℕ) (opens : List Open) (text : List ℕ) → Done opens → NotFirst out opens text
  done_not_first out [] text h = tt
  done_not_first out (o ∷ os) text h = λ z. absurd (omega arith)

  not_first_other : (out : List ℕ) (opens : List Open) (bs : List ℕ) → NotFirst out opens (62 ∷ bs) → Other 0 out opens
  not_first_other out [] bs h = tt
  not_first_other out (o ∷ os) bs h = λ z.
      let name : List ℕ = drop (o.start + 1) out in
      let here = h (omega arith) in
      false_from_ne_true _ (λ t. here.1 bs (ap (λ x. x ++ 62 ∷ bs) ((bytes_eq-Decides name n.value).0 t)))

  not_first_added : (b : ℕ) (bs out : List ℕ) (opens : List Open) → NotFirst out opens (b ∷ bs) → NotFirst (out ++ b ∷ []) opens bs
  not_first_added b bs out [] h = tt
  not_first_added b bs out (o ∷ os) h = λ z.
      let here = h z in
      let low = here.0 in (
        omega (arith, length-append out (b ∷ [])),
        λ rest e. here.1 rest (sym (append_assoc (drop (o.start + 1) out) (b ∷ []) bs) ∙ ap (λ x. x ++ bs) (sym (drop-append-le (o.start + 1) out (b ∷ []) low)) ∙ e),
      )

  not_first_opened : (bs out : List ℕ) (os : List Open) → starts_with nat_eq (60 ∷ bs) (placeholder n.value) ≡ false
      → NotFirst (out ++ 60 ∷ []) (record { start = length out; done = 0 } ∷ os) bs
  not_first_opened bs out os miss = λ z.
      let long = length-append out (60 ∷ []) in
      let none : drop (length out + 1) (out ++ 60 ∷ []) ≡ [] =
      ap (drop (length out + 1)) (sym (append-nil (out ++ 60 ∷ []))) ∙ drop_at (out ++ 60 ∷ []) [] (length out + 1) (omega arith) in (
        omega arith,
        λ rest e.
            let all : 60 ∷ bs ≡ [] ++ (placeholder n.value ++ rest) =
            ap (λ x. 60 ∷ x) (ap (λ x. x ++ bs) (sym none) ∙ e ∙ sym (append_assoc n.value (62 ∷ []) rest)) in
            both_ways _ miss (starts (60 ∷ bs) (placeholder n.value) (place_of (placeholder n.value) (60 ∷ bs) [] rest all)),
      )

  -- what cells bring is read by all columns, and by those after the first
  abbrev by_all : Reads
  by_all = read_to (suc (length cs)) (n ∷ ns) (c ∷ cs)

  abbrev by_others : Reads
  by_others = read_to (length cs) ns cs

  agreed : (k : ℕ) (text : List ℕ) (r : Reading) → k < length cs → shifted (by_all (suc k + 1) text r) ≡ by_others (k + 1) text (shifted r)
  agreed k text r l =
      let next : suc k + 1 ≡ suc (k + 1) = omega arith in
      ap (λ m. shifted (by_all m text r)) next ∙ done_alike (suc (length cs)) (k + 1) text r
      ∙ deeper ns cs (suc (length cs)) (length cs) (k + 1) (omega arith) (omega arith) (omega arith) text (shifted r)

  shifted_step : (b : ℕ) (bs : List ℕ) (r : Reading) → NotFirstIn r (b ∷ bs)
      → shifted (step by_all (n ∷ ns) (c ∷ cs) 0 b r) ≡ step by_others ns cs 0 b (shifted r)
  shifted_step b bs r h =
      let Q : ℕ → Type 0 = λ x. NotFirstIn r (x ∷ bs) in
      step_less by_all by_others 0 0 (omega arith) agreed b r (λ is. not_first_other r.out r.opens bs (subst Q is h))

  not_first_step : (b : ℕ) (bs : List ℕ) (r : Reading) → starts_with nat_eq (b ∷ bs) (placeholder n.value) ≡ false → NotFirstIn r (b ∷ bs)
      → NotFirstIn (step by_all (n ∷ ns) (c ∷ cs) 0 b r) bs
  not_first_step b bs r miss h =
      let P : Reading → Type 0 = λ s. NotFirstIn s bs in
      let Q : ℕ → Type 0 = λ x. starts_with nat_eq (x ∷ bs) (placeholder n.value) ≡ false in
      ⊎_elim (λ yes. subst P (sym (cond-true _ _ _ yes)) (not_first_opened bs r.out r.opens (subst Q (eqb-true b 60 yes) miss)))
      (λ no.
      subst P (sym (cond-false _ _ _ no))
      (⊎_elim
      (λ yes. subst P (sym (cond-true _ _ _ yes)) (done_not_first _ _ bs (done_closed by_all (done_kept (suc (length cs))) 0 r.out r.opens)))
      (λ other. subst P (sym (cond-false _ _ _ other)) (not_first_added b bs r.out r.opens h)) (cases_Bool (b == 62))))
      (cases_Bool (b == 60))

  -- a placeholder of the first column
  abbrev first_done : Reading → Reading
  first_done r = record { out = r.out; opens = raised_opens 1 r.opens }

  one_filled : (rest : List ℕ) (r : Reading) → HasNoBracket n.value
      → read_by by_all (n ∷ ns) (c ∷ cs) 0 (60 ∷ (n.value ++ 62 ∷ rest)) r ≡ read_by by_all (n ∷ ns) (c ∷ cs) 0 rest (by_all 1 c.value (first_done r))
  one_filled rest r plain =
      let out : List ℕ = (r.out ++ 60 ∷ []) ++ n.value in
      let go : Reading → Reading = read_by by_all (n ∷ ns) (c ∷ cs) 0 rest in
      let long = length-append r.out (60 ∷ []) in
      let name : drop (length r.out + 1) out ≡ n.value = drop_at (r.out ++ 60 ∷ []) n.value (length r.out + 1) (omega arith) in
      let front : take (length r.out) out ≡ r.out =
      ap (take (length r.out)) (append_assoc r.out (60 ∷ []) n.value) ∙ take_at r.out (60 ∷ n.value) (length r.out) refl in
      read_plain by_all (n ∷ ns) (c ∷ cs) 0 n.value (62 ∷ rest) (with_open 0 r) plain
      ∙ ap (λ f. go (with_cell_read by_all f (closed_by f out (length r.out) r.opens))) (ap (replacement (n ∷ ns) (c ∷ cs) 0) name ∙ replaced_first)
      ∙ ap (λ o. go (by_all 1 c.value (record { out = o; opens = raised_opens 1 r.opens }))) front

  first_read : (r : Reading) → shifted (by_all 1 c.value (first_done r)) ≡ read_by by_others ns cs 0 c.value (shifted r)
  first_read r =
      done_alike (suc (length cs)) 0 c.value (first_done r)
      ∙ ap (λ opens. read_by by_others ns cs 0 c.value (record { out = r.out; opens = opens })) (raised_first r.opens)

  module _ (name_plain : HasNoBracket n.value) where
    abbrev p : List ℕ
    p = placeholder n.value

    without_first : (size : ℕ) (text : List ℕ) (r : Reading) → length text ≤ size → NotFirstIn r text
        → (read_by by_all (n ∷ ns) (c ∷ cs) 0 text r).out ≡ (read_by by_others ns cs 0 (replaced_text p c.value text) (shifted r)).out
    without_first size [] r le h =
        let long = length-placeholder n.value in
        ap (λ t. (read_by by_others ns cs 0 t (shifted r)).out) (sym (nowhere p c.value [] (λ k o. let fits = o.fits in absurd (omega arith))))
    without_first zero (b ∷ bs) r le h = absurd (omega arith)
    without_first (suc size) (b ∷ bs) r le h =
        ⊎_elim
        (λ hit.
        let here = occurs (b ∷ bs) p (fits_of p (b ∷ bs) hit) hit in
        let rest : List ℕ = drop (0 + length p) (b ∷ bs) in
        let long = length-placeholder n.value in
        let text : b ∷ bs ≡ 60 ∷ (n.value ++ 62 ∷ rest) = split_at p (b ∷ bs) 0 here ∙ ap (λ x. 60 ∷ x) (append_assoc n.value (62 ∷ []) rest) in
        let after : Reading = by_all 1 c.value (first_done r) in
        let done : Done after.opens = done_kept (suc (length cs)) 0 c.value (first_done r) (done_raised 0 r.opens) in
        ap (λ t. (read_by by_all (n ∷ ns) (c ∷ cs) 0 t r).out) text ∙ ap (λ (s : Reading). s.out) (one_filled rest r name_plain)
        ∙ without_first size rest after (omega (arith, length-drop (0 + length p) (b ∷ bs))) (done_not_first after.out after.opens rest done)
        ∙ ap (λ s. (read_by by_others ns cs 0 (replaced_text p c.value rest) s).out) (first_read r)
        ∙ ap (λ (s : Reading). s.out) (sym (read_both by_others ns cs 0 c.value (replaced_text p c.value rest) (shifted r)))
        ∙ ap (λ t. (read_by by_others ns cs 0 t (shifted r)).out) (sym (first p c.value (b ∷ bs) 0 (omega arith) here (λ j l o. absurd (omega arith)))))
        (λ miss.
        without_first size bs (step by_all (n ∷ ns) (c ∷ cs) 0 b r) (omega arith) (not_first_step b bs r miss h)
        ∙ ap (λ s. (read_by by_others ns cs 0 (replaced_text p c.value bs) s).out) (shifted_step b bs r h)
        ∙ ap (λ t. (read_by by_others ns cs 0 t (shifted r)).out) (sym (not_at_front p c.value b bs (λ o. both_ways _ miss (starts (b ∷ bs) p o)))))
        (cases_Bool (starts_with nat_eq (b ∷ bs) p))

pub one_reading_fills : (text : List ℕ) (header row : List Cell) → HaveNoBracket header → (reading_after header row zero text nothing_read).out ≡ filled_text text header row
one_reading_fills text [] row h = out_read (read_to (length row) [] row) [] row zero (no_header row) text nothing_read
one_reading_fills text (n ∷ ns) [] h = out_read (read_to zero (n ∷ ns) []) (n ∷ ns) [] zero (no_row (n ∷ ns)) text nothing_read
one_reading_fills text (n ∷ ns) (c ∷ cs) h =
    without_first n ns c cs h.0 (length text) text nothing_read (le_refl (length text)) tt
    ∙ one_reading_fills (replaced_text (placeholder n.value) c.value text) ns cs h.1
