-- The columns of a header by their names.
use Rattle.std.proofs.Common.{◌≡◌, ℕ, suc, ◌+◌, ◌<◌, true, false, cond, Option, None, Some, List, [], ◌∷◌, ◌++◌, length, take, get_or, map, refl, sym, ap, ◌∙◌, ⊎_elim, length-take-le, zero, ◌≤◌, arith, append-nil, Bor}
use Rattle.std.specs.Prelude.{Vec, if◌then◌else◌, unwrap_or, bytes_eq, find, IfSome, is_some, option_copied, slice_get, nat_le, ltb}
use Rattle.std.specs.List.Sorted.{IsNonDecreasing, IsPartitionPoint}
use Rattle.std.specs.Option.{option_map_or}
use Rattle.std.specs.Map.{lookup}
use Rattle.std.specs.declared.alloc.Global.{Global}
use Rattle.std.proofs.lemmas.Bool.{le-leb, lt-leb, ltb-true, ltb-false, cases_Bool, cond-true, cond-false, false_from_ne_true, both_ways}
use Rattle.std.proofs.lemmas.List.{take_more, map-append, length-map}
use Rattle.std.proofs.lemmas.Option.{slice_get_past, slice_get-get_or}
use Rattle.std.proofs.lemmas.Slice.Eq.{bytes_eq-Decides}
use Rattle.indexmap.specs.IndexMap.{IndexMap}
use Rattle.gk_document.specs.declared.tree.Cell.{Cell}
use Rattle.gk_pickle.specs.SinglePass.{columns_named, replacement}
use Rattle.gk_pickle.specs.Columns.{columns_at}

module _ (S : Type 0) where
  abbrev pub Named : Type 0
  Named = IndexMap (Bor (List ℕ)) (Vec ℕ Global) S

  abbrev pub at : Named → List ℕ → Option (Vec ℕ Global)
  at named name = lookup (λ k. bytes_eq name k.now) named.entries

  items_of : (found : Option (Vec ℕ Global)) (empty : Vec ℕ Global) → empty.items ≡ [] → (unwrap_or found empty).items ≡ option_map_or (λ v. v.items) found []
  items_of None empty e = e
  items_of (Some v) empty e = refl

  -- a name's columns are taken out, and put back with one more
  pub one_more : (old gone new : Named) (name : List ℕ) (column : ℕ) (found : Option (Vec ℕ Global)) (empty first all : Vec ℕ Global)
      → found ≡ at old name → empty.items ≡ [] → first ≡ unwrap_or found empty → all.items ≡ first.items ++ column ∷ []
      → ((q : Bor (List ℕ)) → at gone q.now ≡ cond (bytes_eq name q.now) None (at old q.now))
      → ((q : Bor (List ℕ)) → at new q.now ≡ cond (bytes_eq name q.now) (Some all) (at gone q.now))
      → (other : List ℕ) → columns_at new other ≡ columns_at old other ++ (if bytes_eq other name then column ∷ [] else [])
  one_more old gone new name column found empty first all f e u a out back other =
      let q : Bor (List ℕ) = record { ref_ptr = (0, 0); now = other } in
      let items : Option (Vec ℕ Global) → List ℕ = λ o. option_map_or (λ v. v.items) o [] in
      ⊎_elim
      (λ yes.
      let same : other ≡ name = (bytes_eq-Decides other name).0 yes in
      let there : bytes_eq name other ≡ true = (bytes_eq-Decides name other).1 (sym same) in
      ap items (back q ∙ cond-true _ _ _ there) ∙ a
      ∙ ap (λ xs. xs ++ column ∷ []) (ap (λ v. v.items) u ∙ items_of found empty e ∙ ap items (f ∙ ap (at old) (sym same)))
      ∙ ap (λ xs. columns_at old other ++ xs) (sym (cond-true _ _ _ yes)))
      (λ no.
      let apart : bytes_eq name other ≡ false = false_from_ne_true _ (λ t. both_ways _ no ((bytes_eq-Decides other name).1 (sym ((bytes_eq-Decides name other).0 t)))) in
      ap items (back q ∙ cond-false _ _ _ apart ∙ out q ∙ cond-false _ _ _ apart) ∙ sym (append-nil _)
      ∙ ap (λ xs. columns_at old other ++ xs) (sym (cond-false _ _ _ no)))
      (cases_Bool (bytes_eq other name))

-- one column more in a header
pub one_named : (name : List ℕ) (cs : List Cell) (c : Cell)
    → columns_named name (cs ++ c ∷ []) ≡ columns_named name cs ++ (if bytes_eq name c.value then length cs ∷ [] else [])
one_named name [] c = ⊎_elim (λ yes. rw yes refl) (λ no. rw no refl) (cases_Bool (bytes_eq name c.value))
one_named name (d ∷ ds) c =
    let more : map suc (columns_named name (ds ++ c ∷ [])) ≡ map suc (columns_named name ds) ++ (if bytes_eq name c.value then suc (length ds) ∷ [] else []) =
    ap (map suc) (one_named name ds c) ∙ map-append suc (columns_named name ds) _
    ∙ ⊎_elim (λ yes. rw yes refl) (λ no. rw no refl) (cases_Bool (bytes_eq name c.value)) in
    ⊎_elim (λ yes. rw yes (ap (λ xs. 0 ∷ xs) more)) (λ no. rw no more) (cases_Bool (bytes_eq name d.value))

pub one_taken : (name text : List ℕ) (header : List Cell) (i : ℕ) (c : Cell) (before after : List ℕ) → i < length header → c ≡ get_or header i c
    → text ≡ c.value → before ≡ columns_named name (take i header) → after ≡ before ++ (if bytes_eq name text then i ∷ [] else [])
    → after ≡ columns_named name (take (i + 1) header)
one_taken name text header i c before after l e t b a =
    let more : columns_named name (take (i + 1) header) ≡ columns_named name (take i header) ++ (if bytes_eq name c.value then i ∷ [] else []) =
    ap (columns_named name) (take_more header i c l ∙ ap (λ x. take i header ++ x ∷ []) (sym e)) ∙ one_named name (take i header) c
    ∙ ap (λ n. columns_named name (take i header) ++ (if bytes_eq name c.value then n ∷ [] else [])) (length-take-le i header (omega arith)) in
    a ∙ rw (t, b) (sym more)

-- the columns of a name rise
shifted : (xs : List ℕ) (i d : ℕ) → i < length xs → get_or (map suc xs) i d ≡ suc (get_or xs i d)
shifted [] i d l = absurd (omega arith)
shifted (x ∷ xs) zero d l = refl
shifted (x ∷ xs) (suc i) d l = shifted xs i d (omega arith)

rise_shifted : (xs : List ℕ) → IsNonDecreasing xs → IsNonDecreasing (map suc xs)
rise_shifted xs h i j d below within =
    let long = length-map xs suc in
    let low = h i j d below (omega arith) in
    omega (arith, shifted xs i d (omega arith), shifted xs j d (omega arith))

rise_after : (xs : List ℕ) → IsNonDecreasing xs → IsNonDecreasing (0 ∷ xs)
rise_after xs h zero j d below within = omega arith
rise_after xs h (suc i) zero d below within = absurd (omega arith)
rise_after xs h (suc i) (suc j) d below within = h i j d (omega arith) (omega arith)

pub columns_rise : (name : List ℕ) (header : List Cell) → IsNonDecreasing (columns_named name header)
columns_rise name [] = λ i j d below within. absurd (omega arith)
columns_rise name (c ∷ cs) =
    let more = rise_shifted (columns_named name cs) (columns_rise name cs) in
    ⊎_elim (λ yes. rw yes (rise_after _ more)) (λ no. rw no more) (cases_Bool (bytes_eq name c.value))

-- a place before which all is below a number, and from which on nothing is
pub first_there : (xs : List ℕ) (done i : ℕ) → i ≤ length xs → IsPartitionPoint (λ x. ltb x done ≡ true) (λ x. ltb x done ≡ false) xs i
    → slice_get xs i ≡ find (λ x. nat_le done x) xs
first_there [] done i le h = refl
first_there (x ∷ xs) done zero le h =
    sym (cond-true _ _ _ (le-leb done x (ltb-false x done (h.1 0 0 (omega arith) (omega arith)))))
first_there (x ∷ xs) done (suc i) le h =
    first_there xs done i (omega arith) (λ k d l m. h.0 (suc k) d (omega arith) (omega arith), λ k d l m. h.1 (suc k) d (omega arith) (omega arith))
    ∙ sym (cond-false _ _ _ (lt-leb done x (ltb-true x done (h.0 0 0 (omega arith) (omega arith)))))

pub first_found : (xs : List ℕ) (done i : ℕ) (got : Option (Bor ℕ)) (r : Option ℕ) → i ≤ length xs → IsPartitionPoint (λ x. ltb x done ≡ true) (λ x. ltb x done ≡ false) xs i
    → is_some got ≡ ltb i (length xs) → IfSome got (λ x. x.now ≡ get_or xs i x.now) → r ≡ option_copied got → r ≡ find (λ x. nat_le done x) xs
first_found xs done i None r le h some at e = e ∙ sym (slice_get_past xs i (ltb-false i (length xs) (sym some))) ∙ first_there xs done i le h
first_found xs done i (Some x) r le h some at e =
    e ∙ ap Some at ∙ sym (slice_get-get_or xs i x.now (ltb-true i (length xs) (sym some))) ∙ first_there xs done i le h

-- the columns that a map has for a name
pub of_name : (S : Type 0) (named : Named S) (header : List Cell) (name : List ℕ) (v : Vec ℕ Global) (xs : List ℕ)
    → ((other : List ℕ) → columns_at named other ≡ columns_named other header) → Some v ≡ at S named name → xs ≡ v.items → xs ≡ columns_named name header
of_name S named header name v xs all got e = e ∙ ap (λ o. option_map_or (λ c. c.items) o []) got ∙ all name

pub of_name_rise : (name : List ℕ) (header : List Cell) (xs : List ℕ) → xs ≡ columns_named name header → IsNonDecreasing xs
of_name_rise name header xs e = rw e (columns_rise name header)

-- a name's first column from `done` on, with the row's cell and without
pub replaced_by : (header row : List Cell) (done column : ℕ) (name xs text : List ℕ) (cell : Cell) → xs ≡ columns_named name header
    → Some column ≡ find (λ x. nat_le done x) xs → ltb column (length row) ≡ true → cell ≡ get_or row column cell → text ≡ cell.value
    → Some (column, text) ≡ replacement header row done name
replaced_by header row done column name xs text cell e first l at t =
    let there : slice_get row column ≡ Some cell = slice_get-get_or row column cell (ltb-true column (length row) l) ∙ ap Some (sym at) in
    let found : find (λ x. nat_le done x) (columns_named name header) ≡ Some column = ap (find (λ x. nat_le done x)) (sym e) ∙ sym first in
    rw (found, there, t) refl

pub none_replaced : (header row : List Cell) (done column : ℕ) (name xs : List ℕ) → xs ≡ columns_named name header
    → Some column ≡ find (λ x. nat_le done x) xs → ltb column (length row) ≡ false → None ≡ replacement header row done name
none_replaced header row done column name xs e first l =
    let there : slice_get row column ≡ None = slice_get_past row column (ltb-false column (length row) l) in
    let found : find (λ x. nat_le done x) (columns_named name header) ≡ Some column = ap (find (λ x. nat_le done x)) (sym e) ∙ sym first in
    rw (found, there) refl
