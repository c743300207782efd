-- The fault of a text, by the kinds and the first columns of its lines.
use Rattle.std.proofs.Common.{◌≡◌, Result, ◌<◌, ◌+◌, ◌⊎◌, inl, inr, ℕ, zero, suc, Bool, true, false, cond, List, [], ◌∷◌, ◌++◌, map, Ok, Err, length, take, get_or, refl, sym, ap, subst, ◌∙◌, arith}
use Rattle.std.specs.Prelude.{IsTrue, not, ◌&&◌, ◌||◌, ◌==◌}
use Rattle.std.proofs.lemmas.Bool.{eqb-true, eq-eqb}
use Rattle.std.proofs.lemmas.List.{length-map}
use Rattle.std.specs.List.{AllByRecursion, list_all}
use Rattle.gk_document.specs.declared.tree.Cell.{Cell}
use Rattle.gk_grammar.specs.declared.fault.FaultKind.{FaultKind}
use Rattle.gk_grammar.specs.declared.fault.FaultKind.TheVariants as fault
use Rattle.gk_grammar.specs.Token.{Blank, Comment, Language, Tags, Title, Step, Row, Fenced, Other, Line, line}
use Rattle.gk_grammar.specs.Machine.{State, PlacedFault, run, initial_state, same_text}
use Rattle.gk_grammar.specs.Grammar.{english}
use Rattle.gk_grammar.specs.Place as place
use Rattle.gk_grammar.specs.Place.{IsFirstBad, HasOtherCount, IsFault, IsFaultWithin}
use Rattle.gk_grammar.proofs.Places.{AreNumberedFrom}
use Rattle.gk_grammar.proofs.Faults.{RowDiffers, IsKindAt, one_kind, stop_has_kind}
use Rattle.gk_grammar.proofs.Placed.{Stops, fronts_read, one_place, same_front, stops_at, stop_is_place, stop_has_fault}
use Rattle.gk_plain.specs.declared.plain.Kind.{Kind}
use Rattle.gk_plain.specs.declared.plain.Kind.TheVariants as kind
use Rattle.gk_plain.specs.Plain.{kind_of}
use Rattle.gk_plain.specs.PlainFaults.{is_row_or_gap_kind, is_other_row, differs, fault_kind, first_column, fault_column}
use Rattle.gk_plain.proofs.PlainKinds.{and_apart, and_together, not_true, all_from, all_to, language_test}

row_or_gap_same : (l : Line) → is_row_or_gap_kind (kind_of l) ≡ place.is_row_or_gap l
row_or_gap_same (line n t i Blank) = refl
row_or_gap_same (line n t i Comment) = refl
row_or_gap_same (line n t i (Tags (Ok ws))) = refl
row_or_gap_same (line n t i (Tags (Err column))) = refl
row_or_gap_same (line n t i (Title b k m)) = refl
row_or_gap_same (line n t i (Step k y m)) = refl
row_or_gap_same (line n t i (Row cells)) = refl
row_or_gap_same (line n t i (Fenced f media)) = refl
row_or_gap_same (line n t i Other) = refl
row_or_gap_same (line n t i (Language w)) = language_test is_row_or_gap_kind true w refl refl

other_count : (cells : List Cell) (l : Line) → is_other_row (length cells) (kind_of l) ≡ true → HasOtherCount cells l
other_count cells (line n t i (Row others)) e = λ same. let f = not_true (length others == length cells) e in let g = eq-eqb (length others) (length cells) same in cc
other_count cells (line n t i Blank) e = absurd cc
other_count cells (line n t i Comment) e = absurd cc
other_count cells (line n t i (Tags (Ok ws))) e = absurd cc
other_count cells (line n t i (Tags (Err column))) e = absurd cc
other_count cells (line n t i (Title b k m)) e = absurd cc
other_count cells (line n t i (Step k y m)) e = absurd cc
other_count cells (line n t i (Fenced f media)) e = absurd cc
other_count cells (line n t i Other) e = absurd cc
other_count cells (line n t i (Language w)) e = absurd (let f = language_test (is_other_row (length cells)) false w refl refl in cc)

count_other : (cells : List Cell) (l : Line) → HasOtherCount cells l → is_other_row (length cells) (kind_of l) ≡ true
count_other cells (line n t i (Row others)) h = go (length others == length cells) refl
  where
    go : (b : Bool) → (length others == length cells) ≡ b → not b ≡ true
    go true e = absurd (h (eqb-true (length others) (length cells) e))
    go false e = refl
count_other cells (line n t i Blank) h = absurd h
count_other cells (line n t i Comment) h = absurd h
count_other cells (line n t i (Tags ws)) h = absurd h
count_other cells (line n t i (Title b k m)) h = absurd h
count_other cells (line n t i (Step k y m)) h = absurd h
count_other cells (line n t i (Fenced f media)) h = absurd h
count_other cells (line n t i Other) h = absurd h
count_other cells (line n t i (Language w)) h = absurd h

-- the kinds say whether a row differs from the table before it
differs_from : (cells : List Cell) (ls : List Line) → differs (length cells) (map kind_of ls) ≡ true → RowDiffers ls cells
differs_from cells [] e = absurd cc
differs_from cells (l ∷ ls) e = go (is_other_row (length cells) (kind_of l) && list_all is_row_or_gap_kind (map kind_of ls)) refl e (differs_from cells ls)
  where
    go : (b : Bool) → (is_other_row (length cells) (kind_of l) && list_all is_row_or_gap_kind (map kind_of ls)) ≡ b → (b || differs (length cells) (map kind_of ls)) ≡ true →
        (differs (length cells) (map kind_of ls) ≡ true → RowDiffers ls cells) → RowDiffers (l ∷ ls) cells
    go true here e more =
        let both = and_apart (is_other_row (length cells) (kind_of l)) (list_all is_row_or_gap_kind (map kind_of ls)) here in
        record {
          earlier = [];
          row = l;
          between = ls;
          cut = refl;
          other = other_count cells l both.0;
          one_table = all_from (λ l. IsTrue (place.is_row_or_gap l)) is_row_or_gap_kind (λ l h. sym (row_or_gap_same l) ∙ h) ls both.1;
        }
    go false here e more =
        let rest = more e in
        record {
          earlier = l ∷ rest.earlier;
          row = rest.row;
          between = rest.between;
          cut = ap (λ (z : List Line). l ∷ z) rest.cut;
          other = rest.other;
          one_table = rest.one_table;
        }

differs_there : (cells : List Cell) (earlier : List Line) (row : Line) (between : List Line) → HasOtherCount cells row → AllByRecursion (λ l. IsTrue (place.is_row_or_gap l)) between →
    differs (length cells) (map kind_of (earlier ++ row ∷ between)) ≡ true
differs_there cells [] row between other table =
    ap (λ (b : Bool). b || differs (length cells) (map kind_of between))
    (and_together (is_other_row (length cells) (kind_of row)) (list_all is_row_or_gap_kind (map kind_of between)) (count_other cells row other)
    (all_to (λ l. IsTrue (place.is_row_or_gap l)) is_row_or_gap_kind (λ l h. row_or_gap_same l ∙ h) between table))
differs_there cells (l ∷ ls) row between other table = go (is_other_row (length cells) (kind_of l) && list_all is_row_or_gap_kind (map kind_of (ls ++ row ∷ between))) (differs_there cells ls row between other table)
  where
    go : (b : Bool) → differs (length cells) (map kind_of (ls ++ row ∷ between)) ≡ true → (b || differs (length cells) (map kind_of (ls ++ row ∷ between))) ≡ true
    go true more = refl
    go false more = more

differs_to : (cells : List Cell) (ls : List Line) → RowDiffers ls cells → differs (length cells) (map kind_of ls) ≡ true
differs_to cells ls d = ap (λ (z : List Line). differs (length cells) (map kind_of z)) d.cut ∙ differs_there cells d.earlier d.row d.between d.other d.one_table

-- the kinds say what the fault at a line is, whichever language it names and whichever row it differs from
fault_here : (before : List Line) (l : Line) → IsKindAt before l (fault_kind (map kind_of before) (kind_of l)) (fault_column (kind_of l) (first_column l))
fault_here before (line n t i Blank) = (refl, refl)
fault_here before (line n t i Comment) = (refl, refl)
fault_here before (line n t i (Tags (Ok ws))) = (refl, refl)
fault_here before (line n t i (Tags (Err column))) = (refl, refl)
fault_here before (line n t i (Title b k m)) = (refl, refl)
fault_here before (line n t i (Step k y m)) = (refl, refl)
fault_here before (line n t i (Fenced f media)) = (refl, refl)
fault_here before (line n t i Other) = (refl, refl)
fault_here before (line n t i (Language w)) = go (same_text w english)
  where
    go : (b : Bool) → (fault_kind (map kind_of before) (cond b kind.English kind.OtherLanguage) ≡ fault.UnsupportedLanguage) × (fault_column (cond b kind.English kind.OtherLanguage) (i + 1) ≡ i + 1)
    go true = (refl, refl)
    go false = (refl, refl)
fault_here before (line n t i (Row cells)) = (go (differs (length cells) (map kind_of before)) refl, refl)
  where
    go : (b : Bool) → differs (length cells) (map kind_of before) ≡ b →
        (RowDiffers before cells × (cond b fault.CellCount fault.Unexpected ≡ fault.CellCount)) ⊎ ((RowDiffers before cells → ⊥) × (cond b fault.CellCount fault.Unexpected ≡ fault.Unexpected))
    go true e = inl (differs_from cells before e, refl)
    go false e = inr (λ d. let f = differs_to cells before d in cc, refl)

-- a line, those before it and those after it, with their kinds and its first column
record Here (ls : List Line) (n : ℕ) : Type 0 where
  before : List Line
  at : Line
  after : List Line
  cut : ls ≡ before ++ at ∷ after
  long : length before ≡ n
  kinds : take n (map kind_of ls) ≡ map kind_of before
  kind : (d : Kind) → get_or (map kind_of ls) n d ≡ kind_of at
  column : (d : ℕ) → get_or (map first_column ls) n d ≡ first_column at

here : (ls : List Line) (n : ℕ) → n < length ls → Here ls n
here [] n within = absurd (omega arith)
here (l ∷ ls) zero within = record {
  before = [];
  at = l;
  after = ls;
  cut = refl;
  long = refl;
  kinds = refl;
  kind = λ d. refl;
  column = λ d. refl;
}
here (l ∷ ls) (suc n) within =
    let rest = here ls n (omega arith) in
    record {
      before = l ∷ rest.before;
      at = rest.at;
      after = rest.after;
      cut = ap (λ (z : List Line). l ∷ z) rest.cut;
      long = ap suc rest.long;
      kinds = ap (λ (z : List Kind). kind_of l ∷ z) rest.kinds;
      kind = rest.kind;
      column = rest.column;
    }

-- where the lines up to this one are the first that are no front, the kinds say what the fault there is
kind_at : (ls : List Line) (n : ℕ) → AreNumberedFrom 1 ls → IsFirstBad ls (n + 1) → (r : Here ls n)
    → IsFaultWithin ls (fault_kind (map kind_of r.before) (kind_of r.at)) (n + 1) (fault_column (kind_of r.at) (first_column r.at))
kind_at ls n a bad r = go (run initial_state ls) refl
  where
    kind : FaultKind
    kind = fault_kind (map kind_of r.before) (kind_of r.at)

    column : ℕ
    column = fault_column (kind_of r.at) (first_column r.at)

    same : (b : PlacedFault) → Stops initial_state ls b → (b.kind ≡ kind) × (b.column ≡ column)
    same b t =
        let place : length t.before + 1 ≡ n + 1 = one_place ls (length t.before + 1) (n + 1) (stop_is_place ls b a t) bad in
        let long : length r.before ≡ n = r.long in
        let front = same_front t.before r.before t.at r.at t.later r.after (omega arith) (sym t.cut ∙ r.cut) in
        let there : IsKindAt t.before t.at b.kind b.column = (stop_has_kind t.before t.at t.state b t.came t.stopped).1 in
        one_kind r.before r.at b.kind kind b.column column
        (subst (λ (z : Line). IsKindAt r.before z b.kind b.column) front.1
        (subst (λ (z : List Line). IsKindAt z t.at b.kind b.column) front.0 there))
        (fault_here r.before r.at)

    within : (b : PlacedFault) → (b.kind ≡ kind) × (b.column ≡ column) → IsFault ls b.kind b.line b.column → IsFaultWithin ls kind (n + 1) column
    within b e (inl f) =
        subst (λ (z : FaultKind). IsFaultWithin ls z (n + 1) column) e.0
        (subst (λ (z : ℕ). IsFaultWithin ls b.kind (n + 1) z) e.1
        (subst (λ (z : ℕ). IsFaultWithin ls b.kind z b.column) (one_place ls b.line (n + 1) f.place bad) f))
    within b e (inr f) = absurd (bad.bad (f.place.fronts (n + 1) bad.from_one bad.within))

    go : (x : Result State PlacedFault) → run initial_state ls ≡ x → IsFaultWithin ls kind (n + 1) column
    go (Ok s) e = absurd (bad.bad (fronts_read ls s a e (n + 1)))
    go (Err b) e = within b (same b (stops_at initial_state ls b e)) (stop_has_fault ls b a e)

-- what the kinds and the first columns give at a line is the fault there
pub fault_within : (ls : List Line) (ks front : List Kind) (columns : List ℕ) (n : ℕ) (d : Kind) (e : ℕ) (k : FaultKind) (c : ℕ) → AreNumberedFrom 1 ls → map kind_of ls ≡ ks → map first_column ls ≡ columns → front ≡ take n ks →
    k ≡ fault_kind front (get_or ks n d) → c ≡ fault_column (get_or ks n d) (get_or columns n e) → n < length ks → IsFirstBad ls (n + 1) → IsFaultWithin ls k (n + 1) c
fault_within ls ks front columns n d e k c lines kinds firsts cut kind_is column_is within bad =
    let r = here ls n (let g = sym (length-map ls kind_of) ∙ ap (λ (z : List Kind). length z) kinds in omega arith) in
    let front_is : front ≡ map kind_of r.before = cut ∙ ap (λ (z : List Kind). take n z) (sym kinds) ∙ r.kinds in
    let at_is : get_or ks n d ≡ kind_of r.at = ap (λ (z : List Kind). get_or z n d) (sym kinds) ∙ r.kind d in
    let first_is : get_or columns n e ≡ first_column r.at = ap (λ (z : List ℕ). get_or z n e) (sym firsts) ∙ r.column e in
    let kind_there : fault_kind (map kind_of r.before) (kind_of r.at) ≡ k = let f = front_is in let a = at_is in cc in
    let column_there : fault_column (kind_of r.at) (first_column r.at) ≡ c = let a = at_is in let f = first_is in cc in
    subst (λ (z : FaultKind). IsFaultWithin ls z (n + 1) c) kind_there
    (subst (λ (z : ℕ). IsFaultWithin ls (fault_kind (map kind_of r.before) (kind_of r.at)) (n + 1) z) column_there
    (kind_at ls n lines bad r))
