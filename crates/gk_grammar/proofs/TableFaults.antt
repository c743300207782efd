-- Where the machine stops at a language line, that names another language than English; and where it stops for a count of
-- cells, the first row of the table has another count.
use Rattle.std.proofs.Common.{◌≡◌, ℕ, Bool, true, false, List, [], ◌∷◌, ◌++◌, length, Option, Some, None, Result, Ok, Err, refl, sym, ap, subst, ◌∙◌, cond, append_assoc, append-nil, inl, inr}
use Rattle.std.proofs.lemmas.Bool.{eq-eqb}
use Rattle.std.specs.Prelude.{IfOk, IsTrue, IsFalse, ◌≢◌, ◌==◌, ◌⊎◌}
use Rattle.std.specs.List.{AllByRecursion}
use Rattle.gk_line.specs.declared.tokens.Block.{Block}
use Rattle.gk_line.specs.declared.tokens.Block.TheVariants as block
use Rattle.gk_document.specs.declared.tree.Cell.{Cell}
use Rattle.gk_document.specs.declared.tree.Argument.TheVariants.{Table, Text as Quoted}
use Rattle.gk_grammar.specs.Token.{Utf8, Blank, Comment, Language, Tags, Title, Step, Row, Fenced, Other, Line, line, number, is_gap}
use Rattle.gk_grammar.specs.Tree as tree
use Rattle.gk_grammar.specs.Tree.{Argument}
use Rattle.gk_grammar.specs.Grammar.{Piece, Then, Each, AtMostOne, OneLine, IsRow, IsTable, IsTitle, TitleAndDescription, IsArgument, IsStepLine, IsStep, stops, is_fence, english}
use Rattle.gk_grammar.specs.Machine.{FlatBlock, Phase, Start, AfterLanguage, AfterTags, InDescription, AfterStep, InDocString, InExamplesTable, State, PlacedFault, next, at_phase, run, initial_state, step_row, count_of, same_text, after_description, with_description, pass_over}
use Rattle.gk_grammar.specs.Place.{IsFaultAt, DiffersFromTable, HasOtherCount, is_row_or_gap}
use Rattle.gk_grammar.specs.declared.fault.FaultKind.{FaultKind}
use Rattle.gk_grammar.specs.declared.fault.FaultKind.TheVariants as kind
use Rattle.gk_grammar.proofs.Faults.{Ends, ends_later, RowDiffers, IsKindAt, stop_has_kind, gaps_or_rows, rows_lines, all_join}
use Rattle.gk_grammar.proofs.Open.{Holds, StateHolds, IsDone, IsOpen, IsHead}
use Rattle.gk_grammar.proofs.Sound.{run_holds, starts}

-- what all lines are, they are
ends_all : (P : Piece) (ls : List Line) (cs : List tree.Comment) → P ls cs → Ends P ls
ends_all P ls cs h = record { earlier = []; tail = ls; comments = cs; cut = refl; holds = h }

-- ---- a table at the end

-- the lines end in this table, before which there is a line that is no row, comments and blank lines aside
record EndsInTable (ls : List Line) (rows : List tree.Row) : Type 0 where
  earlier : List Line
  last : Line
  gap : List Line
  table : List Line
  comments : List tree.Comment
  cut : ls ≡ earlier ++ last ∷ (gap ++ table)
  no_row : is_row_or_gap last ≡ false
  only_gap : AllByRecursion (λ l. IsTrue (is_gap l)) gap
  holds : IsTable rows table comments

-- the last of the lines that is neither a row nor a gap
record LastNoRow (ls : List Line) : Type 0 where
  earlier : List Line
  last : Line
  gap : List Line
  cut : ls ≡ earlier ++ last ∷ gap
  no_row : is_row_or_gap last ≡ false
  only_gap : AllByRecursion (λ l. IsTrue (is_gap l)) gap

all_more : (xs : List Line) (y : Line) → AllByRecursion (λ l. IsTrue (is_gap l)) xs → IsTrue (is_gap y) → AllByRecursion (λ l. IsTrue (is_gap l)) (xs ++ y ∷ [])
all_more [] y a b = (b, tt)
all_more (x ∷ xs) y a b = (a.0, all_more xs y a.1 b)

-- a description line of examples is no row
text_line : (l : Line) → stops block.Examples l ≡ false → is_gap l ≡ false → is_row_or_gap l ≡ false
text_line (line n t i (Row cells)) e f = absurd cc
text_line (line n t i Blank) e f = f
text_line (line n t i Comment) e f = f
text_line (line n t i (Language w)) e f = f
text_line (line n t i (Tags r)) e f = refl
text_line (line n t i (Title b k m)) e f = refl
text_line (line n t i (Step k y m)) e f = refl
text_line (line n t i (Fenced q m)) e f = refl
text_line (line n t i Other) e f = refl

last_no_row : (l : Line) (gap xs : List Line) → is_row_or_gap l ≡ false → AllByRecursion (λ x. IsTrue (is_gap x)) gap → AllByRecursion (λ x. IsFalse (stops block.Examples x)) xs → LastNoRow (l ∷ (gap ++ xs))
last_no_row l gap [] n g a = record { earlier = []; last = l; gap = gap; cut = ap (λ (z : List Line). l ∷ z) (append-nil gap); no_row = n; only_gap = g }
last_no_row l gap (x ∷ xs) n g a = go (is_gap x) refl (λ e. last_no_row l (gap ++ x ∷ []) xs n (all_more gap x g e) a.1) (λ e. last_no_row x [] xs (text_line x a.0 e) tt a.1)
  where
    go : (c : Bool) → is_gap x ≡ c → (is_gap x ≡ true → LastNoRow (l ∷ ((gap ++ x ∷ []) ++ xs))) → (is_gap x ≡ false → LastNoRow (x ∷ xs)) → LastNoRow (l ∷ (gap ++ x ∷ xs))
    go true e f h = subst (λ (z : List Line). LastNoRow (l ∷ z)) (append_assoc gap (x ∷ []) xs) (f e)
    go false e f h =
        let r : LastNoRow (x ∷ xs) = h e in
        record {
          earlier = l ∷ (gap ++ r.earlier);
          last = r.last;
          gap = r.gap;
          cut = ap (λ (z : List Line). l ∷ (gap ++ z)) r.cut ∙ ap (λ (z : List Line). l ∷ z) (sym (append_assoc gap r.earlier (r.last ∷ r.gap)));
          no_row = r.no_row;
          only_gap = r.only_gap;
        }

title_no_row : (b : Block) (place : tree.Location) (k m : Utf8) (l : Line) → IsTitle b place k m l → is_row_or_gap l ≡ false
title_no_row b place k m (line n t i (Title x y z)) h = refl
title_no_row b place k m (line n t i _) h = absurd h

step_no_row : (s : tree.Step) (l : Line) → IsStepLine s l → is_row_or_gap l ≡ false
step_no_row s (line n t i (Step x y z)) h = refl
step_no_row s (line n t i _) h = absurd h

joined : (earlier front table ls : List Line) (rows : List tree.Row) (cs : List tree.Comment) → ls ≡ earlier ++ (front ++ table) → LastNoRow front → IsTable rows table cs → EndsInTable ls rows
joined earlier front table ls rows cs cut r h = record {
  earlier = earlier ++ r.earlier;
  last = r.last;
  gap = r.gap;
  table = table;
  comments = cs;
  cut = cut ∙ ap (λ (z : List Line). earlier ++ (z ++ table)) r.cut ∙ ap (λ (z : List Line). earlier ++ z) (append_assoc r.earlier (r.last ∷ r.gap) table)
      ∙ sym (append_assoc earlier r.earlier (r.last ∷ (r.gap ++ table)));
  no_row = r.no_row;
  only_gap = r.only_gap;
  holds = h;
}

step_line : (s : tree.Step) (ls : List Line) (cs : List tree.Comment) → OneLine (IsStepLine s) ls cs → LastNoRow ls
step_line s [] cs h = absurd h
step_line s (l ∷ gap) cs h = record { earlier = []; last = l; gap = gap; cut = refl; no_row = step_no_row s l h.0; only_gap = h.1.0 }

titled : (b : Block) (place : tree.Location) (k m d : Utf8) (ls : List Line) (cs : List tree.Comment) → b ≡ block.Examples → TitleAndDescription b place k m d ls cs → LastNoRow ls
titled b place k m d [] cs e h = absurd h
titled b place k m d (l ∷ ls) cs e h = last_no_row l [] ls (title_no_row b place k m l h.0) tt (subst (λ (z : Block). AllByRecursion (λ x. IsFalse (stops z x)) ls) e h.1)

after_step_line : (s : State) (c : FlatBlock) (steps : List tree.Step) (last : tree.Step) (rows : List tree.Row) (ls : List Line) → last.argument ≡ Some (Table rows)
    → Holds (AfterStep c steps last) s.flat_blocks ls s.comments → EndsInTable ls rows
after_step_line s c steps last rows ls is h =
    let e : Ends (IsOpen (AfterStep c steps last)) ls = ends_later (IsDone s.flat_blocks) (IsOpen (AfterStep c steps last)) ls (ends_all (Then (IsDone s.flat_blocks) (IsOpen (AfterStep c steps last))) ls s.comments h) in
    let f : Ends (IsStep last) ls =
    ends_later (Each IsStep steps) (IsStep last) ls
    (ends_later (IsHead c) (Then (Each IsStep steps) (IsStep last)) ls (record { earlier = e.earlier; tail = e.tail; comments = e.comments; cut = e.cut; holds = e.holds.1 })) in
    let t = f.holds in
    joined f.earlier t.front t.back ls rows t.back_comments (f.cut ∙ ap (λ (z : List Line). f.earlier ++ z) t.cut) (step_line last t.front t.front_comments t.first)
    (subst (λ (a : Option Argument). AtMostOne IsArgument a t.back t.back_comments) is t.second)

after_title : (s : State) (c : FlatBlock) (rows : List tree.Row) (ls : List Line) → Holds (InExamplesTable c rows) s.flat_blocks ls s.comments → EndsInTable ls rows
after_title s c rows ls h =
    let e : Ends (IsOpen (InExamplesTable c rows)) ls = ends_later (IsDone s.flat_blocks) (IsOpen (InExamplesTable c rows)) ls (ends_all (Then (IsDone s.flat_blocks) (IsOpen (InExamplesTable c rows))) ls s.comments h) in
    let t = e.holds.1 in
    let head = t.first in
    joined (e.earlier ++ head.front) head.back t.back ls rows t.back_comments
    (e.cut ∙ ap (λ (z : List Line). e.earlier ++ z) (t.cut ∙ ap (λ (z : List Line). z ++ t.back) head.cut ∙ append_assoc head.front head.back t.back) ∙ sym (append_assoc e.earlier head.front (head.back ++ t.back)))
    (titled c.block c.place c.keyword c.name c.description head.back head.back_comments e.holds.0 head.second) t.second

-- ---- the rows of a table

row_of_others : (r : tree.Row) (cells : List Cell) (l : Line) → IsRow r l → length cells ≢ length r.cells → HasOtherCount cells l
row_of_others r cells (line n t i (Row others)) h other = λ same. other (sym same ∙ ap (λ (z : List Cell). length z) (sym h.1))
row_of_others r cells (line n t i _) h other = absurd h

-- ---- where the pass stops

-- a table ends the lines, and its rows have another count
abbrev AfterTable : List Line → List Cell → Type 0
AfterTable before cells = (rows : List tree.Row) × EndsInTable before rows × (length cells ≢ count_of rows)

abbrev reported : Result State PlacedFault → Option FaultKind
reported (Ok s) = None
reported (Err b) = Some b.kind

abbrev unexpected : ℕ → ℕ → Result State PlacedFault
unexpected n column = Err (record { kind = kind.Unexpected; line = n; column = column })

unexpected_is_none : (b : PlacedFault) (n column : ℕ) → unexpected n column ≡ Err b → b.kind ≡ kind.CellCount → ⊥
unexpected_is_none b n column e f = let g : Some kind.Unexpected ≡ Some b.kind = ap reported e in cc

either_passed : (c : Bool) (x y : State) (b : PlacedFault) → cond c (Ok x) (Ok y) ≡ Err b → ⊥
either_passed true x y b e = cc
either_passed false x y b e = cc

differs : (c : Bool) (x : State) (y : Result State PlacedFault) (b : PlacedFault) → cond c (Ok x) y ≡ Err b → c ≡ false
differs true x y b e = absurd cc
differs false x y b e = refl

other_count : (m n : ℕ) → (m == n) ≡ false → m ≢ n
other_count m n e same = let yes : (m == n) ≡ true = eq-eqb m n same in cc

step_row_stop : (before : List Line) (s : State) (c : FlatBlock) (steps : List tree.Step) (last : tree.Step) (a : Option Argument) (n i : ℕ) (cells : List Cell) (b : PlacedFault) → last.argument ≡ a
    → Holds (AfterStep c steps last) s.flat_blocks before s.comments → step_row s c steps last a n i cells ≡ Err b → b.kind ≡ kind.CellCount → AfterTable before cells
step_row_stop before s c steps last None n i cells b is h e f = absurd cc
step_row_stop before s c steps last (Some (Table rows)) n i cells b is h e f = (rows, after_step_line s c steps last rows before is h, other_count (length cells) (count_of rows) (differs (length cells == count_of rows) _ _ b e))
step_row_stop before s c steps last (Some (Quoted d)) n i cells b is h e f = absurd (unexpected_is_none b _ _ e f)

row_stop : (before : List Line) (s : State) (p : Phase) (n : ℕ) (t : List ℕ) (i : ℕ) (cells : List Cell) (b : PlacedFault) → Holds p s.flat_blocks before s.comments
    → at_phase s p (line n t i (Row cells)) ≡ Err b → b.kind ≡ kind.CellCount → AfterTable before cells
row_stop before s Start n t i cells b h e f = absurd (unexpected_is_none b _ _ e f)
row_stop before s AfterLanguage n t i cells b h e f = absurd (unexpected_is_none b _ _ e f)
row_stop before s (AfterTags o tags) n t i cells b h e f = absurd (unexpected_is_none b _ _ e f)
row_stop before s (InDescription c ls) n t i cells b h e f = absurd (either_passed (stops c.block (line n t i (Row cells))) _ _ b e)
row_stop before s (AfterStep c steps last) n t i cells b h e f = step_row_stop before s c steps last last.argument n i cells b refl h e f
row_stop before s (InDocString c steps last q inside) n t i cells b h e f = absurd (either_passed (is_fence q.fence (line n t i (Row cells))) _ _ b e)
row_stop before s (InExamplesTable c rows) n t i cells b h e f = (rows, after_title s c rows before h, other_count (length cells) (count_of rows) (differs (length cells == count_of rows) _ _ b e))

-- the first row of the table has another count
table_differs : (before : List Line) (cells : List Cell) → AfterTable before cells → DiffersFromTable before cells
table_differs before cells ([], e, other) = absurd e.holds
table_differs before cells (r ∷ rs, e, other) = go e.holds.1.front e.holds.1.cut e.holds.1.first
  where
    go : (front : List Line) → e.table ≡ front ++ e.holds.1.back → OneLine (IsRow r) front e.holds.1.front_comments → DiffersFromTable before cells
    go [] c f = absurd f
    go (l ∷ between) c f = record {
      earlier = e.earlier;
      last = e.last;
      gap = e.gap;
      first = l;
      others = between ++ e.holds.1.back;
      cut = e.cut ∙ ap (λ (z : List Line). e.earlier ++ e.last ∷ (e.gap ++ z)) c;
      no_row = e.no_row;
      only_gap = e.only_gap;
      other = row_of_others r cells l f.0 other;
      one_table = all_join between e.holds.1.back (gaps_or_rows between f.1.0) (rows_lines rs e.holds.1.back e.holds.1.back_comments e.holds.1.second);
    }

-- the first row is a row
some_row : (before : List Line) (cells : List Cell) → DiffersFromTable before cells → RowDiffers before cells
some_row before cells d = record {
  earlier = d.earlier ++ d.last ∷ d.gap;
  row = d.first;
  between = d.others;
  cut = d.cut ∙ sym (append_assoc d.earlier (d.last ∷ d.gap) (d.first ∷ d.others));
  other = d.other;
  one_table = d.one_table;
}

-- ---- language lines

taken_true : (c : Bool) (x : State) (y : Result State PlacedFault) (b : PlacedFault) → c ≡ true → cond c (Ok x) y ≡ Err b → ⊥
taken_true true x y b e f = cc
taken_true false x y b e f = cc

english_taken : (w : Utf8) → w ≡ english → same_text w english ≡ true
english_taken w e = subst (λ (z : Utf8). same_text z english ≡ true) (sym e) refl

language_stops_none : (c : Block) (n : ℕ) (t : List ℕ) (i : ℕ) (w : Utf8) → stops c (line n t i (Language w)) ≡ false
language_stops_none block.Feature n t i w = refl
language_stops_none block.Rule n t i w = refl
language_stops_none block.Background n t i w = refl
language_stops_none block.Scenario n t i w = refl
language_stops_none block.Examples n t i w = refl

passed : (c : Bool) (x : Result State PlacedFault) (y : State) (b : PlacedFault) → c ≡ false → cond c x (Ok y) ≡ Err b → ⊥
passed true x y b e f = cc
passed false x y b e f = cc

-- of all phases only the first stops at a language line
language_stop : (s : State) (p : Phase) (n : ℕ) (t : List ℕ) (i : ℕ) (w : Utf8) (b : PlacedFault)
    → at_phase s p (line n t i (Language w)) ≡ Err b → w ≢ english
language_stop s Start n t i w b e = λ same. taken_true (same_text w english) _ _ b (english_taken w same) e
language_stop s AfterLanguage n t i w b e = absurd cc
language_stop s (AfterTags o tags) n t i w b e = absurd cc
language_stop s (InDescription c ls) n t i w b e = absurd (passed (stops c.block (line n t i (Language w))) (after_description s (with_description c ls) (line n t i (Language w))) (pass_over s (InDescription c (ls ++ line n t i (Language w) ∷ [])) (line n t i (Language w))) b (language_stops_none c.block n t i w) e)
language_stop s (AfterStep c steps last) n t i w b e = absurd cc
language_stop s (InDocString c steps last q inside) n t i w b e = absurd (either_passed (is_fence q.fence (line n t i (Language w))) _ _ b e)
language_stop s (InExamplesTable c rows) n t i w b e = absurd cc

-- ---- any line

-- the line number of a fault, and what it is
abbrev pub IsFaultOf : List Line → Line → PlacedFault → Type 0
IsFaultOf before l b = (b.line ≡ number l) × IsFaultAt before l b.kind b.column

row_fault : (before : List Line) (s : State) (n : ℕ) (t : List ℕ) (i : ℕ) (cells : List Cell) (b : PlacedFault) → Holds s.phase s.flat_blocks before s.comments → next s (line n t i (Row cells)) ≡ Err b
    → (RowDiffers before cells × (b.kind ≡ kind.CellCount)) ⊎ ((RowDiffers before cells → ⊥) × (b.kind ≡ kind.Unexpected))
    → (DiffersFromTable before cells × (b.kind ≡ kind.CellCount)) ⊎ ((DiffersFromTable before cells → ⊥) × (b.kind ≡ kind.Unexpected))
row_fault before s n t i cells b h f (inl k) = inl (table_differs before cells (row_stop before s s.phase n t i cells b h f k.1), k.1)
row_fault before s n t i cells b h f (inr k) = inr (λ d. k.0 (some_row before cells d), k.1)

of_kind : (before : List Line) (l : Line) (s : State) (b : PlacedFault) → StateHolds before s → next s l ≡ Err b
    → IsKindAt before l b.kind b.column → IsFaultAt before l b.kind b.column
of_kind before (line n t i (Language w)) s b h f k = (language_stop s s.phase n t i w b f, k.0, k.1)
of_kind before (line n t i (Row cells)) s b h f k = (row_fault before s n t i cells b h f k.0, k.1)
of_kind before (line n t i (Tags (Err c))) s b h f k = k
of_kind before (line n t i (Tags (Ok words))) s b h f k = k
of_kind before (line n t i Blank) s b h f k = k
of_kind before (line n t i Comment) s b h f k = k
of_kind before (line n t i (Title x y z)) s b h f k = k
of_kind before (line n t i (Step x y z)) s b h f k = k
of_kind before (line n t i (Fenced x y)) s b h f k = k
of_kind before (line n t i Other) s b h f k = k

-- a line at which the machine stops has the fault that it reports
pub stop_is_fault : (before : List Line) (l : Line) (s : State) (b : PlacedFault) → run initial_state before ≡ Ok s → next s l ≡ Err b → IsFaultOf before l b
stop_is_fault before l s b e f =
    let k = stop_has_kind before l s b e f in
    (k.0, of_kind before l s b (subst (λ (r : Result State PlacedFault). IfOk r (StateHolds before)) e (run_holds before initial_state [] starts)) f k.1)
