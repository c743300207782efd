-- Where the machine stops, it reports the kind and the column of the fault at that line, but for the language that the line
-- names and for which row of a table a row differs from.
use Rattle.std.proofs.Common.{◌≡◌, ℕ, Bool, true, false, List, [], ◌∷◌, ◌++◌, length, Option, Some, None, Result, Ok, Err, refl, sym, ap, subst, ◌∙◌, append_assoc, append-nil, inl, inr}
use Rattle.std.proofs.lemmas.Bool.{eq-eqb}
use Rattle.std.specs.Prelude.{IfErr, IfOk, IsTrue, cond, ◌==◌, ◌⊎◌, ◌+◌}
use Rattle.std.specs.List.{AllByRecursion}
use Rattle.gk_line.specs.declared.tokens.Block.{Block}
use Rattle.gk_line.specs.declared.tokens.Block.TheVariants as block
use Rattle.gk_document.specs.declared.tree.Cell.{Cell}
use Rattle.gk_document.specs.declared.tree.Fence.{Fence}
use Rattle.gk_document.specs.declared.tree.Fence.TheVariants as fence
use Rattle.gk_document.specs.declared.tree.Argument.TheVariants.{Table, Text as Quoted}
use Rattle.gk_grammar.specs.Token.{Utf8, Token, Blank, Comment, Language, Tags, Title, Step, Row, Fenced, Other, Line, line, number, is_gap}
use Rattle.gk_grammar.specs.Tree as tree
use Rattle.gk_grammar.specs.Tree.{Tag, Argument, DocString}
use Rattle.gk_grammar.specs.Grammar.{Piece, Then, Each, AtMostOne, OneLine, IsRow, IsTable, IsTagLine, IsArgument, IsStepLine, IsStep, IsDocString, IsPlainGap, IsEnglish, stops, is_fence, english}
use Rattle.gk_grammar.specs.Machine.{FlatBlock, Phase, Start, AfterLanguage, AfterTags, InDescription, AfterStep, InDocString, InExamplesTable, State, PlacedFault, next, at_phase, run, initial_state, follows, takes_tags, close_block, after_description, with_description, after_step, step_row, step_fence, in_examples_table, another_row, count_of, before_first_block, at_start, after_language, after_tags, same_text, with_steps, with_rows}
use Rattle.gk_grammar.specs.Place.{is_row_or_gap, HasOtherCount}
use Rattle.gk_grammar.specs.declared.fault.FaultKind.{FaultKind}
use Rattle.gk_grammar.specs.declared.fault.FaultKind.TheVariants as kind
use Rattle.gk_grammar.proofs.Open.{IsDone, IsOpen, Holds, StateHolds, IsHead, SomeTagLines}
use Rattle.gk_grammar.proofs.Sound.{run_holds, starts}

-- ---- the lines at the end

-- the last lines are such a piece
pub record Ends (P : Piece) (ls : List Line) : Type 0 where
  pub earlier : List Line
  pub tail : List Line
  pub comments : List tree.Comment
  pub cut : ls ≡ earlier ++ tail
  pub holds : P tail comments

pub ends_then : (P Q : Piece) (ls : List Line) (cs : List tree.Comment) → Then P Q ls cs → Ends Q ls
ends_then P Q ls cs t = record { earlier = t.front; tail = t.back; comments = t.back_comments; cut = t.cut; holds = t.second }

pub ends_later : (P Q : Piece) (ls : List Line) → Ends (Then P Q) ls → Ends Q ls
ends_later P Q ls e =
    let t = e.holds in
    record {
      earlier = e.earlier ++ t.front;
      tail = t.back;
      comments = t.back_comments;
      cut = e.cut ∙ ap (λ (z : List Line). e.earlier ++ z) t.cut ∙ sym (append_assoc e.earlier t.front t.back);
      holds = t.second;
    }

-- ---- rows of another count

-- a row of another count is among the last lines, with nothing but rows, comments and blank lines after it
pub record RowDiffers (before : List Line) (cells : List Cell) : Type 0 where
  pub earlier : List Line
  pub row : Line
  pub between : List Line
  pub cut : before ≡ earlier ++ row ∷ between
  pub other : HasOtherCount cells row
  pub one_table : AllByRecursion (λ l. IsTrue (is_row_or_gap l)) between

-- the kind and the column of a fault at a line, whichever language it names, and whichever row it differs from
abbrev pub IsKindAt : List Line → Line → FaultKind → ℕ → Type 0
IsKindAt before (line n t i (Tags (Err c))) k column = (k ≡ kind.TagSpace) × (column ≡ c)
IsKindAt before (line n t i (Language w)) k column =
    (k ≡ kind.UnsupportedLanguage) × (column ≡ i + 1)
IsKindAt before (line n t i (Row cells)) k column =
    ((RowDiffers before cells × (k ≡ kind.CellCount))
    ⊎ ((RowDiffers before cells → ⊥) × (k ≡ kind.Unexpected)))
    × (column ≡ i + 1)
IsKindAt before (line n t i _) k column = (k ≡ kind.Unexpected) × (column ≡ i + 1)

-- the lines end with one that is no row, after which comments and blank lines come
record EndsOther (ls : List Line) : Type 0 where
  earlier : List Line
  at : Line
  gap : List Line
  cut : ls ≡ earlier ++ at ∷ gap
  other : is_row_or_gap at ≡ false
  gaps : AllByRecursion (λ l. IsTrue (is_gap l)) gap

is_a_row : (cells : List Cell) (l : Line) → HasOtherCount cells l → is_row_or_gap l ≡ true
is_a_row cells (line n t i (Row others)) h = refl
is_a_row cells (line n t i _) h = absurd h

row_is_no_gap : (cells : List Cell) (l : Line) → HasOtherCount cells l → IsTrue (is_gap l) → ⊥
row_is_no_gap cells (line n t i (Row others)) h g = absurd cc
row_is_no_gap cells (line n t i _) h g = absurd h

all_at : {A : Type 0} (P : A → Type 0) (xs : List A) (y : A) (ys : List A) → AllByRecursion P (xs ++ y ∷ ys) → P y
all_at P [] y ys a = a.0
all_at P (x ∷ xs) y ys a = all_at P xs y ys a.1

module _ (cells : List Cell) (row : Line) (between : List Line) (other : HasOtherCount cells row) (one : AllByRecursion (λ l. IsTrue (is_row_or_gap l)) between) where
  cuts_differ : (at : Line) (gap : List Line) → is_row_or_gap at ≡ false → AllByRecursion (λ l. IsTrue (is_gap l)) gap → (xs ys : List Line) → xs ++ row ∷ between ≡ ys ++ at ∷ gap → ⊥
  cuts_differ at gap f g [] [] e = let same : row ≡ at = cc in let r : is_row_or_gap at ≡ true = subst (λ (z : Line). is_row_or_gap z ≡ true) same (is_a_row cells row other) in cc
  cuts_differ at gap f g [] (y ∷ ys) e = let same : between ≡ ys ++ at ∷ gap = cc in let r : is_row_or_gap at ≡ true = all_at (λ l. IsTrue (is_row_or_gap l)) ys at gap (subst (AllByRecursion (λ l. IsTrue (is_row_or_gap l))) same one) in cc
  cuts_differ at gap f g (x ∷ xs) [] e = let same : xs ++ row ∷ between ≡ gap = cc in row_is_no_gap cells row other (all_at (λ l. IsTrue (is_gap l)) xs row between (subst (AllByRecursion (λ l. IsTrue (is_gap l))) (sym same) g))
  cuts_differ at gap f g (x ∷ xs) (y ∷ ys) e = let same : xs ++ row ∷ between ≡ ys ++ at ∷ gap = cc in cuts_differ at gap f g xs ys same

no_table : (cells : List Cell) (ls : List Line) → EndsOther ls → RowDiffers ls cells → ⊥
no_table cells ls e d = cuts_differ cells d.row d.between d.other d.one_table e.at e.gap e.other e.gaps d.earlier e.earlier (sym d.cut ∙ e.cut)

no_rows : (cells : List Cell) (ls : List Line) → AllByRecursion (λ l. IsTrue (is_gap l)) ls → RowDiffers ls cells → ⊥
no_rows cells ls g d = row_is_no_gap cells d.row d.other (all_at (λ l. IsTrue (is_gap l)) d.earlier d.row d.between (subst (AllByRecursion (λ l. IsTrue (is_gap l))) d.cut g))

-- ---- after tag lines and doc strings

tag_line_other : (tags : List Tag) (l : Line) → IsTagLine tags l → is_row_or_gap l ≡ false
tag_line_other tags (line n t i (Tags (Ok words))) h = refl
tag_line_other tags (line n t i (Tags (Err c))) h = refl
tag_line_other tags (line n t i _) h = absurd h

one_line_ends : (tags : List Tag) (ls : List Line) → Ends (OneLine (IsTagLine tags)) ls → EndsOther ls
one_line_ends tags ls e = go e.tail e.cut e.holds
  where
    go : (tail : List Line) → ls ≡ e.earlier ++ tail → OneLine (IsTagLine tags) tail e.comments → EndsOther ls
    go [] c h = absurd h
    go (l ∷ gap) c h = record { earlier = e.earlier; at = l; gap = gap; cut = c; other = tag_line_other tags l h.0; gaps = h.1.0 }

tag_lines_end : (first : List Tag) (others : List (List Tag)) (ls : List Line) → Ends (Each (λ ts. OneLine (IsTagLine ts)) (first ∷ others)) ls → EndsOther ls
tag_lines_end first [] ls e =
    let t = e.holds in
    one_line_ends first ls (record {
      earlier = e.earlier;
      tail = t.front;
      comments = t.front_comments;
      cut = e.cut ∙ ap (λ (z : List Line). e.earlier ++ z) (t.cut ∙ ap (λ (z : List Line). t.front ++ z) t.second.0 ∙ append-nil t.front);
      holds = t.first;
    })
tag_lines_end first (ts ∷ others) ls e = tag_lines_end ts others ls (ends_later (OneLine (IsTagLine first)) (Each (λ ts. OneLine (IsTagLine ts)) (ts ∷ others)) ls e)

fence_other : (f : Fence) (l : Line) → is_fence f l ≡ true → is_row_or_gap l ≡ false
fence_other f (line n t i (Fenced g m)) e = refl
fence_other fence.Quotes (line n t i _) e = absurd cc
fence_other fence.Backticks (line n t i _) e = absurd cc

doc_string_ends : (d : DocString) (ls : List Line) → Ends (IsDocString d) ls → EndsOther ls
doc_string_ends d ls e = go e.tail e.cut e.holds
  where
    go : (tail : List Line) → ls ≡ e.earlier ++ tail → IsDocString d tail e.comments → EndsOther ls
    go [] c h = absurd h
    go (line n t i (Fenced f m) ∷ more) c h =
        let w = h.3 in
        record {
          earlier = e.earlier ++ (line n t i (Fenced f m) ∷ w.inside);
          at = w.close;
          gap = w.gap;
          cut = c ∙ ap (λ (z : List Line). e.earlier ++ line n t i (Fenced f m) ∷ z) w.cut ∙ sym (append_assoc e.earlier (line n t i (Fenced f m) ∷ w.inside) (w.close ∷ w.gap));
          other = fence_other f w.close w.closed;
          gaps = w.gap_after.0;
        }
    go (line n t i _ ∷ more) c h = absurd h

-- ---- after rows

gap_or_row : (l : Line) → IsTrue (is_gap l) → IsTrue (is_row_or_gap l)
gap_or_row (line n t i Blank) g = refl
gap_or_row (line n t i Comment) g = refl
gap_or_row (line n t i (Language w)) g = refl
gap_or_row (line n t i _) g = absurd cc

pub gaps_or_rows : (ls : List Line) → AllByRecursion (λ l. IsTrue (is_gap l)) ls → AllByRecursion (λ l. IsTrue (is_row_or_gap l)) ls
gaps_or_rows [] a = tt
gaps_or_rows (l ∷ ls) a = (gap_or_row l a.0, gaps_or_rows ls a.1)

row_or_gap : (r : tree.Row) (l : Line) → IsRow r l → IsTrue (is_row_or_gap l)
row_or_gap r (line n t i (Row cells)) h = refl
row_or_gap r (line n t i _) h = absurd h

pub all_join : (xs ys : List Line) → AllByRecursion (λ l. IsTrue (is_row_or_gap l)) xs → AllByRecursion (λ l. IsTrue (is_row_or_gap l)) ys → AllByRecursion (λ l. IsTrue (is_row_or_gap l)) (xs ++ ys)
all_join [] ys a b = b
all_join (x ∷ xs) ys a b = (a.0, all_join xs ys a.1 b)

row_lines : (r : tree.Row) (ls : List Line) (cs : List tree.Comment) → OneLine (IsRow r) ls cs → AllByRecursion (λ l. IsTrue (is_row_or_gap l)) ls
row_lines r [] cs h = absurd h
row_lines r (l ∷ ls) cs h = (row_or_gap r l h.0, gaps_or_rows ls h.1.0)

pub rows_lines : (rs : List tree.Row) (ls : List Line) (cs : List tree.Comment) → Each (λ x. OneLine (IsRow x)) rs ls cs → AllByRecursion (λ l. IsTrue (is_row_or_gap l)) ls
rows_lines [] ls cs h = subst (AllByRecursion (λ l. IsTrue (is_row_or_gap l))) (sym h.0) tt
rows_lines (r ∷ rs) ls cs h = subst (AllByRecursion (λ l. IsTrue (is_row_or_gap l))) (sym h.cut) (all_join h.front h.back (row_lines r h.front h.front_comments h.first) (rows_lines rs h.back h.back_comments h.second))

other_count : (r : tree.Row) (cells : List Cell) (l : Line) → IsRow r l → (length cells == length r.cells) ≡ false → HasOtherCount cells l
other_count r cells (line n t i (Row others)) h e = λ same. let yes : (length cells == length r.cells) ≡ true = eq-eqb _ _ (sym same ∙ ap (λ (z : List Cell). length z) (sym h.1)) in cc
other_count r cells (line n t i _) h e = absurd h

table_differs : (rows : List tree.Row) (cells : List Cell) (ls : List Line) → Ends (IsTable rows) ls → (length cells == count_of rows) ≡ false → RowDiffers ls cells
table_differs [] cells ls e f = absurd e.holds
table_differs (r ∷ rs) cells ls e f = go e.holds.1.front e.holds.1.cut e.holds.1.first
  where
    go : (front : List Line) → e.tail ≡ front ++ e.holds.1.back → OneLine (IsRow r) front e.holds.1.front_comments → RowDiffers ls cells
    go [] c h = absurd h
    go (l ∷ gap) c h = record {
      earlier = e.earlier;
      row = l;
      between = gap ++ e.holds.1.back;
      cut = e.cut ∙ ap (λ (z : List Line). e.earlier ++ z) c;
      other = other_count r cells l h.0 f;
      one_table = all_join gap e.holds.1.back (gaps_or_rows gap h.1.0) (rows_lines rs e.holds.1.back e.holds.1.back_comments e.holds.1.second);
    }

-- ---- the faults of the machine

-- a fault of a line after these
abbrev pub IsKindOf : List Line → Line → PlacedFault → Type 0
IsKindOf before l b = (b.line ≡ number l) × IsKindAt before l b.kind b.column

abbrev Faults : List Line → Line → Result State PlacedFault → Type 0
Faults before l r = IfErr r (IsKindOf before l)

cond_faults : (before : List Line) (l : Line) (b : Bool) (x y : Result State PlacedFault) → (b ≡ true → Faults before l x) → (b ≡ false → Faults before l y) → Faults before l (cond b x y)
cond_faults before l true x y f g = f refl
cond_faults before l false x y f g = g refl

leaving_faults : (before : List Line) (s : State) (c : FlatBlock) (n : ℕ) (t : List ℕ) (i : ℕ) (k : Token) → ((cells : List Cell) → k ≡ Row cells → ⊥) → ((w : Utf8) → k ≡ Language w → ⊥) → Faults before (line n t i k) (close_block s c (line n t i k))
leaving_faults before s c n t i (Tags (Ok words)) h g = tt
leaving_faults before s c n t i (Tags (Err column)) h g = (refl, (refl, refl))
leaving_faults before s c n t i (Title b k m) h g = cond_faults before (line n t i (Title b k m)) (follows (Some c.block) b) _ _ (λ _. tt) (λ _. (refl, (refl, refl)))
leaving_faults before s c n t i (Row cells) h g = absurd (h cells refl)
leaving_faults before s c n t i (Language w) h g = absurd (g w refl)
leaving_faults before s c n t i Blank h g = (refl, (refl, refl))
leaving_faults before s c n t i Comment h g = (refl, (refl, refl))
leaving_faults before s c n t i (Step k y m) h g = (refl, (refl, refl))
leaving_faults before s c n t i (Fenced f m) h g = (refl, (refl, refl))
leaving_faults before s c n t i Other h g = (refl, (refl, refl))

entering_faults : (before : List Line) (s : State) (c : FlatBlock) (l : Line) → stops c.block l ≡ true → Faults before l (after_description s c l)
entering_faults before s c (line n t i (Step k y m)) e = tt
entering_faults before s c (line n t i (Row cells)) e = tt
entering_faults before s c (line n t i (Language w)) e = absurd (go c.block e)
  where
    go : (b : Block) → stops b (line n t i (Language w)) ≡ true → ⊥
    go block.Feature f = absurd cc
    go block.Rule f = absurd cc
    go block.Background f = absurd cc
    go block.Scenario f = absurd cc
    go block.Examples f = absurd cc
entering_faults before s c (line n t i (Tags (Ok words))) e = tt
entering_faults before s c (line n t i (Tags (Err column))) e = (refl, (refl, refl))
entering_faults before s c (line n t i (Title b k m)) e = cond_faults before (line n t i (Title b k m)) (follows (Some c.block) b) _ _ (λ _. tt) (λ _. (refl, (refl, refl)))
entering_faults before s c (line n t i Blank) e = (refl, (refl, refl))
entering_faults before s c (line n t i Comment) e = (refl, (refl, refl))
entering_faults before s c (line n t i (Fenced f m)) e = (refl, (refl, refl))
entering_faults before s c (line n t i Other) e = (refl, (refl, refl))

another_row_faults : (before : List Line) (s : State) (phase : List tree.Row → Phase) (rows : List tree.Row) (n : ℕ) (t : List ℕ) (i : ℕ) (cells : List Cell) → Ends (IsTable rows) before →
    Faults before (line n t i (Row cells)) (another_row s phase rows n i cells)
another_row_faults before s phase rows n t i cells e =
    cond_faults before (line n t i (Row cells)) (length cells == count_of rows) _ _ (λ _. tt) (λ f. (refl, (inl (table_differs rows cells before e f, refl), refl)))

step_row_faults : (before : List Line) (s : State) (c : FlatBlock) (steps : List tree.Step) (last : tree.Step) (a : Option Argument) (n : ℕ) (t : List ℕ) (i : ℕ) (cells : List Cell) →
    Ends (AtMostOne IsArgument a) before → Faults before (line n t i (Row cells)) (step_row s c steps last a n i cells)
step_row_faults before s c steps last None n t i cells e = tt
step_row_faults before s c steps last (Some (Table rows)) n t i cells e = another_row_faults before s (λ rs. AfterStep c steps (record last { argument = Some (Table rs) })) rows n t i cells e
step_row_faults before s c steps last (Some (Quoted d)) n t i cells e = (refl, (inr (no_table cells before (doc_string_ends d before e), refl), refl))

step_fence_faults : (before : List Line) (s : State) (c : FlatBlock) (steps : List tree.Step) (last : tree.Step) (a : Option Argument) (n : ℕ) (t : List ℕ) (i : ℕ) (f : Fence) (m : Utf8) →
    Faults before (line n t i (Fenced f m)) (step_fence s c steps last a n i f m)
step_fence_faults before s c steps last None n t i f m = tt
step_fence_faults before s c steps last (Some a) n t i f m = (refl, (refl, refl))

stepping_faults : (before : List Line) (s : State) (c : FlatBlock) (steps : List tree.Step) (last : tree.Step) (l : Line) → Ends (AtMostOne IsArgument last.argument) before → Faults before l (after_step s c steps last l)
stepping_faults before s c steps last (line n t i (Step k y m)) e = tt
stepping_faults before s c steps last (line n t i (Row cells)) e = step_row_faults before s c steps last last.argument n t i cells e
stepping_faults before s c steps last (line n t i (Fenced f m)) e = step_fence_faults before s c steps last last.argument n t i f m
stepping_faults before s c steps last (line n t i Blank) e = tt
stepping_faults before s c steps last (line n t i Comment) e = tt
stepping_faults before s c steps last (line n t i (Language w)) e = tt
stepping_faults before s c steps last (line n t i (Tags r)) e = leaving_faults before s (with_steps c (steps ++ last ∷ [])) n t i (Tags r) (λ cells f. absurd cc) (λ w f. absurd cc)
stepping_faults before s c steps last (line n t i (Title b k m)) e = leaving_faults before s (with_steps c (steps ++ last ∷ [])) n t i (Title b k m) (λ cells f. absurd cc) (λ w f. absurd cc)
stepping_faults before s c steps last (line n t i Other) e = (refl, (refl, refl))

listing_faults : (before : List Line) (s : State) (c : FlatBlock) (rows : List tree.Row) (l : Line) → Ends (IsTable rows) before → Faults before l (in_examples_table s c rows l)
listing_faults before s c rows (line n t i (Row cells)) e = another_row_faults before s (λ rs. InExamplesTable c rs) rows n t i cells e
listing_faults before s c rows (line n t i Blank) e = tt
listing_faults before s c rows (line n t i Comment) e = tt
listing_faults before s c rows (line n t i (Language w)) e = tt
listing_faults before s c rows (line n t i (Tags r)) e = leaving_faults before s (with_rows c rows) n t i (Tags r) (λ cells f. absurd cc) (λ w f. absurd cc)
listing_faults before s c rows (line n t i (Title b k m)) e = leaving_faults before s (with_rows c rows) n t i (Title b k m) (λ cells f. absurd cc) (λ w f. absurd cc)
listing_faults before s c rows (line n t i (Step k y m)) e = (refl, (refl, refl))
listing_faults before s c rows (line n t i (Fenced f m)) e = (refl, (refl, refl))
listing_faults before s c rows (line n t i Other) e = (refl, (refl, refl))

after_tags_faults : (before : List Line) (s : State) (bef : Option Block) (tags : List Tag) (l : Line) → EndsOther before → Faults before l (after_tags s bef tags l)
after_tags_faults before s bef tags (line n t i Blank) e = tt
after_tags_faults before s bef tags (line n t i Comment) e = tt
after_tags_faults before s bef tags (line n t i (Language w)) e = tt
after_tags_faults before s bef tags (line n t i (Tags (Ok words))) e = tt
after_tags_faults before s bef tags (line n t i (Tags (Err column))) e = (refl, (refl, refl))
after_tags_faults before s bef tags (line n t i (Title b k m)) e =
    cond_faults before (line n t i (Title b k m)) (follows bef b) _ _ (λ _. cond_faults before (line n t i (Title b k m)) (takes_tags b) _ _ (λ _. tt) (λ _. (refl, (refl, refl)))) (λ _. (refl, (refl, refl)))
after_tags_faults before s bef tags (line n t i (Row cells)) e = (refl, (inr (no_table cells before e, refl), refl))
after_tags_faults before s bef tags (line n t i (Step k y m)) e = (refl, (refl, refl))
after_tags_faults before s bef tags (line n t i (Fenced f m)) e = (refl, (refl, refl))
after_tags_faults before s bef tags (line n t i Other) e = (refl, (refl, refl))

-- no language line comes here
beginning_faults : (before : List Line) (s : State) (p : Phase) (n : ℕ) (t : List ℕ) (i : ℕ) (k : Token) → ((w : Utf8) → k ≡ Language w → ⊥) → AllByRecursion (λ l. IsTrue (is_gap l)) before → Faults before (line n t i k) (before_first_block s p (line n t i k))
beginning_faults before s p n t i Blank h g = tt
beginning_faults before s p n t i Comment h g = tt
beginning_faults before s p n t i (Language w) h g = absurd (h w refl)
beginning_faults before s p n t i (Tags (Ok words)) h g = tt
beginning_faults before s p n t i (Tags (Err column)) h g = (refl, (refl, refl))
beginning_faults before s p n t i (Title block.Feature k m) h g = tt
beginning_faults before s p n t i (Title block.Rule k m) h g = (refl, (refl, refl))
beginning_faults before s p n t i (Title block.Background k m) h g = (refl, (refl, refl))
beginning_faults before s p n t i (Title block.Scenario k m) h g = (refl, (refl, refl))
beginning_faults before s p n t i (Title block.Examples k m) h g = (refl, (refl, refl))
beginning_faults before s p n t i (Row cells) h g = (refl, (inr (no_rows cells before g, refl), refl))
beginning_faults before s p n t i (Step k y m) h g = (refl, (refl, refl))
beginning_faults before s p n t i (Fenced f m) h g = (refl, (refl, refl))
beginning_faults before s p n t i Other h g = (refl, (refl, refl))

before_faults : (before : List Line) (s : State) (l : Line) → AllByRecursion (λ l. IsTrue (is_gap l)) before → Faults before l (at_start s l)
before_faults before s (line n t i (Language w)) g = cond_faults before (line n t i (Language w)) (same_text w english) _ _ (λ _. tt) (λ _. (refl, (refl, refl)))
before_faults before s (line n t i Blank) g = beginning_faults before s Start n t i Blank (λ w f. absurd cc) g
before_faults before s (line n t i Comment) g = beginning_faults before s Start n t i Comment (λ w f. absurd cc) g
before_faults before s (line n t i (Tags r)) g = beginning_faults before s Start n t i (Tags r) (λ w f. absurd cc) g
before_faults before s (line n t i (Title b k m)) g = beginning_faults before s Start n t i (Title b k m) (λ w f. absurd cc) g
before_faults before s (line n t i (Step k y m)) g = beginning_faults before s Start n t i (Step k y m) (λ w f. absurd cc) g
before_faults before s (line n t i (Row cells)) g = beginning_faults before s Start n t i (Row cells) (λ w f. absurd cc) g
before_faults before s (line n t i (Fenced f m)) g = beginning_faults before s Start n t i (Fenced f m) (λ w f. absurd cc) g
before_faults before s (line n t i Other) g = beginning_faults before s Start n t i Other (λ w f. absurd cc) g

spoken_faults : (before : List Line) (s : State) (l : Line) → AllByRecursion (λ l. IsTrue (is_gap l)) before → Faults before l (after_language s l)
spoken_faults before s (line n t i (Language w)) g = tt
spoken_faults before s (line n t i Blank) g = beginning_faults before s AfterLanguage n t i Blank (λ w f. absurd cc) g
spoken_faults before s (line n t i Comment) g = beginning_faults before s AfterLanguage n t i Comment (λ w f. absurd cc) g
spoken_faults before s (line n t i (Tags r)) g = beginning_faults before s AfterLanguage n t i (Tags r) (λ w f. absurd cc) g
spoken_faults before s (line n t i (Title b k m)) g = beginning_faults before s AfterLanguage n t i (Title b k m) (λ w f. absurd cc) g
spoken_faults before s (line n t i (Step k y m)) g = beginning_faults before s AfterLanguage n t i (Step k y m) (λ w f. absurd cc) g
spoken_faults before s (line n t i (Row cells)) g = beginning_faults before s AfterLanguage n t i (Row cells) (λ w f. absurd cc) g
spoken_faults before s (line n t i (Fenced f m)) g = beginning_faults before s AfterLanguage n t i (Fenced f m) (λ w f. absurd cc) g
spoken_faults before s (line n t i Other) g = beginning_faults before s AfterLanguage n t i Other (λ w f. absurd cc) g

-- ---- any phase

english_gap : (l : Line) → IsEnglish l → IsTrue (is_gap l)
english_gap (line n t i (Language w)) e = refl
english_gap (line n t i _) e = absurd e

gaps_join : (xs ys : List Line) → AllByRecursion (λ l. IsTrue (is_gap l)) xs → AllByRecursion (λ l. IsTrue (is_gap l)) ys → AllByRecursion (λ l. IsTrue (is_gap l)) (xs ++ ys)
gaps_join [] ys a b = b
gaps_join (x ∷ xs) ys a b = (a.0, gaps_join xs ys a.1 b)

spoken_gaps : (ls : List Line) (cs : List tree.Comment) → Then IsPlainGap (OneLine IsEnglish) ls cs → AllByRecursion (λ l. IsTrue (is_gap l)) ls
spoken_gaps ls cs t = subst (AllByRecursion (λ l. IsTrue (is_gap l))) (sym t.cut) (gaps_join t.front t.back t.first.1.0 (go t.back t.back_comments t.second))
  where
    go : (us : List Line) (vs : List tree.Comment) → OneLine IsEnglish us vs → AllByRecursion (λ l. IsTrue (is_gap l)) us
    go [] vs h = absurd h
    go (l ∷ us) vs h = (english_gap l h.0, h.1.0)

last_argument : (s : State) (c : FlatBlock) (steps : List tree.Step) (last : tree.Step) (ls : List Line) → Holds (AfterStep c steps last) s.flat_blocks ls s.comments → Ends (AtMostOne IsArgument last.argument) ls
last_argument s c steps last ls h =
    let e = ends_then (IsDone s.flat_blocks) (IsOpen (AfterStep c steps last)) ls s.comments h in
    ends_later (OneLine (IsStepLine last)) (AtMostOne IsArgument last.argument) ls
    (ends_later (Each IsStep steps) (IsStep last) ls
    (ends_later (IsHead c) (Then (Each IsStep steps) (IsStep last)) ls (record { earlier = e.earlier; tail = e.tail; comments = e.comments; cut = e.cut; holds = e.holds.1 })))

last_table : (s : State) (c : FlatBlock) (rows : List tree.Row) (ls : List Line) → Holds (InExamplesTable c rows) s.flat_blocks ls s.comments → Ends (IsTable rows) ls
last_table s c rows ls h =
    let e = ends_then (IsDone s.flat_blocks) (IsOpen (InExamplesTable c rows)) ls s.comments h in
    ends_later (IsHead c) (IsTable rows) ls (record { earlier = e.earlier; tail = e.tail; comments = e.comments; cut = e.cut; holds = e.holds.1 })

last_tags : (s : State) (bef : Option Block) (tags : List Tag) (ls : List Line) → Holds (AfterTags bef tags) s.flat_blocks ls s.comments → EndsOther ls
last_tags s bef tags ls h =
    let e = ends_then (IsDone s.flat_blocks) (SomeTagLines tags) ls s.comments h in
    tag_lines_end e.holds.0 e.holds.1 ls (record { earlier = e.earlier; tail = e.tail; comments = e.comments; cut = e.cut; holds = e.holds.3 })

at_phase_faults : (s : State) (p : Phase) (l : Line) (ls : List Line) → Holds p s.flat_blocks ls s.comments → Faults ls l (at_phase s p l)
at_phase_faults s Start l ls h = before_faults ls s l h.1.1.0
at_phase_faults s AfterLanguage l ls h = spoken_faults ls s l (spoken_gaps ls s.comments h.1)
at_phase_faults s (AfterTags bef tags) l ls h = after_tags_faults ls s bef tags l (last_tags s bef tags ls h)
at_phase_faults s (InDescription c lines) l ls h = cond_faults ls l (stops c.block l) _ _ (λ e. entering_faults ls s (with_description c lines) l e) (λ _. tt)
at_phase_faults s (AfterStep c steps last) l ls h = stepping_faults ls s c steps last l (last_argument s c steps last ls h)
at_phase_faults s (InDocString c steps last q inside) l ls h = cond_faults ls l (is_fence q.fence l) _ _ (λ _. tt) (λ _. tt)
at_phase_faults s (InExamplesTable c rows) l ls h = listing_faults ls s c rows l (last_table s c rows ls h)

-- a line at which the machine stops has the kind and the column of the fault that it reports
pub stop_has_kind : (before : List Line) (l : Line) (s : State) (b : PlacedFault) → run initial_state before ≡ Ok s → next s l ≡ Err b → IsKindOf before l b
stop_has_kind before l s b e f =
    subst (λ (r : Result State PlacedFault). Faults before l r) f
    (at_phase_faults s s.phase l before (subst (λ (r : Result State PlacedFault). IfOk r (StateHolds before)) e (run_holds before initial_state [] starts)))

-- the kind and the column of a fault at a line are settled
pub one_kind : (before : List Line) (at : Line) (k l : FaultKind) (c d : ℕ) → IsKindAt before at k c → IsKindAt before at l d → (k ≡ l) × (c ≡ d)
one_kind before (line n t i (Tags (Err column))) k l c d f g = (f.0 ∙ sym g.0, f.1 ∙ sym g.1)
one_kind before (line n t i (Language w)) k l c d f g = (f.0 ∙ sym g.0, f.1 ∙ sym g.1)
one_kind before (line n t i (Row cells)) k l c d f g = (go f.0 g.0, f.1 ∙ sym g.1)
  where
    go : (RowDiffers before cells × (k ≡ kind.CellCount)) ⊎ ((RowDiffers before cells → ⊥) × (k ≡ kind.Unexpected)) →
        (RowDiffers before cells × (l ≡ kind.CellCount)) ⊎ ((RowDiffers before cells → ⊥) × (l ≡ kind.Unexpected)) → k ≡ l
    go (inl x) (inl y) = x.1 ∙ sym y.1
    go (inl x) (inr y) = absurd (y.0 x.0)
    go (inr x) (inl y) = absurd (x.0 y.0)
    go (inr x) (inr y) = x.1 ∙ sym y.1
one_kind before (line n t i (Tags (Ok words))) k l c d f g = (f.0 ∙ sym g.0, f.1 ∙ sym g.1)
one_kind before (line n t i Blank) k l c d f g = (f.0 ∙ sym g.0, f.1 ∙ sym g.1)
one_kind before (line n t i Comment) k l c d f g = (f.0 ∙ sym g.0, f.1 ∙ sym g.1)
one_kind before (line n t i (Title b w m)) k l c d f g = (f.0 ∙ sym g.0, f.1 ∙ sym g.1)
one_kind before (line n t i (Step w y m)) k l c d f g = (f.0 ∙ sym g.0, f.1 ∙ sym g.1)
one_kind before (line n t i (Fenced q m)) k l c d f g = (f.0 ∙ sym g.0, f.1 ∙ sym g.1)
one_kind before (line n t i Other) k l c d f g = (f.0 ∙ sym g.0, f.1 ∙ sym g.1)
