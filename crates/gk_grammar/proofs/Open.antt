-- What the lines read so far are, at each phase.
use Rattle.std.proofs.Common.{◌≡◌, ℕ, ◌+◌, Bool, true, false, List, [], ◌∷◌, ◌++◌, length, Option, Some, None, Result, Ok, Err, refl, sym, ap, subst, ◌∙◌, append_assoc, append-nil}
use Rattle.std.proofs.lemmas.Bool.{eqb-true}
use Rattle.std.specs.Prelude.{IfOk, IsTrue, IsFalse, map, cond, ◌==◌}
use Rattle.std.specs.List.{AllByRecursion, flat_map}
use Rattle.gk_document.specs.declared.tree.Cell.{Cell}
use Rattle.gk_line.specs.declared.tokens.Block.{Block}
use Rattle.gk_line.specs.declared.tokens.Block.TheVariants as block
use Rattle.gk_document.specs.declared.tree.Fence.{Fence}
use Rattle.gk_document.specs.MediaType.{unless_empty}
use Rattle.gk_grammar.specs.Token.{Utf8, TagText, Blank, Comment, Language, Tags, Title, Step, Row, Fenced, Other, Line, line, is_gap}
use Rattle.gk_grammar.specs.Tree as tree
use Rattle.gk_grammar.specs.Tree.{Location, Tag, DocString, Argument}
use Rattle.gk_document.specs.declared.tree.Argument.TheVariants.{Table, Text as Quoted}
use Rattle.gk_grammar.specs.Grammar.{Piece, Then, ◌⨾◌, Nothing, Each, AtMostOne, OneLine, comments_of, at, TagLines, IsTagLine, place_and_name, tag_at, TitleAndDescription, IsTitle, stops, IsStep, IsStepLine, IsArgument, IsTable, IsRow, HaveEqualCounts, IsDocString, Closes, is_fence, IsPlainGap, IsOpening, IsEnglish}
use Rattle.gk_grammar.specs.Machine.{Body, Bare, Steps, Rows, FlatBlock, OpenDocString, Phase, Start, AfterLanguage, AfterTags, InDescription, AfterStep, InDocString, InExamplesTable, State, PlacedFault, after_step, step_row, step_fence, row_at, step_at, count_of, with_doc_string, doc_string, with_steps, with_rows, empty_body, at_phase, close_block, add_tags, open_block, new_block, tags_from, follows, in_examples_table, takes_tags}
use Rattle.gk_grammar.proofs.Pieces.{moved, extended, mapped, joined, to_right, then_nothing, each_more, Takes, gap_takes, one_line_takes, then_takes, each_takes, all_more, only_first, then_empty, lengthened}

-- ---- the lines of a flat block

-- the rows of a table, or no line
abbrev pub IsRows : List tree.Row → Piece
IsRows [] = Nothing
IsRows (r ∷ rs) = IsTable (r ∷ rs)

abbrev pub IsBody : Block → Body → Piece
IsBody block.Feature Bare ls cs = Nothing ls cs
IsBody block.Rule Bare ls cs = Nothing ls cs
IsBody block.Background (Steps ss) ls cs = Each IsStep ss ls cs
IsBody block.Scenario (Steps ss) ls cs = Each IsStep ss ls cs
IsBody block.Examples (Rows rs) ls cs = IsRows rs ls cs
IsBody _ _ ls cs = ⊥

-- blocks with steps
abbrev pub has_steps : Block → Bool
has_steps block.Background = true
has_steps block.Scenario = true
has_steps _ = false

-- the tag lines of a block: a background has none, not even one without tags
abbrev pub FlatBlockTags : Block → List Tag → Piece
FlatBlockTags block.Background tags ls cs = (tags ≡ []) × Nothing ls cs
FlatBlockTags _ tags ls cs = TagLines tags ls cs

abbrev pub IsHead : FlatBlock → Piece
IsHead c = FlatBlockTags c.block c.tags ⨾ TitleAndDescription c.block c.place c.keyword c.name c.description

abbrev pub IsFlatBlock : FlatBlock → Piece
IsFlatBlock c = IsHead c ⨾ IsBody c.block c.body

-- a title line and the lines so far of a description
abbrev pub TitledYet : FlatBlock → List Line → Piece
TitledYet c ls [] cs = ⊥
TitledYet c ls (l ∷ xs) cs = IsTitle c.block c.place c.keyword c.name l × AllByRecursion (λ x. IsFalse (stops c.block x)) xs × (ls ≡ xs) × (cs ≡ comments_of xs)

-- an opening line and the lines so far of a doc string
abbrev pub IsQuote : OpenDocString → List Line → Piece
IsQuote q inside [] cs = ⊥
IsQuote q inside (line n t i (Fenced f media) ∷ ls) cs =
    (q.place ≡ at n (i + 1)) × (q.fence ≡ f) × (q.media ≡ media) × (q.indent ≡ i) × AllByRecursion (λ l. IsFalse (is_fence f l)) ls × (inside ≡ ls) × (cs ≡ [])
IsQuote q inside _ cs = ⊥

-- one tag line or more
abbrev pub SomeTagLines : List Tag → Piece
SomeTagLines tags ls cs = (first : List Tag) × (others : List (List Tag)) × (tags ≡ flat_map (λ ts. ts) (first ∷ others)) × Each (λ ts. OneLine (IsTagLine ts)) (first ∷ others) ls cs

-- the lines of what is open
abbrev pub IsOpen : Phase → Piece
IsOpen Start ls cs = ⊥
IsOpen AfterLanguage ls cs = ⊥
IsOpen (AfterTags before tags) ls cs = SomeTagLines tags ls cs
IsOpen (InDescription c lines) ls cs = (c.body ≡ empty_body c.block) × (FlatBlockTags c.block c.tags ⨾ TitledYet c lines) ls cs
IsOpen (AfterStep c before last) ls cs = IsTrue (has_steps c.block) × (IsHead c ⨾ Each IsStep before ⨾ IsStep last) ls cs
IsOpen (InDocString c before last q inside) ls cs = IsTrue (has_steps c.block) × (last.argument ≡ None) × (IsHead c ⨾ Each IsStep before ⨾ OneLine (IsStepLine last) ⨾ IsQuote q inside) ls cs
IsOpen (InExamplesTable c rows) ls cs = (c.block ≡ block.Examples) × (IsHead c ⨾ IsTable rows) ls cs

-- the lines of whole flat blocks
abbrev pub IsDone : List FlatBlock → Piece
IsDone flat_blocks = IsOpening ⨾ Each IsFlatBlock flat_blocks

-- all lines so far
abbrev pub Holds : Phase → List FlatBlock → Piece
Holds Start flat_blocks ls cs = (flat_blocks ≡ []) × IsPlainGap ls cs
Holds AfterLanguage flat_blocks ls cs = (flat_blocks ≡ []) × (IsPlainGap ⨾ OneLine IsEnglish) ls cs
Holds p flat_blocks ls cs = (IsDone flat_blocks ⨾ IsOpen p) ls cs

-- a state holds of some lines
abbrev pub StateHolds : List Line → State → Type 0
StateHolds ls s = Holds s.phase s.flat_blocks ls s.comments

-- ---- lines that add no comment

quiet : (P : Piece) (ls : List Line) (cs : List tree.Comment) → P ls (cs ++ []) → P ls cs
quiet P ls cs p = moved P refl (append-nil cs) p

pub step_line : (s : tree.Step) (l : Line) → IsStepLine s l → s.argument ≡ None → IsStep s (l ∷ []) []
step_line s l h e = record { front = l ∷ []; back = []; front_comments = []; back_comments = []; cut = refl; comments = refl; first = (h, (tt, refl)); second = rw e (refl, refl) }

-- the last step joins those before it
step_joins : (c : FlatBlock) (before : List tree.Step) (last : tree.Step) (xs : List Line) (ys : List tree.Comment) →
    Then (IsHead c) (Then (Each IsStep before) (IsStep last)) xs ys → Then (IsHead c) (Each IsStep (before ++ last ∷ [])) xs ys
step_joins c before last xs ys t = mapped (IsHead c) (Then (Each IsStep before) (IsStep last)) (Each IsStep (before ++ last ∷ [])) (λ u v w. each_more IsStep before last u v w) xs ys t

another_step : (c : FlatBlock) (before : List tree.Step) (last new : tree.Step) (l : Line) → IsStepLine new l → new.argument ≡ None →
    (xs : List Line) (ys : List tree.Comment) → IsOpen (AfterStep c before last) xs ys → IsOpen (AfterStep c (before ++ last ∷ []) new) (xs ++ l ∷ []) (ys ++ [])
another_step c before last new l h e xs ys t = (
  t.0,
  to_right (IsHead c) (Each IsStep (before ++ last ∷ [])) (IsStep new) _ _
      (joined (Then (IsHead c) (Each IsStep (before ++ last ∷ []))) (IsStep new) _ _ _ _ (step_joins c before last xs ys t.1) (step_line new l h e)),
)

-- a step with this argument
abbrev StepWith : tree.Step → Option Argument → Piece
StepWith s a = OneLine (IsStepLine s) ⨾ AtMostOne IsArgument a

row_line : (r : tree.Row) (l : Line) → IsRow r l → OneLine (IsRow r) (l ∷ []) []
row_line r l h = (h, (tt, refl))

pub one_row : (r : tree.Row) (l : Line) → IsRow r l → IsTable (r ∷ []) (l ∷ []) []
one_row r l h = (tt, then_nothing (OneLine (IsRow r)) (l ∷ []) [] (row_line r l h))

equal_counts_more : (r : tree.Row) (rs : List tree.Row) (x : tree.Row) → HaveEqualCounts (r ∷ rs) → length x.cells ≡ length r.cells → HaveEqualCounts (r ∷ rs ++ x ∷ [])
equal_counts_more r rs x h e = go rs h
  where
    go : (qs : List tree.Row) → AllByRecursion (λ (y : tree.Row). length y.cells ≡ length r.cells) qs → AllByRecursion (λ (y : tree.Row). length y.cells ≡ length r.cells) (qs ++ x ∷ [])
    go [] a = (e, tt)
    go (q ∷ qs) a = (a.0, go qs a.1)

table_more : (rows : List tree.Row) (x : tree.Row) (l : Line) → IsRow x l → length x.cells ≡ count_of rows →
    (xs : List Line) (ys : List tree.Comment) → IsTable rows xs ys → IsTable (rows ++ x ∷ []) (xs ++ l ∷ []) (ys ++ [])
table_more [] x l h e xs ys t = absurd t
table_more (r ∷ rs) x l h e xs ys t = (
  equal_counts_more r rs x t.0 e,
  each_more (λ y. OneLine (IsRow y)) (r ∷ rs) x (xs ++ l ∷ []) (ys ++ [])
      (joined (Each (λ y. OneLine (IsRow y)) (r ∷ rs)) (OneLine (IsRow x)) xs (l ∷ []) ys [] t.1 (row_line x l h)),
)

table_takes : (rows : List tree.Row) → Takes (IsTable rows) (IsTable rows)
table_takes [] ls cs l g t = absurd t
table_takes (r ∷ rs) ls cs l g t = (t.0, each_takes (λ y. OneLine (IsRow y)) (λ y. one_line_takes (IsRow y)) r rs ls cs l g t.1)

closes_takes : (f : Fence) (n : ℕ) (content : Utf8) → Takes (Closes f n content) (Closes f n content)
closes_takes f n content ls cs l g p = record {
  inside = p.inside;
  close = p.close;
  gap = p.gap ++ l ∷ [];
  cut = ap (λ (x : List Line). x ++ l ∷ []) p.cut ∙ append_assoc p.inside (p.close ∷ p.gap) (l ∷ []);
  open_yet = p.open_yet;
  closed = p.closed;
  value = p.value;
  gap_after = gap_takes p.gap cs l g p.gap_after;
}

doc_string_takes : (d : DocString) → Takes (IsDocString d) (IsDocString d)
doc_string_takes d [] cs l g p = absurd p
doc_string_takes d (line n t i (Fenced f media) ∷ ls) cs l g p = (p.0, p.1, p.2, closes_takes f i d.content ls cs l g p.3)
doc_string_takes d (line n t i _ ∷ ls) cs l g p = absurd p

-- the closing line
quote_closes : (q : OpenDocString) (inside : List Line) (l : Line) → IsTrue (is_fence q.fence l) →
    (xs : List Line) (ys : List tree.Comment) → IsQuote q inside xs ys → IsDocString (doc_string q inside) (xs ++ l ∷ []) (ys ++ [])
quote_closes q inside l h [] ys p = absurd p
quote_closes q inside l h (line n t i (Fenced f media) ∷ ls) ys p = (
  p.0,
  p.1,
  ap unless_empty p.2,
  record {
    inside = ls;
    close = l;
    gap = [];
    cut = refl;
    open_yet = p.4;
    closed = rw (← p.1) h;
    value = rw (p.1, p.3, p.5);
    gap_after = (tt, append-nil ys ∙ p.6);
  },
)
quote_closes q inside l h (line n t i _ ∷ ls) ys p = absurd p

-- a line of the content
quote_more : (q : OpenDocString) (inside : List Line) (l : Line) → IsFalse (is_fence q.fence l) →
    (xs : List Line) (ys : List tree.Comment) → IsQuote q inside xs ys → IsQuote q (inside ++ l ∷ []) (xs ++ l ∷ []) (ys ++ [])
quote_more q inside l h [] ys p = absurd p
quote_more q inside l h (line n t i (Fenced f media) ∷ ls) ys p = (p.0, p.1, p.2, p.3, all_more (λ x. IsFalse (is_fence f x)) ls l p.4 (rw (← p.1) h), ap (λ (x : List Line). x ++ l ∷ []) p.5, append-nil ys ∙ p.6)
quote_more q inside l h (line n t i _ ∷ ls) ys p = absurd p

argument_takes : (a : Argument) → Takes (IsArgument a) (IsArgument a)
argument_takes (Table rows) = table_takes rows
argument_takes (Quoted d) = doc_string_takes d

-- a step line and its argument take a gap line
step_takes : (s : tree.Step) (a : Option Argument) → Takes (StepWith s a) (StepWith s a)
step_takes s None ls cs l g t = then_nothing (OneLine (IsStepLine s)) _ _ (one_line_takes (IsStepLine s) ls cs l g (only_first (OneLine (IsStepLine s)) ls cs t))
step_takes s (Some a) ls cs l g t = then_takes (OneLine (IsStepLine s)) (IsArgument a) (argument_takes a) ls cs l g t

-- ---- after a step

stepping_gap : (s : State) (c : FlatBlock) (before : List tree.Step) (last : tree.Step) (l : Line) → IsTrue (is_gap l) →
    (ls : List Line) → Then (IsDone s.flat_blocks) (IsOpen (AfterStep c before last)) ls s.comments →
    Then (IsDone s.flat_blocks) (IsOpen (AfterStep c before last)) (ls ++ l ∷ []) (s.comments ++ comments_of (l ∷ []))
stepping_gap s c before last l g ls h =
    extended (IsDone s.flat_blocks) (IsOpen (AfterStep c before last)) (IsOpen (AfterStep c before last)) (l ∷ []) (comments_of (l ∷ []))
    (λ xs ys q. (
      q.0,
      extended (IsHead c) (Then (Each IsStep before) (IsStep last)) (Then (Each IsStep before) (IsStep last)) (l ∷ []) (comments_of (l ∷ []))
          (λ us vs r. extended (Each IsStep before) (IsStep last) (IsStep last) (l ∷ []) (comments_of (l ∷ [])) (λ ms bs w. step_takes last last.argument ms bs l g w) us vs r) xs ys q.1,
    )) ls s.comments h

-- a change of the last step by a line that adds no comment
last_step : (c : FlatBlock) (before : List tree.Step) (l : Line) (P Q : Piece) →
    ((xs : List Line) (ys : List tree.Comment) → P xs ys → Q (xs ++ l ∷ []) (ys ++ [])) →
    (xs : List Line) (ys : List tree.Comment) → Then (IsHead c) (Then (Each IsStep before) P) xs ys → Then (IsHead c) (Then (Each IsStep before) Q) (xs ++ l ∷ []) (ys ++ [])
last_step c before l P Q f xs ys t =
    extended (IsHead c) (Then (Each IsStep before) P) (Then (Each IsStep before) Q) (l ∷ []) [] (λ us vs r. extended (Each IsStep before) P Q (l ∷ []) [] f us vs r) xs ys t

first_row : (last : tree.Step) (r : tree.Row) (l : Line) → IsRow r l →
    (xs : List Line) (ys : List tree.Comment) → StepWith last None xs ys → StepWith last (Some (Table (r ∷ []))) (xs ++ l ∷ []) (ys ++ [])
first_row last r l h xs ys t = joined (OneLine (IsStepLine last)) (IsTable (r ∷ [])) xs (l ∷ []) ys [] (only_first (OneLine (IsStepLine last)) xs ys t) (one_row r l h)

next_row : (last : tree.Step) (rows : List tree.Row) (r : tree.Row) (l : Line) → IsRow r l → length r.cells ≡ count_of rows →
    (xs : List Line) (ys : List tree.Comment) → StepWith last (Some (Table rows)) xs ys → StepWith last (Some (Table (rows ++ r ∷ []))) (xs ++ l ∷ []) (ys ++ [])
next_row last rows r l h e xs ys t = extended (OneLine (IsStepLine last)) (IsTable rows) (IsTable (rows ++ r ∷ [])) (l ∷ []) [] (λ us vs q. table_more rows r l h e us vs q) xs ys t

quote_opens : (last : tree.Step) (n i : ℕ) (t : Utf8) (f : Fence) (media : Utf8) →
    (xs : List Line) (ys : List tree.Comment) → StepWith last None xs ys →
    Then (OneLine (IsStepLine last)) (IsQuote (record { place = at n (i + 1); fence = f; media = media; indent = i }) []) (xs ++ line n t i (Fenced f media) ∷ []) (ys ++ [])
quote_opens last n i t f media xs ys h = joined (OneLine (IsStepLine last)) (IsQuote (record { place = at n (i + 1); fence = f; media = media; indent = i }) []) xs (line n t i (Fenced f media) ∷ []) ys [] (only_first (OneLine (IsStepLine last)) xs ys h) (refl, refl, refl, refl, tt, refl, refl)

-- a test that decides
pub cond_ok : {A : Type 0} (P : A → Type 0) (b : Bool) (x y : Result A PlacedFault) → (b ≡ true → IfOk x P) → (b ≡ false → IfOk y P) → IfOk (cond b x y) P
cond_ok P true x y f g = f refl
cond_ok P false x y f g = g refl

step_row_holds : (s : State) (c : FlatBlock) (before : List tree.Step) (last : tree.Step) (a : Option Argument) → last.argument ≡ a → (n i : ℕ) (t : Utf8) (cells : List Cell) (ls : List Line) →
    Then (IsDone s.flat_blocks) (IsOpen (AfterStep c before last)) ls s.comments →
    IfOk (step_row s c before last a n i cells) (StateHolds (ls ++ line n t i (Row cells) ∷ []))
step_row_holds s c before last None e n i t cells ls h =
    lengthened (IsDone s.flat_blocks) (IsOpen (AfterStep c before last)) (IsOpen (AfterStep c before (record last { argument = Some (Table (row_at s n i cells ∷ [])) }))) (line n t i (Row cells))
    (λ xs ys q. (
      q.0,
      last_step c before (line n t i (Row cells)) (IsStep last) (StepWith last (Some (Table (row_at s n i cells ∷ []))))
          (λ us vs r. first_row last (row_at s n i cells) (line n t i (Row cells)) (refl, refl) us vs (subst (λ (o : Option Argument). StepWith last o us vs) e r)) xs ys q.1,
    )) ls s.comments h
step_row_holds s c before last (Some (Table rows)) e n i t cells ls h =
    cond_ok (StateHolds (ls ++ line n t i (Row cells) ∷ [])) (length cells == count_of rows) _ _
    (λ test. lengthened (IsDone s.flat_blocks) (IsOpen (AfterStep c before last)) (IsOpen (AfterStep c before (record last { argument = Some (Table (rows ++ row_at s n i cells ∷ [])) }))) (line n t i (Row cells))
    (λ xs ys q. (
      q.0,
      last_step c before (line n t i (Row cells)) (IsStep last) (StepWith last (Some (Table (rows ++ row_at s n i cells ∷ []))))
          (λ us vs r. next_row last rows (row_at s n i cells) (line n t i (Row cells)) (refl, refl) (eqb-true _ _ test) us vs (subst (λ (o : Option Argument). StepWith last o us vs) e r)) xs ys q.1,
    )) ls s.comments h)
    (λ _. tt)
step_row_holds s c before last (Some (Quoted d)) e n i t cells ls h = tt

step_fence_holds : (s : State) (c : FlatBlock) (before : List tree.Step) (last : tree.Step) (a : Option Argument) → last.argument ≡ a → (n i : ℕ) (t : Utf8) (f : Fence) (media : Utf8) (ls : List Line) →
    Then (IsDone s.flat_blocks) (IsOpen (AfterStep c before last)) ls s.comments →
    IfOk (step_fence s c before last a n i f media) (StateHolds (ls ++ line n t i (Fenced f media) ∷ []))
step_fence_holds s c before last None e n i t f media ls h =
    lengthened (IsDone s.flat_blocks) (IsOpen (AfterStep c before last)) (IsOpen (InDocString c before last (record { place = at n (i + 1); fence = f; media = media; indent = i }) [])) (line n t i (Fenced f media))
    (λ xs ys q. (
      q.0,
      e,
      last_step c before (line n t i (Fenced f media)) (IsStep last) (Then (OneLine (IsStepLine last)) (IsQuote (record { place = at n (i + 1); fence = f; media = media; indent = i }) []))
          (λ us vs r. quote_opens last n i t f media us vs (subst (λ (o : Option Argument). StepWith last o us vs) e r)) xs ys q.1,
    )) ls s.comments h
step_fence_holds s c before last (Some a) e n i t f media ls h = tt

-- ---- after a whole flat block

pub done_more : (flat_blocks : List FlatBlock) (c : FlatBlock) (ls : List Line) (cs : List tree.Comment) → Then (IsDone flat_blocks) (IsFlatBlock c) ls cs → IsDone (flat_blocks ++ c ∷ []) ls cs
done_more flat_blocks c ls cs t =
    mapped IsOpening (Then (Each IsFlatBlock flat_blocks) (IsFlatBlock c)) (Each IsFlatBlock (flat_blocks ++ c ∷ [])) (λ us vs w. each_more IsFlatBlock flat_blocks c us vs w) ls cs
    (to_right IsOpening (Each IsFlatBlock flat_blocks) (IsFlatBlock c) ls cs t)

tags_read : (n node : ℕ) (words : List TagText) → map place_and_name (tags_from n node words) ≡ map (tag_at n) words
tags_read n node [] = refl
tags_read n node (w ∷ ws) = ap (λ (r : List (Location × Utf8)). tag_at n w ∷ r) (tags_read n (node + 1) ws)

flat_more : (parts : List (List Tag)) (last : List Tag) → flat_map (λ ts. ts) (parts ++ last ∷ []) ≡ flat_map (λ ts. ts) parts ++ last
flat_more [] last = append-nil last
flat_more (p ∷ ps) last = ap (λ (x : List Tag). p ++ x) (flat_more ps last) ∙ sym (append_assoc p (flat_map (λ ts. ts) ps) last)

some_of_more : (parts : List (List Tag)) (last tags : List Tag) (xs : List Line) (ys : List tree.Comment) →
    tags ≡ flat_map (λ ts. ts) (parts ++ last ∷ []) → Each (λ ts. OneLine (IsTagLine ts)) (parts ++ last ∷ []) xs ys → SomeTagLines tags xs ys
some_of_more [] last tags xs ys e h = (last, [], e, h)
some_of_more (p ∷ ps) last tags xs ys e h = (p, ps ++ last ∷ [], e, h)

-- tag lines, and one more
pub tag_lines_more : (tags : List Tag) (n node i : ℕ) (t : Utf8) (words : List TagText) →
    (xs : List Line) (ys : List tree.Comment) → TagLines tags xs ys → SomeTagLines (tags ++ tags_from n node words) (xs ++ line n t i (Tags (Ok words)) ∷ []) (ys ++ [])
tag_lines_more tags n node i t words xs ys h =
    some_of_more h.0 (tags_from n node words) (tags ++ tags_from n node words) _ _
    (ap (λ (x : List Tag). x ++ tags_from n node words) h.1 ∙ sym (flat_more h.0 (tags_from n node words)))
    (each_more (λ ts. OneLine (IsTagLine ts)) h.0 (tags_from n node words) _ _
    (joined (Each (λ ts. OneLine (IsTagLine ts)) h.0) (OneLine (IsTagLine (tags_from n node words))) xs (line n t i (Tags (Ok words)) ∷ []) ys [] h.2 (tags_read n node words, (tt, refl))))

pub some_are : (tags : List Tag) (xs : List Line) (ys : List tree.Comment) → SomeTagLines tags xs ys → TagLines tags xs ys
some_are tags xs ys h = (h.0 ∷ h.1, h.2, h.3)

pub tags_take : (tags : List Tag) → Takes (SomeTagLines tags) (SomeTagLines tags)
tags_take tags ls cs l g h = (h.0, h.1, h.2, each_takes (λ ts. OneLine (IsTagLine ts)) (λ ts. one_line_takes (IsTagLine ts)) h.0 h.1 ls cs l g h.3)

pub no_tags : TagLines [] [] []
no_tags = ([], refl, (refl, refl))

pub no_flat_block_tags : (b : Block) → FlatBlockTags b [] [] []
no_flat_block_tags block.Background = (refl, (refl, refl))
no_flat_block_tags block.Feature = no_tags
no_flat_block_tags block.Rule = no_tags
no_flat_block_tags block.Scenario = no_tags
no_flat_block_tags block.Examples = no_tags

pub flat_block_tags : (b : Block) (tags : List Tag) → takes_tags b ≡ true → (xs : List Line) (ys : List tree.Comment) → TagLines tags xs ys → FlatBlockTags b tags xs ys
flat_block_tags block.Background tags e xs ys h = absurd cc
flat_block_tags block.Feature tags e xs ys h = h
flat_block_tags block.Rule tags e xs ys h = h
flat_block_tags block.Scenario tags e xs ys h = h
flat_block_tags block.Examples tags e xs ys h = h

-- a title line after tag lines
pub title_opens : (s : State) (flat_blocks : List FlatBlock) (b : Block) (tags : List Tag) (n i : ℕ) (t k m : Utf8) (ls : List Line) →
    Then (IsDone flat_blocks) (FlatBlockTags b tags) ls s.comments → StateHolds (ls ++ line n t i (Title b k m) ∷ []) (open_block (record s { flat_blocks = flat_blocks }) b tags n i k m)
title_opens s flat_blocks b tags n i t k m ls h =
    lengthened (IsDone flat_blocks) (FlatBlockTags b tags) (IsOpen (InDescription (new_block s.nodes b tags n i k m) [])) (line n t i (Title b k m))
    (λ xs ys q. (refl, joined (FlatBlockTags b tags) (TitledYet (new_block s.nodes b tags n i k m) []) xs (line n t i (Title b k m) ∷ []) ys [] q ((refl, refl, refl, refl), tt, refl, refl))) ls s.comments h

pub tags_open : (s : State) (flat_blocks : List FlatBlock) (before : Option Block) (tags : List Tag) (n i : ℕ) (t : Utf8) (words : List TagText) (ls : List Line) →
    Then (IsDone flat_blocks) (TagLines tags) ls s.comments → StateHolds (ls ++ line n t i (Tags (Ok words)) ∷ []) (add_tags (record s { flat_blocks = flat_blocks }) before tags n words)
tags_open s flat_blocks before tags n i t words ls h =
    lengthened (IsDone flat_blocks) (TagLines tags) (SomeTagLines (tags ++ tags_from n s.nodes words)) (line n t i (Tags (Ok words))) (λ xs ys q. tag_lines_more tags n s.nodes i t words xs ys q) ls s.comments h

pub leaving_holds : (s : State) (c : FlatBlock) (l : Line) (ls : List Line) → Then (IsDone s.flat_blocks) (IsFlatBlock c) ls s.comments → IfOk (close_block s c l) (StateHolds (ls ++ l ∷ []))
leaving_holds s c (line n t i (Tags (Ok words))) ls h = tags_open s (s.flat_blocks ++ c ∷ []) (Some c.block) [] n i t words ls (then_empty (IsDone (s.flat_blocks ++ c ∷ [])) (TagLines []) ls s.comments (done_more s.flat_blocks c ls s.comments h) no_tags)
leaving_holds s c (line n t i (Tags (Err column))) ls h = tt
leaving_holds s c (line n t i (Title b k m)) ls h =
    cond_ok (StateHolds (ls ++ line n t i (Title b k m) ∷ [])) (follows (Some c.block) b) _ _
    (λ _. title_opens s (s.flat_blocks ++ c ∷ []) b [] n i t k m ls (then_empty (IsDone (s.flat_blocks ++ c ∷ [])) (FlatBlockTags b []) ls s.comments (done_more s.flat_blocks c ls s.comments h) (no_flat_block_tags b)))
    (λ _. tt)
leaving_holds s c (line n t i _) ls h = tt

-- steps make the body of a block that has steps
steps_make : (b : Block) (ss : List tree.Step) → IsTrue (has_steps b) → (xs : List Line) (ys : List tree.Comment) → Each IsStep ss xs ys → IsBody b (Steps ss) xs ys
steps_make block.Background ss h xs ys p = p
steps_make block.Scenario ss h xs ys p = p
steps_make block.Feature ss h xs ys p = absurd cc
steps_make block.Rule ss h xs ys p = absurd cc
steps_make block.Examples ss h xs ys p = absurd cc

pub steps_close : (s : State) (c : FlatBlock) (before : List tree.Step) (last : tree.Step) (ls : List Line) →
    Then (IsDone s.flat_blocks) (IsOpen (AfterStep c before last)) ls s.comments → Then (IsDone s.flat_blocks) (IsFlatBlock (with_steps c (before ++ last ∷ []))) ls s.comments
steps_close s c before last ls h =
    mapped (IsDone s.flat_blocks) (IsOpen (AfterStep c before last)) (IsFlatBlock (with_steps c (before ++ last ∷ [])))
    (λ xs ys q. mapped (IsHead c) (Each IsStep (before ++ last ∷ [])) (IsBody c.block (Steps (before ++ last ∷ []))) (λ us vs r. steps_make c.block (before ++ last ∷ []) q.0 us vs r) xs ys (step_joins c before last xs ys q.1)) ls s.comments h

pub stepping_holds : (s : State) (c : FlatBlock) (before : List tree.Step) (last : tree.Step) (l : Line) (ls : List Line) →
    Then (IsDone s.flat_blocks) (IsOpen (AfterStep c before last)) ls s.comments → IfOk (after_step s c before last l) (StateHolds (ls ++ l ∷ []))
stepping_holds s c before last (line n t i (Step k y m)) ls h =
    lengthened (IsDone s.flat_blocks) (IsOpen (AfterStep c before last)) (IsOpen (AfterStep c (before ++ last ∷ []) (step_at s n i k y m))) (line n t i (Step k y m))
    (λ xs ys q. another_step c before last (step_at s n i k y m) (line n t i (Step k y m)) (refl, refl, refl, refl) refl xs ys q) ls s.comments h
stepping_holds s c before last (line n t i (Row cells)) ls h = step_row_holds s c before last last.argument refl n i t cells ls h
stepping_holds s c before last (line n t i (Fenced f media)) ls h = step_fence_holds s c before last last.argument refl n i t f media ls h
stepping_holds s c before last (line n t i Blank) ls h = stepping_gap s c before last (line n t i Blank) refl ls h
stepping_holds s c before last (line n t i Comment) ls h = stepping_gap s c before last (line n t i Comment) refl ls h
stepping_holds s c before last (line n t i (Language w)) ls h = stepping_gap s c before last (line n t i (Language w)) refl ls h
stepping_holds s c before last (line n t i (Tags r)) ls h = leaving_holds s (with_steps c (before ++ last ∷ [])) (line n t i (Tags r)) ls (steps_close s c before last ls h)
stepping_holds s c before last (line n t i (Title b k m)) ls h = leaving_holds s (with_steps c (before ++ last ∷ [])) (line n t i (Title b k m)) ls (steps_close s c before last ls h)
stepping_holds s c before last (line n t i Other) ls h = tt

-- ---- in a doc string

pub quoting_holds : (s : State) (c : FlatBlock) (before : List tree.Step) (last : tree.Step) (q : OpenDocString) (inside : List Line) (l : Line) (ls : List Line) →
    Then (IsDone s.flat_blocks) (IsOpen (InDocString c before last q inside)) ls s.comments → IfOk (at_phase s (InDocString c before last q inside) l) (StateHolds (ls ++ l ∷ []))
quoting_holds s c before last q inside l ls h =
    cond_ok (StateHolds (ls ++ l ∷ [])) (is_fence q.fence l) _ _
    (λ test. lengthened (IsDone s.flat_blocks) (IsOpen (InDocString c before last q inside)) (IsOpen (AfterStep c before (with_doc_string last q inside))) l
    (λ xs ys r. (
      r.0,
      last_step c before l (Then (OneLine (IsStepLine last)) (IsQuote q inside)) (StepWith last (Some (Quoted (doc_string q inside))))
          (λ us vs w. extended (OneLine (IsStepLine last)) (IsQuote q inside) (IsDocString (doc_string q inside)) (l ∷ []) [] (λ ms bs z. quote_closes q inside l test ms bs z) us vs w) xs ys r.2,
    )) ls s.comments h)
    (λ test. lengthened (IsDone s.flat_blocks) (IsOpen (InDocString c before last q inside)) (IsOpen (InDocString c before last q (inside ++ l ∷ []))) l
    (λ xs ys r. (
      r.0,
      r.1,
      last_step c before l (Then (OneLine (IsStepLine last)) (IsQuote q inside)) (Then (OneLine (IsStepLine last)) (IsQuote q (inside ++ l ∷ [])))
          (λ us vs w. extended (OneLine (IsStepLine last)) (IsQuote q inside) (IsQuote q (inside ++ l ∷ [])) (l ∷ []) [] (λ ms bs z. quote_more q inside l test ms bs z) us vs w) xs ys r.2,
    )) ls s.comments h)

-- ---- in an examples table

pub rows_close : (s : State) (c : FlatBlock) (rows : List tree.Row) (ls : List Line) →
    Then (IsDone s.flat_blocks) (IsOpen (InExamplesTable c rows)) ls s.comments → Then (IsDone s.flat_blocks) (IsFlatBlock (with_rows c rows)) ls s.comments
rows_close s c rows ls h =
    mapped (IsDone s.flat_blocks) (IsOpen (InExamplesTable c rows)) (IsFlatBlock (with_rows c rows))
    (λ xs ys q. mapped (IsHead c) (IsTable rows) (IsBody c.block (Rows rows)) (λ us vs r. rw q.0 (table_makes rows us vs r)) xs ys q.1) ls s.comments h
  where
    table_makes : (rs : List tree.Row) (us : List Line) (vs : List tree.Comment) → IsTable rs us vs → IsRows rs us vs
    table_makes [] us vs r = absurd r
    table_makes (x ∷ xs) us vs r = r

listing_gap : (s : State) (c : FlatBlock) (rows : List tree.Row) (l : Line) → IsTrue (is_gap l) → (ls : List Line) →
    Then (IsDone s.flat_blocks) (IsOpen (InExamplesTable c rows)) ls s.comments → Then (IsDone s.flat_blocks) (IsOpen (InExamplesTable c rows)) (ls ++ l ∷ []) (s.comments ++ comments_of (l ∷ []))
listing_gap s c rows l g ls h =
    extended (IsDone s.flat_blocks) (IsOpen (InExamplesTable c rows)) (IsOpen (InExamplesTable c rows)) (l ∷ []) (comments_of (l ∷ []))
    (λ xs ys q. (q.0, extended (IsHead c) (IsTable rows) (IsTable rows) (l ∷ []) (comments_of (l ∷ [])) (λ us vs r. table_takes rows us vs l g r) xs ys q.1)) ls s.comments h

pub listing_holds : (s : State) (c : FlatBlock) (rows : List tree.Row) (l : Line) (ls : List Line) →
    Then (IsDone s.flat_blocks) (IsOpen (InExamplesTable c rows)) ls s.comments → IfOk (in_examples_table s c rows l) (StateHolds (ls ++ l ∷ []))
listing_holds s c rows (line n t i (Row cells)) ls h =
    cond_ok (StateHolds (ls ++ line n t i (Row cells) ∷ [])) (length cells == count_of rows) _ _
    (λ test. lengthened (IsDone s.flat_blocks) (IsOpen (InExamplesTable c rows)) (IsOpen (InExamplesTable c (rows ++ row_at s n i cells ∷ []))) (line n t i (Row cells))
    (λ xs ys q. (
      q.0,
      extended (IsHead c) (IsTable rows) (IsTable (rows ++ row_at s n i cells ∷ [])) (line n t i (Row cells) ∷ []) []
          (λ us vs r. table_more rows (row_at s n i cells) (line n t i (Row cells)) (refl, refl) (eqb-true _ _ test) us vs r) xs ys q.1,
    )) ls s.comments h)
    (λ _. tt)
listing_holds s c rows (line n t i Blank) ls h = listing_gap s c rows (line n t i Blank) refl ls h
listing_holds s c rows (line n t i Comment) ls h = listing_gap s c rows (line n t i Comment) refl ls h
listing_holds s c rows (line n t i (Language w)) ls h = listing_gap s c rows (line n t i (Language w)) refl ls h
listing_holds s c rows (line n t i (Tags r)) ls h = leaving_holds s (with_rows c rows) (line n t i (Tags r)) ls (rows_close s c rows ls h)
listing_holds s c rows (line n t i (Title b k m)) ls h = leaving_holds s (with_rows c rows) (line n t i (Title b k m)) ls (rows_close s c rows ls h)
listing_holds s c rows (line n t i (Step k y m)) ls h = tt
listing_holds s c rows (line n t i (Fenced f m)) ls h = tt
listing_holds s c rows (line n t i Other) ls h = tt
