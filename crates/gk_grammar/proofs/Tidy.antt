-- The flat blocks that the machine makes have the numbers of their place, and the bodies of their kinds.
use Rattle.std.proofs.Common.{◌≡◌, ℕ, suc, ◌+◌, List, [], ◌∷◌, ◌++◌, length, Option, Some, None, Ok, Err, refl, sym, ap, subst, ◌∙◌, append_assoc, append-nil, add-zero, arith, length-append}
use Rattle.std.proofs.lemmas.Grind.{flat_map-append}
use Rattle.std.specs.Prelude.{IfOk, ◌==◌}
use Rattle.std.specs.List.{flat_map}
use Rattle.gk_document.specs.declared.tree.Cell.{Cell}
use Rattle.gk_line.specs.declared.tokens.Block.{Block}
use Rattle.gk_line.specs.declared.tokens.Block.TheVariants as block
use Rattle.gk_grammar.specs.Token.{Utf8, TagText, Blank, Comment, Language, Tags, Title, Step, Row, Fenced, Other, Line, line}
use Rattle.gk_grammar.specs.Tree as tree
use Rattle.gk_grammar.specs.Tree.{Tag, Argument}
use Rattle.gk_document.specs.declared.tree.Argument.TheVariants.{Table, Text as Quoted}
use Rattle.gk_grammar.specs.Grammar.{stops, Node, tag_nodes, row_nodes, step_nodes, argument_nodes, at, english, is_fence}
use Rattle.gk_grammar.specs.Machine.{Body, Steps, Rows, FlatBlock, Phase, Start, AfterLanguage, AfterTags, InDescription, AfterStep, InDocString, InExamplesTable, State, title_node_count, tags_from, empty_body, step_row, row_at, count_of, close_block, with_steps, with_rows, follows, takes_tags, after_step, step_at, step_fence, in_examples_table, with_description, after_description, open_block, add_tags, after_tags, before_first_block, at_start, after_language, same_text, at_phase, OpenDocString, with_doc_string}
use Rattle.gk_grammar.proofs.Open.{cond_ok}
use Rattle.gk_grammar.proofs.Complete.{Counts}
use Rattle.gk_grammar.proofs.Whole.{FlatBlockCounts, FlatBlocksCount, flat_block_count, flat_blocks_count, body_nodes}

counts_more : (n : ℕ) (xs : List Node) (x : Node) → Counts n xs → x.1 ≡ n + length xs → Counts n (xs ++ x ∷ [])
counts_more n [] x h e = (e ∙ add-zero n, tt)
counts_more n (y ∷ ys) x h e = (h.0, counts_more (n + 1) ys x h.1 (e ∙ omega arith))

pub counts_both : (n : ℕ) (xs ys : List Node) → Counts n xs → Counts (n + length xs) ys → Counts n (xs ++ ys)
counts_both n [] ys h k = subst (λ (z : ℕ). Counts z ys) (add-zero n) k
counts_both n (x ∷ xs) ys h k = (h.0, counts_both (n + 1) xs ys h.1 (let e : n + length (x ∷ xs) ≡ n + 1 + length xs = omega arith in subst (λ (z : ℕ). Counts z ys) e k))

tags_length : (m n : ℕ) (words : List TagText) → length (tags_from m n words) ≡ length words
tags_length m n [] = refl
tags_length m n (w ∷ ws) = ap suc (tags_length m (n + 1) ws)

tags_counted : (m n : ℕ) (words : List TagText) → Counts n (tag_nodes (tags_from m n words))
tags_counted m n [] = tt
tags_counted m n (w ∷ ws) = (refl, tags_counted m (n + 1) ws)

pub flat_blocks_more : (n : ℕ) (cs : List FlatBlock) (c : FlatBlock) → FlatBlocksCount n cs → FlatBlockCounts (n + flat_blocks_count cs) c → FlatBlocksCount n (cs ++ c ∷ [])
flat_blocks_more n [] c h k = (subst (λ (z : ℕ). FlatBlockCounts z c) (add-zero n) k, tt)
flat_blocks_more n (x ∷ xs) c h k = (h.0, flat_blocks_more (n + flat_block_count x) xs c h.1 (let e : n + flat_blocks_count (x ∷ xs) ≡ n + flat_block_count x + flat_blocks_count xs = omega arith in subst (λ (z : ℕ). FlatBlockCounts z c) e k))

pub count_more : (cs : List FlatBlock) (c : FlatBlock) → flat_blocks_count (cs ++ c ∷ []) ≡ flat_blocks_count cs + flat_block_count c
count_more [] c = omega arith
count_more (x ∷ xs) c = let h = count_more xs c in omega arith

-- the numbers of an open flat block, whose nodes below the header are these
pub record IsCounted (start : ℕ) (c : FlatBlock) (below : List Node) (nodes : ℕ) : Type 0 where
  pub tags : Counts start (tag_nodes c.tags)
  pub own : c.node ≡ start + length c.tags
  pub below_counts : Counts (start + length c.tags + title_node_count c.block) below
  pub total : nodes ≡ start + length c.tags + title_node_count c.block + length below

abbrev pub PhaseCounts : ℕ → ℕ → Phase → Type 0
PhaseCounts start nodes Start = nodes ≡ start
PhaseCounts start nodes AfterLanguage = nodes ≡ start
PhaseCounts start nodes (AfterTags before tags) = Counts start (tag_nodes tags) × (nodes ≡ start + length tags)
PhaseCounts start nodes (InDescription c ls) = (c.body ≡ empty_body c.block) × IsCounted start c [] nodes
PhaseCounts start nodes (AfterStep c before last) = IsCounted start c (flat_map step_nodes (before ++ last ∷ [])) nodes
PhaseCounts start nodes (InDocString c before last q inside) = (last.argument ≡ None) × IsCounted start c (flat_map step_nodes (before ++ last ∷ [])) nodes
PhaseCounts start nodes (InExamplesTable c rows) = IsCounted start c (row_nodes rows) nodes

abbrev pub StateCounts : State → Type 0
StateCounts s = FlatBlocksCount 0 s.flat_blocks × PhaseCounts (flat_blocks_count s.flat_blocks) s.nodes s.phase

-- one more node below the header
counted_more : (start : ℕ) (c : FlatBlock) (below : List Node) (nodes : ℕ) (x : Node) → IsCounted start c below nodes → x.1 ≡ nodes → IsCounted start c (below ++ x ∷ []) (nodes + 1)
counted_more start c below nodes x h e = record {
  tags = h.tags;
  own = h.own;
  below_counts = counts_more (start + length c.tags + title_node_count c.block) below x h.below_counts (e ∙ h.total);
  total = let k = h.total in let l = length-append below (x ∷ []) in omega arith;
}

-- a whole flat block is counted
pub counted_whole : (start : ℕ) (c : FlatBlock) (y : Body) (nodes : ℕ) → IsCounted start c (body_nodes y) nodes → FlatBlockCounts start (record c { body = y }) × (nodes ≡ start + flat_block_count (record c { body = y }))
counted_whole start c y nodes h = (record { tags = h.tags; own = h.own; body = h.below_counts }, let k = h.total in omega arith)

last_nodes : (before : List tree.Step) (last : tree.Step) → flat_map step_nodes (before ++ last ∷ []) ≡ flat_map step_nodes before ++ step_nodes last
last_nodes before last = flat_map-append step_nodes before (last ∷ []) ∙ ap (λ (z : List Node). flat_map step_nodes before ++ z) (append-nil (step_nodes last))

-- one more node in the last step
last_more : (before : List tree.Step) (last : tree.Step) (a b : Option Argument) (x : Node) → last.argument ≡ a → argument_nodes b ≡ argument_nodes a ++ x ∷ [] →
    flat_map step_nodes (before ++ record last { argument = b } ∷ []) ≡ flat_map step_nodes (before ++ last ∷ []) ++ x ∷ []
last_more before last a b x e f =
    last_nodes before (record last { argument = b })
    ∙ ap (λ (z : List Node). flat_map step_nodes before ++ (last.location, last.node) ∷ z) (f ∙ ap (λ (z : Option Argument). argument_nodes z ++ x ∷ []) (sym e))
    ∙ sym (append_assoc (flat_map step_nodes before) (step_nodes last) (x ∷ []))
    ∙ ap (λ (z : List Node). z ++ x ∷ []) (sym (last_nodes before last))

rows_more : (rows : List tree.Row) (r : tree.Row) → row_nodes (rows ++ r ∷ []) ≡ row_nodes rows ++ (r.location, r.node) ∷ []
rows_more [] r = refl
rows_more (x ∷ xs) r = ap (λ (z : List Node). (x.location, x.node) ∷ z) (rows_more xs r)

step_row_counts : (s : State) (c : FlatBlock) (before : List tree.Step) (last : tree.Step) (a : Option Argument) → last.argument ≡ a → (n i : ℕ) (cells : List Cell) → FlatBlocksCount 0 s.flat_blocks →
    IsCounted (flat_blocks_count s.flat_blocks) c (flat_map step_nodes (before ++ last ∷ [])) s.nodes → IfOk (step_row s c before last a n i cells) StateCounts
step_row_counts s c before last None e n i cells h k = (
  h,
  subst (λ (z : List Node). IsCounted (flat_blocks_count s.flat_blocks) c z (s.nodes + 1)) (sym (last_more before last None (Some (Table (row_at s n i cells ∷ []))) ((row_at s n i cells).location, s.nodes) e refl))
      (counted_more (flat_blocks_count s.flat_blocks) c (flat_map step_nodes (before ++ last ∷ [])) s.nodes ((row_at s n i cells).location, s.nodes) k refl),
)
step_row_counts s c before last (Some (Table rows)) e n i cells h k =
    cond_ok StateCounts (length cells == count_of rows) _ _
    (λ _. (
      h,
      subst (λ (z : List Node). IsCounted (flat_blocks_count s.flat_blocks) c z (s.nodes + 1)) (sym (last_more before last (Some (Table rows)) (Some (Table (rows ++ row_at s n i cells ∷ []))) ((row_at s n i cells).location, s.nodes) e (rows_more rows (row_at s n i cells))))
          (counted_more (flat_blocks_count s.flat_blocks) c (flat_map step_nodes (before ++ last ∷ [])) s.nodes ((row_at s n i cells).location, s.nodes) k refl),
    ))
    (λ _. tt)
step_row_counts s c before last (Some (Quoted d)) e n i cells h k = tt

-- the next flat block is counted from the end of those before it
leaving_counts : (s : State) (c : FlatBlock) (l : Line) → FlatBlocksCount 0 s.flat_blocks → FlatBlockCounts (flat_blocks_count s.flat_blocks) c → s.nodes ≡ flat_blocks_count s.flat_blocks + flat_block_count c → IfOk (close_block s c l) StateCounts
leaving_counts s c (line n t i (Tags (Ok words))) h k e = (flat_blocks_more 0 s.flat_blocks c h (subst (λ (z : ℕ). FlatBlockCounts z c) (omega arith) k), (subst (λ (z : ℕ). Counts z (tag_nodes (tags_from n s.nodes words))) (e ∙ sym (count_more s.flat_blocks c)) (tags_counted n s.nodes words), let m = count_more s.flat_blocks c in let w = tags_length n s.nodes words in omega arith))
leaving_counts s c (line n t i (Tags (Err column))) h k e = tt
leaving_counts s c (line n t i (Title b x m)) h k e =
    cond_ok StateCounts (follows (Some c.block) b) _ _
    (λ _. (flat_blocks_more 0 s.flat_blocks c h (subst (λ (z : ℕ). FlatBlockCounts z c) (omega arith) k), (refl, record { tags = tt; own = let q = count_more s.flat_blocks c in e ∙ sym q ∙ omega arith; below_counts = tt; total = let q = count_more s.flat_blocks c in omega arith })))
    (λ _. tt)
leaving_counts s c (line n t i _) h k e = tt

stepping_counts : (s : State) (c : FlatBlock) (before : List tree.Step) (last : tree.Step) (l : Line) → FlatBlocksCount 0 s.flat_blocks →
    IsCounted (flat_blocks_count s.flat_blocks) c (flat_map step_nodes (before ++ last ∷ [])) s.nodes → IfOk (after_step s c before last l) StateCounts
stepping_counts s c before last (line n t i (Step x y m)) h k = (
  h,
  subst (λ (z : List Node). IsCounted (flat_blocks_count s.flat_blocks) c z (s.nodes + 1)) (sym (last_nodes (before ++ last ∷ []) (step_at s n i x y m)))
      (counted_more (flat_blocks_count s.flat_blocks) c (flat_map step_nodes (before ++ last ∷ [])) s.nodes (at n (i + 1), s.nodes) k refl),
)
stepping_counts s c before last (line n t i (Row cells)) h k = step_row_counts s c before last last.argument refl n i cells h k
stepping_counts s c before last (line n t i (Fenced f m)) h k = fence last.argument refl
  where
    fence : (a : Option Argument) → last.argument ≡ a → IfOk (step_fence s c before last a n i f m) StateCounts
    fence None e = (h, (e, k))
    fence (Some a) e = tt
stepping_counts s c before last (line n t i Blank) h k = (h, k)
stepping_counts s c before last (line n t i Comment) h k = (h, k)
stepping_counts s c before last (line n t i (Language w)) h k = (h, k)
stepping_counts s c before last (line n t i (Tags r)) h k = let w = counted_whole (flat_blocks_count s.flat_blocks) c (Steps (before ++ last ∷ [])) s.nodes k in leaving_counts s (with_steps c (before ++ last ∷ [])) (line n t i (Tags r)) h w.0 w.1
stepping_counts s c before last (line n t i (Title b x m)) h k = let w = counted_whole (flat_blocks_count s.flat_blocks) c (Steps (before ++ last ∷ [])) s.nodes k in leaving_counts s (with_steps c (before ++ last ∷ [])) (line n t i (Title b x m)) h w.0 w.1
stepping_counts s c before last (line n t i Other) h k = tt

listing_counts : (s : State) (c : FlatBlock) (rows : List tree.Row) (l : Line) → FlatBlocksCount 0 s.flat_blocks → IsCounted (flat_blocks_count s.flat_blocks) c (row_nodes rows) s.nodes → IfOk (in_examples_table s c rows l) StateCounts
listing_counts s c rows (line n t i (Row cells)) h k =
    cond_ok StateCounts (length cells == count_of rows) _ _
    (λ _. (
      h,
      subst (λ (z : List Node). IsCounted (flat_blocks_count s.flat_blocks) c z (s.nodes + 1)) (sym (rows_more rows (row_at s n i cells)))
          (counted_more (flat_blocks_count s.flat_blocks) c (row_nodes rows) s.nodes (at n (i + 1), s.nodes) k refl),
    ))
    (λ _. tt)
listing_counts s c rows (line n t i Blank) h k = (h, k)
listing_counts s c rows (line n t i Comment) h k = (h, k)
listing_counts s c rows (line n t i (Language w)) h k = (h, k)
listing_counts s c rows (line n t i (Tags r)) h k = let w = counted_whole (flat_blocks_count s.flat_blocks) c (Rows rows) s.nodes k in leaving_counts s (with_rows c rows) (line n t i (Tags r)) h w.0 w.1
listing_counts s c rows (line n t i (Title b x m)) h k = let w = counted_whole (flat_blocks_count s.flat_blocks) c (Rows rows) s.nodes k in leaving_counts s (with_rows c rows) (line n t i (Title b x m)) h w.0 w.1
listing_counts s c rows (line n t i _) h k = tt

no_body_nodes : (b : Block) → body_nodes (empty_body b) ≡ []
no_body_nodes block.Feature = refl
no_body_nodes block.Rule = refl
no_body_nodes block.Background = refl
no_body_nodes block.Scenario = refl
no_body_nodes block.Examples = refl

pub bare_whole : (start : ℕ) (c : FlatBlock) (lines : List Line) (nodes : ℕ) → c.body ≡ empty_body c.block → IsCounted start c [] nodes → FlatBlockCounts start (with_description c lines) × (nodes ≡ start + flat_block_count (with_description c lines))
bare_whole start c lines nodes e h =
    let none : body_nodes c.body ≡ [] = ap body_nodes e ∙ no_body_nodes c.block in (
      record { tags = h.tags; own = h.own; body = subst (λ (z : List Node). Counts (start + length c.tags + title_node_count c.block) z) (sym none) tt },
      let k = h.total in let z = ap (λ (x : List Node). length x) none in omega arith,
    )

entering_counts : (s : State) (c : FlatBlock) (lines : List Line) (l : Line) → FlatBlocksCount 0 s.flat_blocks → c.body ≡ empty_body c.block → IsCounted (flat_blocks_count s.flat_blocks) c [] s.nodes → IfOk (after_description s (with_description c lines) l) StateCounts
entering_counts s c lines (line n t i (Step x y m)) h e k = let w = counted_more (flat_blocks_count s.flat_blocks) c [] s.nodes (at n (i + 1), s.nodes) k refl in (h, record { tags = w.tags; own = w.own; below_counts = w.below_counts; total = w.total })
entering_counts s c lines (line n t i (Row cells)) h e k = let w = counted_more (flat_blocks_count s.flat_blocks) c [] s.nodes (at n (i + 1), s.nodes) k refl in (h, record { tags = w.tags; own = w.own; below_counts = w.below_counts; total = w.total })
entering_counts s c lines (line n t i (Tags r)) h e k = let w = bare_whole (flat_blocks_count s.flat_blocks) c lines s.nodes e k in leaving_counts s (with_description c lines) (line n t i (Tags r)) h w.0 w.1
entering_counts s c lines (line n t i (Title b x m)) h e k = let w = bare_whole (flat_blocks_count s.flat_blocks) c lines s.nodes e k in leaving_counts s (with_description c lines) (line n t i (Title b x m)) h w.0 w.1
entering_counts s c lines (line n t i _) h e k = tt

-- a title line after tags
opened_counts : (s : State) (b : Block) (tags : List Tag) (n i : ℕ) (x m : Utf8) → FlatBlocksCount 0 s.flat_blocks → Counts (flat_blocks_count s.flat_blocks) (tag_nodes tags) → s.nodes ≡ flat_blocks_count s.flat_blocks + length tags → StateCounts (open_block s b tags n i x m)
opened_counts s b tags n i x m h k e = (h, (refl, record { tags = k; own = e; below_counts = tt; total = omega arith }))

pub tags_nodes_length : (tags : List Tag) → length (tag_nodes tags) ≡ length tags
tags_nodes_length [] = refl
tags_nodes_length (x ∷ xs) = ap suc (tags_nodes_length xs)

tag_nodes-append : (xs ys : List Tag) → tag_nodes (xs ++ ys) ≡ tag_nodes xs ++ tag_nodes ys
tag_nodes-append [] ys = refl
tag_nodes-append (x ∷ xs) ys = ap (λ (z : List Node). (x.location, x.node) ∷ z) (tag_nodes-append xs ys)

tagged_counts : (s : State) (before : Option Block) (tags : List Tag) (n : ℕ) (words : List TagText) → FlatBlocksCount 0 s.flat_blocks → Counts (flat_blocks_count s.flat_blocks) (tag_nodes tags) → s.nodes ≡ flat_blocks_count s.flat_blocks + length tags → StateCounts (add_tags s before tags n words)
tagged_counts s before tags n words h k e = (
  h,
  (
    subst (λ (z : List Node). Counts (flat_blocks_count s.flat_blocks) z) (sym (tag_nodes-append tags (tags_from n s.nodes words)))
        (counts_both (flat_blocks_count s.flat_blocks) (tag_nodes tags) (tag_nodes (tags_from n s.nodes words)) k
        (subst (λ (z : ℕ). Counts z (tag_nodes (tags_from n s.nodes words))) (e ∙ ap (λ (z : ℕ). flat_blocks_count s.flat_blocks + z) (sym (tags_nodes_length tags))) (tags_counted n s.nodes words))),
    let w = tags_length n s.nodes words in let q = length-append tags (tags_from n s.nodes words) in omega arith,
  ),
)

after_tags_counts : (s : State) (before : Option Block) (tags : List Tag) (l : Line) → FlatBlocksCount 0 s.flat_blocks → Counts (flat_blocks_count s.flat_blocks) (tag_nodes tags) → s.nodes ≡ flat_blocks_count s.flat_blocks + length tags → IfOk (after_tags s before tags l) StateCounts
after_tags_counts s before tags (line n t i Blank) h k e = (h, (k, e))
after_tags_counts s before tags (line n t i Comment) h k e = (h, (k, e))
after_tags_counts s before tags (line n t i (Language w)) h k e = (h, (k, e))
after_tags_counts s before tags (line n t i (Tags (Ok words))) h k e = tagged_counts s before tags n words h k e
after_tags_counts s before tags (line n t i (Tags (Err column))) h k e = tt
after_tags_counts s before tags (line n t i (Title b x m)) h k e =
    cond_ok StateCounts (follows before b) _ _ (λ _. cond_ok StateCounts (takes_tags b) _ _ (λ _. opened_counts s b tags n i x m h k e) (λ _. tt)) (λ _. tt)
after_tags_counts s before tags (line n t i _) h k e = tt

beginning_counts : (s : State) (p : Phase) (l : Line) → FlatBlocksCount 0 s.flat_blocks → s.nodes ≡ flat_blocks_count s.flat_blocks → PhaseCounts (flat_blocks_count s.flat_blocks) s.nodes p → IfOk (before_first_block s p l) StateCounts
beginning_counts s p (line n t i Blank) h e g = (h, g)
beginning_counts s p (line n t i Comment) h e g = (h, g)
beginning_counts s p (line n t i (Tags (Ok words))) h e g = tagged_counts s None [] n words h tt (omega arith)
beginning_counts s p (line n t i (Tags (Err column))) h e g = tt
beginning_counts s p (line n t i (Title block.Feature x m)) h e g = opened_counts s block.Feature [] n i x m h tt (omega arith)
beginning_counts s p (line n t i (Title _ x m)) h e g = tt
beginning_counts s p (line n t i _) h e g = tt

before_feature_counts : (s : State) (l : Line) → FlatBlocksCount 0 s.flat_blocks → s.nodes ≡ flat_blocks_count s.flat_blocks → IfOk (at_start s l) StateCounts
before_feature_counts s (line n t i (Language w)) h e = cond_ok StateCounts (same_text w english) _ _ (λ _. (h, e)) (λ _. tt)
before_feature_counts s (line n t i x) h e = beginning_counts s Start (line n t i x) h e e

spoken_counts : (s : State) (l : Line) → FlatBlocksCount 0 s.flat_blocks → s.nodes ≡ flat_blocks_count s.flat_blocks → IfOk (after_language s l) StateCounts
spoken_counts s (line n t i (Language w)) h e = (h, e)
spoken_counts s (line n t i x) h e = beginning_counts s AfterLanguage (line n t i x) h e e

quoted_nodes : (before : List tree.Step) (last : tree.Step) (q : OpenDocString) (inside : List Line) → last.argument ≡ None → flat_map step_nodes (before ++ with_doc_string last q inside ∷ []) ≡ flat_map step_nodes (before ++ last ∷ [])
quoted_nodes before last q inside e =
    last_nodes before (with_doc_string last q inside) ∙ ap (λ (z : Option Argument). flat_map step_nodes before ++ (last.location, last.node) ∷ argument_nodes z) (sym e) ∙ sym (last_nodes before last)

pub at_phase_counts : (s : State) (p : Phase) (l : Line) → FlatBlocksCount 0 s.flat_blocks → PhaseCounts (flat_blocks_count s.flat_blocks) s.nodes p → IfOk (at_phase s p l) StateCounts
at_phase_counts s Start l h k = before_feature_counts s l h k
at_phase_counts s AfterLanguage l h k = spoken_counts s l h k
at_phase_counts s (AfterTags before tags) l h k = after_tags_counts s before tags l h k.0 k.1
at_phase_counts s (InDescription c lines) l h k = cond_ok StateCounts (stops c.block l) _ _ (λ _. entering_counts s c lines l h k.0 k.1) (λ _. (h, k))
at_phase_counts s (AfterStep c before last) l h k = stepping_counts s c before last l h k
at_phase_counts s (InDocString c before last q inside) l h k =
    cond_ok StateCounts (is_fence q.fence l) _ _
    (λ _. (h, subst (λ (z : List Node). IsCounted (flat_blocks_count s.flat_blocks) c z s.nodes) (sym (quoted_nodes before last q inside k.0)) k.1))
    (λ _. (h, k))
at_phase_counts s (InExamplesTable c rows) l h k = listing_counts s c rows l h k
