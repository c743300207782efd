-- The machine over whole flat blocks.
use Rattle.std.proofs.Common.{◌≡◌, ℕ, suc, ◌+◌, Bool, true, List, [], ◌∷◌, ◌++◌, length, Option, Some, Result, Ok, Err, refl, sym, ap, subst, ◌∙◌, append_assoc, append-nil, arith, length-append}
use Rattle.std.proofs.lemmas.List.{map-append}
use Rattle.std.specs.Prelude.{IsFalse, map, cond, codes}
use Rattle.std.specs.List.{AllByRecursion, flat_map}
use Rattle.gk_document.specs.declared.tree.Cell.{Cell}
use Rattle.gk_line.specs.declared.tokens.Block.{Block}
use Rattle.gk_line.specs.declared.tokens.Block.TheVariants as block
use Rattle.gk_document.specs.declared.tree.KeywordType.{KeywordType}
use Rattle.gk_grammar.specs.Token.{Utf8, TagText, Blank, Tags, Title, Step, Row, Line, line}
use Rattle.gk_grammar.specs.Tree as tree
use Rattle.gk_grammar.specs.Tree.{Tag, Location}
use Rattle.gk_grammar.specs.Grammar.{Nothing, Each, OneLine, comments_of, IsTagLine, place_and_name, tag_at, TitleAndDescription, stops, description_of, IsStep, IsTable, IsRow, at, Node, step_nodes, row_nodes, tag_nodes, node_of_row}
use Rattle.gk_grammar.specs.Machine.{Body, Bare, Steps, Rows, FlatBlock, Phase, AfterTags, InDescription, AfterStep, InExamplesTable, State, PlacedFault, next, run, ◌>>=◌, add_tags, open_block, new_block, follows, takes_tags, title_node_count, with_steps, with_rows, with_description, blocks_at_end, tags_from, empty_body, after_description, pass_over}
use Rattle.gk_grammar.proofs.Pieces.{comments_of-append, only_first}
use Rattle.gk_grammar.proofs.Open.{IsBody, IsFlatBlock, FlatBlockTags}
use Rattle.gk_grammar.proofs.Complete.{state_of, Reads, reads_then, reads_nothing, reads_line, Counts, counts_apart, to_phase, idle_tagged, idle_listing, reads_table, reads_step, reads_more_steps, after_steps, TakesRows, Begins, row_is}

-- A phase in which the next flat block may begin. It closes what is open: then the flat blocks are dh, and this block is before.
pub record Ready (p : Phase) (ch dh : List FlatBlock) (before : Option Block) : Type 0 where
  pub tag : (cs : List tree.Comment) (n m i : ℕ) (t : Utf8) (words : List TagText) → next (state_of cs n ch p) (line m t i (Tags (Ok words))) ≡ Ok (add_tags (state_of cs n dh p) before [] m words)
  pub title : (cs : List tree.Comment) (n m i : ℕ) (t : Utf8) (b : Block) (k x : Utf8) → follows before b ≡ true → next (state_of cs n ch p) (line m t i (Title b k x)) ≡ Ok (open_block (state_of cs n dh p) b [] m i k x)

pub ready_stepping : (c : FlatBlock) (steps : List tree.Step) (last : tree.Step) (ch : List FlatBlock) → Ready (AfterStep c steps last) ch (ch ++ with_steps c (steps ++ last ∷ []) ∷ []) (Some c.block)
ready_stepping c steps last ch = record {
  tag = λ cs n m i t words. refl;
  title = λ cs n m i t b k x f. rw f refl;
}

pub ready_listing : (c : FlatBlock) (rows : List tree.Row) (ch : List FlatBlock) → Ready (InExamplesTable c rows) ch (ch ++ with_rows c rows ∷ []) (Some c.block)
ready_listing c rows ch = record {
  tag = λ cs n m i t words. refl;
  title = λ cs n m i t b k x f. rw f refl;
}

stops_following : (a b : Block) (m i : ℕ) (t k x : Utf8) → follows (Some a) b ≡ true → stops a (line m t i (Title b k x)) ≡ true
stops_following block.Feature block.Background m i t k x f = refl
stops_following block.Rule block.Background m i t k x f = refl
stops_following block.Scenario block.Examples m i t k x f = refl
stops_following block.Examples block.Examples m i t k x f = refl
stops_following _ block.Scenario m i t k x f = refl
stops_following _ block.Rule m i t k x f = refl
stops_following _ _ m i t k x f = absurd cc

pub ready_described : (c : FlatBlock) (lines : List Line) (ch : List FlatBlock) → Ready (InDescription c lines) ch (ch ++ with_description c lines ∷ []) (Some c.block)
ready_described c lines ch = record {
  tag = λ cs n m i t words. refl;
  title = λ cs n m i t b k x f. rw (stops_following c.block b m i t k x f, f) refl;
}

-- ---- tags

tag_is : (a b : Tag) → a.node ≡ b.node → a.location ≡ b.location → a.name ≡ b.name → a ≡ b
tag_is a b p q r = λ i. record { node = p i; location = q i; name = r i }

tags_are : (tags : List Tag) (m n : ℕ) (words : List TagText) → map place_and_name tags ≡ map (tag_at m) words → Counts n (tag_nodes tags) → tags ≡ tags_from m n words
tags_are [] m n [] e k = refl
tags_are [] m n (w ∷ ws) e k = absurd cc
tags_are (g ∷ gs) m n [] e k = absurd cc
tags_are (g ∷ gs) m n (w ∷ ws) e k =
    let head : place_and_name g ≡ tag_at m w = cc in
    let others : map place_and_name gs ≡ map (tag_at m) ws = cc in
    let first : g ≡ record { node = n; location = at m w.column; name = codes "@" ++ w.word } = tag_is g _ k.0 (ap (λ (z : Location × Utf8). z.0) head) (ap (λ (z : Location × Utf8). z.1) head) in
    let rest : gs ≡ tags_from m (n + 1) ws = tags_are gs m (n + 1) ws others k.1 in
    cc

map_length : {A B : Type 0} (f : A → B) (xs : List A) → length (map f xs) ≡ length xs
map_length f [] = refl
map_length f (x ∷ xs) = ap suc (map_length f xs)

words_count : (tags : List Tag) (m : ℕ) (words : List TagText) → map place_and_name tags ≡ map (tag_at m) words → length words ≡ length tags
words_count tags m words e = sym (map_length (tag_at m) words) ∙ ap (λ (z : List (Location × Utf8)). length z) (sym e) ∙ map_length place_and_name tags

-- a tag line, in a phase where it leads after tags
tag_line : (p : Phase) (n : ℕ) (ch dh : List FlatBlock) (before : Option Block) (got tags : List Tag) →
    ((cs : List tree.Comment) (m i : ℕ) (t : Utf8) (words : List TagText) → next (state_of cs n ch p) (line m t i (Tags (Ok words))) ≡ Ok (add_tags (state_of cs n dh p) before got m words)) →
    Counts n (tag_nodes tags) → (l : Line) → IsTagLine tags l → (cs : List tree.Comment) → next (state_of cs n ch p) l ≡ Ok (state_of cs (n + length tags) dh (AfterTags before (got ++ tags)))
tag_line p n ch dh before got tags f k (line m t i (Tags (Ok words))) h cs =
    f cs m i t words ∙ ap (λ (z : ℕ). Ok (state_of cs (n + z) dh (AfterTags before (got ++ tags_from m n words)))) (words_count tags m words h)
    ∙ ap (λ (z : List Tag). Ok (state_of cs (n + length tags) dh (AfterTags before (got ++ z)))) (sym (tags_are tags m n words h k))
tag_line p n ch dh before got tags f k (line m t i (Tags (Err c))) h cs = absurd h
tag_line p n ch dh before got tags f k (line m t i Blank) h cs = absurd h
tag_line p n ch dh before got tags f k (line m t i _) h cs = absurd h

-- further tag lines
reads_tag_lines : (parts : List (List Tag)) (got : List Tag) (n : ℕ) (ch : List FlatBlock) (before : Option Block) → Counts n (tag_nodes (flat_map (λ ts. ts) parts)) →
    Reads (Each (λ ts. OneLine (IsTagLine ts)) parts) ch (AfterTags before got) n (length (flat_map (λ ts. ts) parts)) ch (AfterTags before (got ++ flat_map (λ ts. ts) parts))
reads_tag_lines [] got n ch before k =
    to_phase Nothing ch ch (AfterTags before got) n 0 0 (AfterTags before got) (AfterTags before (got ++ [])) refl (ap (λ (z : List Tag). AfterTags before z) (sym (append-nil got))) (reads_nothing ch (AfterTags before got) n)
reads_tag_lines (ts ∷ parts) got n ch before k =
    let ks = counts_apart n (tag_nodes ts) (tag_nodes (flat_map (λ z. z) parts)) (rw map-append at k) in
    to_phase (Each (λ z. OneLine (IsTagLine z)) (ts ∷ parts)) ch ch (AfterTags before got) n (length ts + length (flat_map (λ z. z) parts)) (length (flat_map (λ z. z) (ts ∷ parts)))
    (AfterTags before ((got ++ ts) ++ flat_map (λ z. z) parts)) (AfterTags before (got ++ (ts ++ flat_map (λ z. z) parts)))
    (sym (length-append ts (flat_map (λ z. z) parts))) (ap (λ (z : List Tag). AfterTags before z) (append_assoc got ts (flat_map (λ z. z) parts)))
    (reads_then (OneLine (IsTagLine ts)) (Each (λ z. OneLine (IsTagLine z)) parts) ch ch ch (AfterTags before got) (AfterTags before (got ++ ts)) (AfterTags before ((got ++ ts) ++ flat_map (λ z. z) parts)) n (length ts) (length (flat_map (λ z. z) parts))
    (reads_line (IsTagLine ts) ch ch (AfterTags before got) (AfterTags before (got ++ ts)) n (length ts) (tag_line (AfterTags before got) n ch ch before got ts (λ cs m i t words. refl) ks.0) (idle_tagged before (got ++ ts)))
    (reads_tag_lines parts (got ++ ts) (n + length ts) ch before (rw map_length at ks.1)))

-- ---- descriptions

-- a flat block before its description is read
abbrev pub fresh : FlatBlock → FlatBlock
fresh c = record c { description = []; body = empty_body c.block }

run_description : (c : FlatBlock) (ls got : List Line) → AllByRecursion (λ l. IsFalse (stops c.block l)) ls → (cs : List tree.Comment) (n : ℕ) (ch : List FlatBlock) (rest : List Line) →
    run (state_of cs n ch (InDescription c got)) (ls ++ rest) ≡ run (state_of (cs ++ comments_of ls) n ch (InDescription c (got ++ ls))) rest
run_description c [] got a cs n ch rest =
    ap (λ (z : List tree.Comment). run (state_of z n ch (InDescription c got)) rest) (sym (append-nil cs)) ∙ ap (λ (z : List Line). run (state_of (cs ++ []) n ch (InDescription c z)) rest) (sym (append-nil got))
run_description c (l ∷ ls) got a cs n ch rest =
    ap (λ (b : Bool). cond b (after_description (state_of cs n ch (InDescription c got)) (with_description c got) l) (Ok (pass_over (state_of cs n ch (InDescription c got)) (InDescription c (got ++ l ∷ [])) l)) >>= λ x. run x (ls ++ rest)) a.0
    ∙ run_description c ls (got ++ l ∷ []) a.1 (cs ++ comments_of (l ∷ [])) n ch rest
    ∙ ap (λ (z : List tree.Comment). run (state_of z n ch (InDescription c ((got ++ l ∷ []) ++ ls))) rest) (append_assoc cs (comments_of (l ∷ [])) (comments_of ls) ∙ ap (λ (z : List tree.Comment). cs ++ z) (sym (comments_of-append (l ∷ []) ls)))
    ∙ ap (λ (z : List Line). run (state_of (cs ++ comments_of (l ∷ ls)) n ch (InDescription c z)) rest) (append_assoc got (l ∷ []) ls)

-- the numbers of a flat block, from n on
abbrev pub body_nodes : Body → List Node
body_nodes Bare = []
body_nodes (Steps ss) = flat_map step_nodes ss
body_nodes (Rows rs) = row_nodes rs

abbrev pub flat_block_count : FlatBlock → ℕ
flat_block_count c = length c.tags + title_node_count c.block + length (body_nodes c.body)

pub record FlatBlockCounts (n : ℕ) (c : FlatBlock) : Type 0 where
  pub tags : Counts n (tag_nodes c.tags)
  pub own : c.node ≡ n + length c.tags
  pub body : Counts (n + length c.tags + title_node_count c.block) (body_nodes c.body)

-- after the lines of a flat block
pub record Passed (c : FlatBlock) (cs : List tree.Comment) (s : State) (dh : List FlatBlock) (n : ℕ) (before : List tree.Comment) (ls rest : List Line) : Type 0 where
  pub phase : Phase
  pub ready : Ready phase dh (dh ++ c ∷ []) (Some c.block)
  pub ends : blocks_at_end phase ≡ Some (c ∷ [])
  pub runs : run s (ls ++ rest) ≡ run (state_of (before ++ cs) (n + flat_block_count c) dh phase) rest

pub flat_block_is : (a b : FlatBlock) → a.block ≡ b.block → a.node ≡ b.node → a.place ≡ b.place → a.tags ≡ b.tags → a.keyword ≡ b.keyword → a.name ≡ b.name → a.description ≡ b.description → a.body ≡ b.body → a ≡ b
flat_block_is a b p q r s t u v w = λ i. record { block = p i; node = q i; place = r i; tags = s i; keyword = t i; name = u i; description = v i; body = w i }

-- a title line, in a phase where the flat block may begin, and the description after it
run_titled : (c : FlatBlock) (p : Phase) (n : ℕ) (ch dh : List FlatBlock) → c.node ≡ n →
    ((cs : List tree.Comment) (m i : ℕ) (t k x : Utf8) → next (state_of cs n ch p) (line m t i (Title c.block k x)) ≡ Ok (open_block (state_of cs n dh p) c.block c.tags m i k x)) →
    (ls : List Line) (cs : List tree.Comment) → TitleAndDescription c.block c.place c.keyword c.name c.description ls cs → (before : List tree.Comment) (rest : List Line) →
    (lines : List Line) × (description_of lines ≡ c.description) × (run (state_of before n ch p) (ls ++ rest) ≡ run (state_of (before ++ cs) (n + title_node_count c.block) dh (InDescription (fresh c) lines)) rest)
run_titled c p n ch dh e f [] cs h before rest = absurd h
run_titled c p n ch dh e f (line m t i (Title b k x) ∷ ls) cs h before rest = (
  ls,
  sym h.2,
  ap (λ (r : Result State PlacedFault). r >>= λ y. run y (ls ++ rest))
      (ap (λ (z : Block). next (state_of before n ch p) (line m t i (Title z k x))) h.0.0 ∙ f before m i t k x
      ∙ ap (λ (z : FlatBlock). Ok (state_of before (n + title_node_count c.block) dh (InDescription z []))) (flat_block_is (new_block n c.block c.tags m i k x) (fresh c) refl (sym e) (sym h.0.1) refl (sym h.0.2) (sym h.0.3) refl refl))
      ∙ run_description (fresh c) ls [] h.1 before (n + title_node_count c.block) dh rest
      ∙ ap (λ (z : List tree.Comment). run (state_of (before ++ z) (n + title_node_count c.block) dh (InDescription (fresh c) ls)) rest) (sym h.3),
)
run_titled c p n ch dh e f (line m t i Blank ∷ ls) cs h before rest = absurd h.0
run_titled c p n ch dh e f (line m t i _ ∷ ls) cs h before rest = absurd h.0

-- ---- bodies

ready_after : (c : FlatBlock) (steps : List tree.Step) (last : tree.Step) (more : List tree.Step) (ch : List FlatBlock) →
    Ready (after_steps c steps last more) ch (ch ++ with_steps c (steps ++ last ∷ more) ∷ []) (Some c.block) × (blocks_at_end (after_steps c steps last more) ≡ Some (with_steps c (steps ++ last ∷ more) ∷ []))
ready_after c steps last [] ch = (ready_stepping c steps last ch, refl)
ready_after c steps last (s ∷ ss) ch = rw (append_assoc steps (last ∷ []) (s ∷ ss)) at (ready_after c (steps ++ last ∷ []) s ss ch)

-- the flat block whose description these lines are, with its body
built : (c : FlatBlock) (lines : List Line) (y : Body) → description_of lines ≡ c.description → y ≡ c.body → record (with_description (fresh c) lines) { body = y } ≡ c
built c lines y d e = flat_block_is (record (with_description (fresh c) lines) { body = y }) c refl refl refl refl refl refl d e

-- after a body, from the description on
pub record Bodied (c : FlatBlock) (cs : List tree.Comment) (s : State) (dh : List FlatBlock) (n : ℕ) (before : List tree.Comment) (ls rest : List Line) : Type 0 where
  pub phase : Phase
  pub ready : Ready phase dh (dh ++ c ∷ []) (Some c.block)
  pub ends : blocks_at_end phase ≡ Some (c ∷ [])
  pub runs : run s (ls ++ rest) ≡ run (state_of (before ++ cs) (n + length (body_nodes c.body)) dh phase) rest

module _ (c : FlatBlock) (lines : List Line) (d : description_of lines ≡ c.description) (n : ℕ) (dh : List FlatBlock) (before : List tree.Comment) (rest : List Line) where
  start : State
  start = state_of before n dh (InDescription (fresh c) lines)

  no_body_passes : (ls : List Line) (cs : List tree.Comment) → Nothing ls cs → empty_body c.block ≡ c.body → length (body_nodes c.body) ≡ 0 → Bodied c cs start dh n before ls rest
  unfolding start
  no_body_passes ls cs h e z = record {
    phase = InDescription (fresh c) lines;
    ready = rw (built c lines (empty_body c.block) d e) at (ready_described (fresh c) lines dh);
    ends = ap (λ (x : FlatBlock). Some (x ∷ [])) (built c lines (empty_body c.block) d e);
    runs = reads_nothing dh (InDescription (fresh c) lines) n ls cs h before rest ∙ ap (λ (x : ℕ). run (state_of (before ++ cs) (n + x) dh (InDescription (fresh c) lines)) rest) (sym z);
  }

  steps_pass : (s : tree.Step) (ss : List tree.Step) (ls : List Line) (cs : List tree.Comment) → ((m i : ℕ) (t k : Utf8) (y : KeywordType) (x : Utf8) → stops c.block (line m t i (Step k y x)) ≡ true) →
      Steps (s ∷ ss) ≡ c.body → Counts n (flat_map step_nodes (s ∷ ss)) → Each IsStep (s ∷ ss) ls cs → Bodied c cs start dh n before ls rest
  unfolding start
  steps_pass s ss ls cs f e k h =
      let x : FlatBlock = with_description (fresh c) lines in
      let ks = counts_apart n (step_nodes s) (flat_map step_nodes ss) k in
      let begins : Begins (InDescription (fresh c) lines) x [] = λ us m ch a i t kw y z. rw (f a i t kw y z) refl in
      let q = ready_after x [] s ss dh in
      let is : with_steps x (s ∷ ss) ≡ c = built c lines (Steps (s ∷ ss)) d e in
      record {
        phase = after_steps x [] s ss;
        ready = rw is at q.0;
        ends = q.1 ∙ ap (λ (z : FlatBlock). Some (z ∷ [])) is;
        runs =
            reads_then (IsStep s) (Each IsStep ss) dh dh dh (InDescription (fresh c) lines) (AfterStep x [] s) (after_steps x [] s ss) n (length (step_nodes s)) (length (flat_map step_nodes ss))
            (reads_step (InDescription (fresh c) lines) x [] begins s n dh ks.0)
            (reads_more_steps x [] s ss (n + length (step_nodes s)) dh ks.1 (after_steps x [] s ss) refl) ls cs h before rest
            ∙ ap (λ (z : ℕ). run (state_of (before ++ cs) (n + z) dh (after_steps x [] s ss)) rest) (sym (length-append (step_nodes s) (flat_map step_nodes ss)) ∙ ap (λ (z : Body). length (body_nodes z)) e);
      }

  rows_pass : (r : tree.Row) (rs : List tree.Row) (ls : List Line) (cs : List tree.Comment) → ((m i : ℕ) (t : Utf8) (cells : List Cell) → stops c.block (line m t i (Row cells)) ≡ true) →
      Rows (r ∷ rs) ≡ c.body → Counts n (row_nodes (r ∷ rs)) → IsTable (r ∷ rs) ls cs → Bodied c cs start dh n before ls rest
  unfolding start
  rows_pass r rs ls cs f e k h =
      let x : FlatBlock = with_description (fresh c) lines in
      let takes : TakesRows (λ z. InExamplesTable x z) = record { idle = λ z. idle_listing x z; row = λ z us m ch a i t cells. refl } in
      let is : with_rows x (r ∷ rs) ≡ c = built c lines (Rows (r ∷ rs)) d e in
      record {
        phase = InExamplesTable x (r ∷ rs);
        ready = rw is at (ready_listing x (r ∷ rs) dh);
        ends = ap (λ (z : FlatBlock). Some (z ∷ [])) is;
        runs =
            reads_table (λ z. InExamplesTable x z) takes (r ∷ rs) (InDescription (fresh c) lines) n dh dh k (first x) ls cs h before rest
            ∙ ap (λ (z : ℕ). run (state_of (before ++ cs) (n + z) dh (InExamplesTable x (r ∷ rs))) rest) (sym (map_length node_of_row (r ∷ rs)) ∙ ap (λ (z : Body). length (body_nodes z)) e);
      }
    where
      first : (x : FlatBlock) (z : tree.Row) (l : Line) → z.node ≡ n → IsRow z l → (us : List tree.Comment) → next (state_of us n dh (InDescription (fresh c) lines)) l ≡ Ok (state_of us (n + 1) dh (InExamplesTable (with_description (fresh c) lines) (z ∷ [])))
      first x z (line m t i (Row cells)) g h2 us = rw (f m i t cells) (ap (λ (v : tree.Row). Ok (state_of us (n + 1) dh (InExamplesTable (with_description (fresh c) lines) (v ∷ [])))) (sym (row_is z (record { node = n; location = at m (i + 1); cells = cells }) g h2.0 h2.1)))
      first x z (line m t i _) g h2 us = absurd h2

body_passes : (c : FlatBlock) (lines : List Line) → description_of lines ≡ c.description → (n : ℕ) (dh : List FlatBlock) (before : List tree.Comment) (rest : List Line) (b : Block) (y : Body) →
    c.block ≡ b → y ≡ c.body → Counts n (body_nodes y) → (ls : List Line) (cs : List tree.Comment) → IsBody b y ls cs → Bodied c cs (state_of before n dh (InDescription (fresh c) lines)) dh n before ls rest
unfolding start
body_passes c lines d n dh before rest block.Feature Bare e w k ls cs h = no_body_passes c lines d n dh before rest ls cs h (ap empty_body e ∙ w) (ap (λ (z : Body). length (body_nodes z)) (sym w))
body_passes c lines d n dh before rest block.Rule Bare e w k ls cs h = no_body_passes c lines d n dh before rest ls cs h (ap empty_body e ∙ w) (ap (λ (z : Body). length (body_nodes z)) (sym w))
body_passes c lines d n dh before rest block.Background (Steps []) e w k ls cs h = no_body_passes c lines d n dh before rest ls cs h (ap empty_body e ∙ w) (ap (λ (z : Body). length (body_nodes z)) (sym w))
body_passes c lines d n dh before rest block.Scenario (Steps []) e w k ls cs h = no_body_passes c lines d n dh before rest ls cs h (ap empty_body e ∙ w) (ap (λ (z : Body). length (body_nodes z)) (sym w))
body_passes c lines d n dh before rest block.Examples (Rows []) e w k ls cs h = no_body_passes c lines d n dh before rest ls cs h (ap empty_body e ∙ w) (ap (λ (z : Body). length (body_nodes z)) (sym w))
body_passes c lines d n dh before rest block.Background (Steps (s ∷ ss)) e w k ls cs h = steps_pass c lines d n dh before rest s ss ls cs (λ m i t kw y x. ap (λ (z : Block). stops z (line m t i (Step kw y x))) e) w k h
body_passes c lines d n dh before rest block.Scenario (Steps (s ∷ ss)) e w k ls cs h = steps_pass c lines d n dh before rest s ss ls cs (λ m i t kw y x. ap (λ (z : Block). stops z (line m t i (Step kw y x))) e) w k h
body_passes c lines d n dh before rest block.Examples (Rows (r ∷ rs)) e w k ls cs h = rows_pass c lines d n dh before rest r rs ls cs (λ m i t cells. ap (λ (z : Block). stops z (line m t i (Row cells))) e) w k h
body_passes c lines d n dh before rest _ _ e w k ls cs h = absurd h

-- ---- headers

-- after the tag lines of a block
pub record Headed (b : Block) (tags : List Tag) (cs : List tree.Comment) (s : State) (dh : List FlatBlock) (n : ℕ) (before : List tree.Comment) (ls rest : List Line) : Type 0 where
  pub phase : Phase
  pub flat_blocks : List FlatBlock
  pub runs : run s (ls ++ rest) ≡ run (state_of (before ++ cs) (n + length tags) flat_blocks phase) rest
  pub title : (us : List tree.Comment) (m i : ℕ) (t k x : Utf8) → next (state_of us (n + length tags) flat_blocks phase) (line m t i (Title b k x)) ≡ Ok (open_block (state_of us (n + length tags) dh phase) b tags m i k x)

module _ (p : Phase) (n : ℕ) (ch dh : List FlatBlock) (bef : Option Block) (ready : Ready p ch dh bef) (b : Block) (fits : follows bef b ≡ true) (before : List tree.Comment) (rest : List Line) where
  no_tags_pass : (tags : List Tag) (ls : List Line) (cs : List tree.Comment) → tags ≡ [] → Nothing ls cs → Headed b tags cs (state_of before n ch p) dh n before ls rest
  no_tags_pass tags ls cs e h =
      let zero_is : 0 ≡ length tags = ap (λ (z : List Tag). length z) (sym e) in
      record {
        phase = p;
        flat_blocks = ch;
        runs = reads_nothing ch p n ls cs h before rest ∙ ap (λ (z : ℕ). run (state_of (before ++ cs) (n + z) ch p) rest) zero_is;
        title = λ us m i t k x. ready.title us (n + length tags) m i t b k x fits ∙ ap (λ (z : List Tag). Ok (open_block (state_of us (n + length tags) dh p) b z m i k x)) (sym e);
      }

  tags_pass : takes_tags b ≡ true → (tags : List Tag) (parts : List (List Tag)) (ls : List Line) (cs : List tree.Comment) → Counts n (tag_nodes tags) → tags ≡ flat_map (λ z. z) parts →
      Each (λ z. OneLine (IsTagLine z)) parts ls cs → Headed b tags cs (state_of before n ch p) dh n before ls rest
  tags_pass takes tags [] ls cs k e h = no_tags_pass tags ls cs e h
  tags_pass takes tags (ts ∷ parts) ls cs k e h =
      let k2 : Counts n (tag_nodes (ts ++ flat_map (λ z. z) parts)) = subst (λ (z : List Tag). Counts n (tag_nodes z)) e k in
      let ks = counts_apart n (tag_nodes ts) (tag_nodes (flat_map (λ z. z) parts)) (rw map-append at k2) in
      record {
        phase = AfterTags bef tags;
        flat_blocks = dh;
        runs =
            reads_then (OneLine (IsTagLine ts)) (Each (λ z. OneLine (IsTagLine z)) parts) ch dh dh p (AfterTags bef ts) (AfterTags bef (ts ++ flat_map (λ z. z) parts)) n (length ts) (length (flat_map (λ z. z) parts))
            (reads_line (IsTagLine ts) ch dh p (AfterTags bef ts) n (length ts) (tag_line p n ch dh bef [] ts (λ us m i t words. ready.tag us n m i t words) ks.0) (idle_tagged bef ts))
            (reads_tag_lines parts ts (n + length ts) dh bef (rw map_length at ks.1)) ls cs h before rest
            ∙ ap (λ (z : ℕ). run (state_of (before ++ cs) (n + z) dh (AfterTags bef (ts ++ flat_map (λ z. z) parts))) rest) (sym (length-append ts (flat_map (λ z. z) parts)) ∙ ap (λ (z : List Tag). length z) (sym e))
            ∙ ap (λ (z : List Tag). run (state_of (before ++ cs) (n + length tags) dh (AfterTags bef z)) rest) (sym e);
        title = λ us m i t k x. rw (fits, takes) refl;
      }

flat_block_tags_pass : (p : Phase) (n : ℕ) (ch dh : List FlatBlock) (bef : Option Block) → Ready p ch dh bef → (b : Block) → follows bef b ≡ true → (before : List tree.Comment) (rest : List Line) (tags : List Tag) →
    Counts n (tag_nodes tags) → (ls : List Line) (cs : List tree.Comment) → FlatBlockTags b tags ls cs → Headed b tags cs (state_of before n ch p) dh n before ls rest
flat_block_tags_pass p n ch dh bef ready block.Background fits before rest tags k ls cs h = no_tags_pass p n ch dh bef ready block.Background fits before rest tags ls cs h.0 h.1
flat_block_tags_pass p n ch dh bef ready block.Feature fits before rest tags k ls cs h = tags_pass p n ch dh bef ready block.Feature fits before rest refl tags h.0 ls cs k h.1 h.2
flat_block_tags_pass p n ch dh bef ready block.Rule fits before rest tags k ls cs h = tags_pass p n ch dh bef ready block.Rule fits before rest refl tags h.0 ls cs k h.1 h.2
flat_block_tags_pass p n ch dh bef ready block.Scenario fits before rest tags k ls cs h = tags_pass p n ch dh bef ready block.Scenario fits before rest refl tags h.0 ls cs k h.1 h.2
flat_block_tags_pass p n ch dh bef ready block.Examples fits before rest tags k ls cs h = tags_pass p n ch dh bef ready block.Examples fits before rest refl tags h.0 ls cs k h.1 h.2

-- ---- a whole flat block

regroup : (a b c d : List Line) → ((a ++ b) ++ c) ++ d ≡ a ++ (b ++ (c ++ d))
regroup a b c d = simp append_assoc

regroup_comments : (a b c d : List tree.Comment) → ((a ++ b) ++ c) ++ d ≡ a ++ ((b ++ c) ++ d)
regroup_comments a b c d = simp append_assoc

pub arrives : (s : State) (ls : List Line) (dh : List FlatBlock) (q : Phase) (rest : List Line) (a b : List tree.Comment) (i j : ℕ) → run s ls ≡ run (state_of a i dh q) rest → a ≡ b → i ≡ j → run s ls ≡ run (state_of b j dh q) rest
arrives s ls dh q rest a b i j e f g = e ∙ ap (λ (z : List tree.Comment). run (state_of z i dh q) rest) f ∙ ap (λ (z : ℕ). run (state_of b z dh q) rest) g

pub flat_block_passes : (c : FlatBlock) (p : Phase) (n : ℕ) (ch dh : List FlatBlock) (bef : Option Block) → Ready p ch dh bef → follows bef c.block ≡ true → FlatBlockCounts n c →
    (ls : List Line) (cs : List tree.Comment) → IsFlatBlock c ls cs → (before : List tree.Comment) (rest : List Line) → Passed c cs (state_of before n ch p) dh n before ls rest
flat_block_passes c p n ch dh bef ready fits k ls cs h before rest =
    let u = h.first in
    let tags = flat_block_tags_pass p n ch dh bef ready c.block fits before (u.back ++ (h.back ++ rest)) c.tags k.tags u.front u.front_comments u.first in
    let titled = run_titled c tags.phase (n + length c.tags) tags.flat_blocks dh k.own tags.title u.back u.back_comments u.second (before ++ u.front_comments) (h.back ++ rest) in
    let body = body_passes c titled.0 titled.1 (n + length c.tags + title_node_count c.block) dh (before ++ u.front_comments ++ u.back_comments) rest c.block c.body refl refl k.body h.back h.back_comments h.second in
    record {
      phase = body.phase;
      ready = body.ready;
      ends = body.ends;
      runs = arrives (state_of before n ch p) (ls ++ rest) dh body.phase rest _ _ _ _
          (ap (λ (z : List Line). run (state_of before n ch p) z) (ap (λ (z : List Line). z ++ rest) (h.cut ∙ ap (λ (z : List Line). z ++ h.back) u.cut) ∙ regroup u.front u.back h.back rest)
          ∙ tags.runs ∙ titled.2 ∙ body.runs)
          (regroup_comments before u.front_comments u.back_comments h.back_comments ∙ ap (λ (z : List tree.Comment). before ++ z) (sym (h.comments ∙ ap (λ (z : List tree.Comment). z ++ h.back_comments) u.comments)))
          (omega arith);
    }

-- ---- flat blocks

-- each may follow the one before
abbrev pub Linked : Option Block → List FlatBlock → Type 0
Linked bef [] = Unit {0}
Linked bef (c ∷ cs) = (follows bef c.block ≡ true) × Linked (Some c.block) cs

abbrev pub flat_blocks_count : List FlatBlock → ℕ
flat_blocks_count [] = 0
flat_blocks_count (c ∷ cs) = flat_block_count c + flat_blocks_count cs

abbrev pub FlatBlocksCount : ℕ → List FlatBlock → Type 0
FlatBlocksCount n [] = Unit {0}
FlatBlocksCount n (c ∷ cs) = FlatBlockCounts n c × FlatBlocksCount (n + flat_block_count c) cs

-- after some flat blocks: the whole flat blocks are those closed and what the phase closes to
pub record AllPassed (ch more : List FlatBlock) (cs : List tree.Comment) (s : State) (n : ℕ) (before : List tree.Comment) (ls rest : List Line) : Type 0 where
  pub phase : Phase
  pub flat_blocks : List FlatBlock
  pub last : List FlatBlock
  pub ends : blocks_at_end phase ≡ Some last
  pub whole : flat_blocks ++ last ≡ ch ++ more
  pub runs : run s (ls ++ rest) ≡ run (state_of (before ++ cs) (n + flat_blocks_count more) flat_blocks phase) rest

pub flat_blocks_pass : (c : FlatBlock) (more : List FlatBlock) (p : Phase) (n : ℕ) (ch dh : List FlatBlock) (bef : Option Block) → Ready p ch dh bef → Linked bef (c ∷ more) → FlatBlocksCount n (c ∷ more) →
    (ls : List Line) (cs : List tree.Comment) → Each IsFlatBlock (c ∷ more) ls cs → (before : List tree.Comment) (rest : List Line) → AllPassed dh (c ∷ more) cs (state_of before n ch p) n before ls rest
flat_blocks_pass c [] p n ch dh bef ready links k ls cs h before rest =
    let one = flat_block_passes c p n ch dh bef ready links.0 k.0 ls cs (only_first (IsFlatBlock c) ls cs h) before rest in
    record {
      phase = one.phase;
      flat_blocks = dh;
      last = c ∷ [];
      ends = one.ends;
      whole = refl;
      runs = arrives (state_of before n ch p) (ls ++ rest) dh one.phase rest _ _ _ _ one.runs refl (omega arith);
    }
flat_blocks_pass c (d ∷ more) p n ch dh bef ready links k ls cs h before rest =
    let one = flat_block_passes c p n ch dh bef ready links.0 k.0 h.front h.front_comments h.first before (h.back ++ rest) in
    let others = flat_blocks_pass d more one.phase (n + flat_block_count c) dh (dh ++ c ∷ []) (Some c.block) one.ready links.1 k.1 h.back h.back_comments h.second (before ++ h.front_comments) rest in
    record {
      phase = others.phase;
      flat_blocks = others.flat_blocks;
      last = others.last;
      ends = others.ends;
      whole = others.whole ∙ append_assoc dh (c ∷ []) (d ∷ more);
      runs = arrives (state_of before n ch p) (ls ++ rest) others.flat_blocks others.phase rest _ _ _ _
          (ap (λ (z : List Line). run (state_of before n ch p) z) (ap (λ (z : List Line). z ++ rest) h.cut ∙ append_assoc h.front h.back rest) ∙ one.runs ∙ others.runs)
          (append_assoc before h.front_comments h.back_comments ∙ ap (λ (z : List tree.Comment). before ++ z) (sym h.comments))
          (omega arith);
    }
