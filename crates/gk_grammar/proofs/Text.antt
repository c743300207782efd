-- The lines that the machine takes whole are a text of the grammar, of the tree that has the machine's flat blocks.
use Rattle.std.proofs.Common.{◌≡◌, ℕ, ◌+◌, true, List, [], ◌∷◌, ◌++◌, length, Option, Some, None, Result, Ok, Err, refl, sym, ap, subst, ◌∙◌, append-nil, arith, inl, inr}
use Rattle.std.specs.Prelude.{IfOk}
use Rattle.std.specs.List.{AllByRecursion}
use Rattle.gk_line.specs.declared.tokens.Block.{Block}
use Rattle.gk_line.specs.declared.tokens.Block.TheVariants as block
use Rattle.gk_grammar.specs.Token.{Line}
use Rattle.gk_grammar.specs.Tree as tree
use Rattle.gk_grammar.specs.Tree.{Tag, Feature}
use Rattle.gk_grammar.specs.Grammar.{Each, IsOpening, IsFeatureText}
use Rattle.gk_grammar.specs.Machine.{Body, Bare, Steps, Rows, FlatBlock, Phase, Start, AfterLanguage, AfterTags, InDescription, AfterStep, InDocString, InExamplesTable, State, PlacedFault, follows, next, run, ◌>>=◌, blocks_at_end, initial_state, with_description, with_steps, with_rows}
use Rattle.gk_grammar.proofs.Pieces.{mapped}
use Rattle.gk_grammar.proofs.Open.{IsFlatBlock, IsBody, FlatBlockTags}
use Rattle.gk_grammar.proofs.Whole.{Linked, FlatBlockCounts, FlatBlocksCount, flat_block_count, flat_blocks_count}
use Rattle.gk_grammar.proofs.Trees.{feature_from}
use Rattle.gk_grammar.proofs.Forest.{Shaped, IsShaped, forest, no_feature}
use Rattle.gk_grammar.proofs.Links.{last_of, linked_more, PhaseFollows, StateFollows, at_phase_follows}
use Rattle.gk_grammar.proofs.Tidy.{count_more, PhaseCounts, StateCounts, at_phase_counts, flat_blocks_more, counted_whole, bare_whole}
use Rattle.gk_grammar.proofs.Final.{flat_blocks_of, IsRead}

-- what each line keeps, a run keeps
run_keeps : (P : State → Type 0) → ((s : State) (l : Line) → P s → IfOk (next s l) P) → (ls : List Line) (s : State) → P s → IfOk (run s ls) P
run_keeps P f [] s h = h
run_keeps P f (l ∷ ls) s h = go (next s l) (f s l h) (λ x q. run_keeps P f ls x q)
  where
    go : (r : Result State PlacedFault) → IfOk r P → ((x : State) → P x → IfOk (run x ls) P) → IfOk (r >>= λ x. run x ls) P
    go (Ok x) q g = g x q
    go (Err e) q g = tt

-- what the machine keeps beside the text
both_ok : (r : Result State PlacedFault) → IfOk r StateFollows → IfOk r StateCounts → IfOk r (λ s. StateFollows s × StateCounts s)
both_ok (Ok s) f g = (f, g)
both_ok (Err e) f g = tt

pub kept : (ls : List Line) (s : State) → run initial_state ls ≡ Ok s → StateFollows s × StateCounts s
kept ls s e =
    subst (λ (r : Result State PlacedFault). IfOk r (λ s. StateFollows s × StateCounts s)) e
    (run_keeps (λ s. StateFollows s × StateCounts s) (λ s l h. both_ok (next s l) (at_phase_follows s s.phase l h.0.0 h.0.1) (at_phase_counts s s.phase l h.1.0 h.1.1)) ls initial_state ((tt, refl), (tt, refl)))

-- the flat blocks follow one another, have their numbers, and have this many nodes
abbrev pub AreFlatBlocks : List FlatBlock → ℕ → Type 0
AreFlatBlocks flat_blocks nodes = Linked None flat_blocks × FlatBlocksCount 0 flat_blocks × (nodes ≡ flat_blocks_count flat_blocks)

-- one whole flat block more
one_more : (s : State) (c : FlatBlock) (last : List FlatBlock) → c ∷ [] ≡ last → Linked None s.flat_blocks → follows (last_of None s.flat_blocks) c.block ≡ true → FlatBlocksCount 0 s.flat_blocks →
    FlatBlockCounts (flat_blocks_count s.flat_blocks) c × (s.nodes ≡ flat_blocks_count s.flat_blocks + flat_block_count c) → AreFlatBlocks (s.flat_blocks ++ last) s.nodes
one_more s c last e l f h k =
    subst (λ (z : List FlatBlock). AreFlatBlocks (s.flat_blocks ++ z) s.nodes) e (
      (linked_more None s.flat_blocks c l f).0,
      flat_blocks_more 0 s.flat_blocks c h (subst (λ (z : ℕ). FlatBlockCounts z c) (omega arith) k.0),
      k.1 ∙ sym (count_more s.flat_blocks c),
    )

pub closing : (s : State) (p : Phase) (last : List FlatBlock) → blocks_at_end p ≡ Some last → Linked None s.flat_blocks → PhaseFollows s.flat_blocks p → FlatBlocksCount 0 s.flat_blocks → PhaseCounts (flat_blocks_count s.flat_blocks) s.nodes p → AreFlatBlocks (s.flat_blocks ++ last) s.nodes
closing s Start last e l f h k = let is : [] ≡ last = cc in subst (λ (z : List FlatBlock). AreFlatBlocks (s.flat_blocks ++ z) s.nodes) is (subst (λ (z : List FlatBlock). AreFlatBlocks z s.nodes) (sym (append-nil s.flat_blocks)) (l, h, k))
closing s AfterLanguage last e l f h k = absurd cc
closing s (AfterTags before tags) last e l f h k = absurd cc
closing s (InDocString c before x q inside) last e l f h k = absurd cc
closing s (InDescription c lines) last e l f h k = let is : with_description c lines ∷ [] ≡ last = cc in one_more s (with_description c lines) last is l f h (bare_whole (flat_blocks_count s.flat_blocks) c lines s.nodes k.0 k.1)
closing s (AfterStep c before x) last e l f h k = let is : with_steps c (before ++ x ∷ []) ∷ [] ≡ last = cc in one_more s (with_steps c (before ++ x ∷ [])) last is l f h (counted_whole (flat_blocks_count s.flat_blocks) c (Steps (before ++ x ∷ [])) s.nodes k)
closing s (InExamplesTable c rows) last e l f h k = let is : with_rows c rows ∷ [] ≡ last = cc in one_more s (with_rows c rows) last is l f h (counted_whole (flat_blocks_count s.flat_blocks) c (Rows rows) s.nodes k)

shape_of : (b : Block) (n : ℕ) (tags : List Tag) (y : Body) (us xs : List Line) (vs ys : List tree.Comment) → (b ≡ block.Feature → n ≡ length tags) → FlatBlockTags b tags us vs → IsBody b y xs ys → IsShaped b n tags y
shape_of block.Feature n tags Bare us xs vs ys f t h = f refl
shape_of block.Rule n tags Bare us xs vs ys f t h = tt
shape_of block.Background n tags (Steps ss) us xs vs ys f t h = t.0
shape_of block.Scenario n tags (Steps ss) us xs vs ys f t h = tt
shape_of block.Examples n tags (Rows rs) us xs vs ys f t h = tt
shape_of _ n tags _ us xs vs ys f t h = absurd h

first_number : (before : Option Block) (c : FlatBlock) (n : ℕ) → follows before c.block ≡ true → (before ≡ None → n ≡ 0) → c.node ≡ n + length c.tags → c.block ≡ block.Feature → c.node ≡ length c.tags
first_number None c n f z e is = let q = z refl in omega arith
first_number (Some b) c n f z e is = absurd (no_feature b (ap (λ (x : Block). follows (Some b) x) (sym is) ∙ f))

all_shaped : (before : Option Block) (n : ℕ) (flat_blocks : List FlatBlock) → Linked before flat_blocks → FlatBlocksCount n flat_blocks → (before ≡ None → n ≡ 0) → (ls : List Line) (cs : List tree.Comment) → Each IsFlatBlock flat_blocks ls cs → AllByRecursion Shaped flat_blocks
all_shaped before n [] l k z ls cs h = tt
all_shaped before n (c ∷ more) l k z ls cs h =
    let u = h.first in (
      shape_of c.block c.node c.tags c.body u.first.front u.back u.first.front_comments u.back_comments (first_number before c n l.0 z k.0.own) u.first.first u.second,
      all_shaped (Some c.block) (n + flat_block_count c) more l.1 k.1 (λ e. absurd cc) h.back h.back_comments h.second,
    )

-- what was read is the text of a tree
pub read_text : (ls : List Line) (cs : List tree.Comment) (flat_blocks : List FlatBlock) → Linked None flat_blocks → FlatBlocksCount 0 flat_blocks → IsRead flat_blocks ls cs → (f : Option Feature) × IsFeatureText f ls cs × (flat_blocks ≡ flat_blocks_of f)
read_text ls cs [] l k (inl h) = (None, h.0, refl)
read_text ls cs [] l k (inr h) = absurd (h.1 refl)
read_text ls cs (c ∷ more) l k (inl h) = absurd (let e = h.1 in cc)
read_text ls cs (c ∷ more) l k (inr h) =
    let t = h.0 in
    let r = forest c more l (all_shaped None 0 (c ∷ more) l k (λ _. refl) t.back t.back_comments t.second) in
    (Some r.0, (r.1, mapped IsOpening (Each IsFlatBlock (c ∷ more)) _ (λ us vs w. feature_from r.0 us vs (subst (λ (z : List FlatBlock). Each IsFlatBlock z us vs) r.2 w)) ls cs t), r.2)
