-- The flat blocks of a tree are numbered exactly if its nodes are.
use Rattle.std.proofs.Common.{◌≡◌, ℕ, ◌+◌, List, [], ◌∷◌, ◌++◌, length, Option, Some, None, refl, sym, ap, subst, ◌∙◌, append_assoc, append-nil, arith, length-append}
use Rattle.std.proofs.lemmas.Grind.{flat_map-append}
use Rattle.std.specs.Prelude.{map}
use Rattle.std.specs.List.{flat_map}
use Rattle.gk_line.specs.declared.tokens.Block.{Block}
use Rattle.gk_line.specs.declared.tokens.Block.TheVariants as block
use Rattle.gk_grammar.specs.Tree.{Background, Examples, Scenario, Rule, Feature}
use Rattle.gk_grammar.specs.Grammar.{Node, tag_nodes, step_nodes, background_nodes, examples_nodes, scenario_nodes, rule_nodes, feature_nodes}
use Rattle.gk_grammar.specs.Machine.{FlatBlock, follows, title_node_count}
use Rattle.gk_grammar.proofs.Complete.{Counts, counts_apart}
use Rattle.gk_grammar.proofs.Whole.{Linked, body_nodes, flat_block_count, flat_blocks_count, FlatBlockCounts, FlatBlocksCount}
use Rattle.gk_grammar.proofs.Tidy.{counts_both, tags_nodes_length}
use Rattle.gk_grammar.proofs.Trees.{background_flat_blocks, examples_flat_block, scenario_flat_block, scenario_flat_blocks, rule_flat_block, rule_flat_blocks, feature_flat_block, feature_flat_blocks, feature_linked}
use Rattle.gk_grammar.proofs.Forest.{no_feature}

-- ---- the nodes of a flat block

-- the node of a block's own line: a feature has none
abbrev own_nodes : Block → Node → List Node
own_nodes block.Feature x = []
own_nodes block.Rule x = x ∷ []
own_nodes block.Background x = x ∷ []
own_nodes block.Scenario x = x ∷ []
own_nodes block.Examples x = x ∷ []

abbrev flat_block_nodes : FlatBlock → List Node
flat_block_nodes c = tag_nodes c.tags ++ (own_nodes c.block (c.place, c.node) ++ body_nodes c.body)

abbrev flat_blocks_nodes : List FlatBlock → List Node
flat_blocks_nodes cs = flat_map flat_block_nodes cs

own_length : (b : Block) (x : Node) → length (own_nodes b x) ≡ title_node_count b
own_length block.Feature x = refl
own_length block.Rule x = refl
own_length block.Background x = refl
own_length block.Scenario x = refl
own_length block.Examples x = refl

flat_block_length : (c : FlatBlock) → length (flat_block_nodes c) ≡ flat_block_count c
flat_block_length c =
    let a = length-append (tag_nodes c.tags) (own_nodes c.block (c.place, c.node) ++ body_nodes c.body) in
    let b = length-append (own_nodes c.block (c.place, c.node)) (body_nodes c.body) in
    let d = tags_nodes_length c.tags in
    let e = own_length c.block (c.place, c.node) in
    omega arith

pub flat_blocks_length : (cs : List FlatBlock) → length (flat_blocks_nodes cs) ≡ flat_blocks_count cs
flat_blocks_length [] = refl
flat_blocks_length (c ∷ cs) = length-append (flat_block_nodes c) (flat_blocks_nodes cs) ∙ (let a = flat_block_length c in let b = flat_blocks_length cs in omega arith)

-- ---- numbers of nodes and of flat blocks

own_counts : (b : Block) (x : Node) (n : ℕ) → x.1 ≡ n → Counts n (own_nodes b x)
own_counts block.Feature x n e = tt
own_counts block.Rule x n e = (e, tt)
own_counts block.Background x n e = (e, tt)
own_counts block.Scenario x n e = (e, tt)
own_counts block.Examples x n e = (e, tt)

own_number : (b : Block) (x : Node) (n : ℕ) → (b ≡ block.Feature → ⊥) → Counts n (own_nodes b x) → x.1 ≡ n
own_number block.Feature x n f h = absurd (f refl)
own_number block.Rule x n f h = h.0
own_number block.Background x n f h = h.0
own_number block.Scenario x n f h = h.0
own_number block.Examples x n f h = h.0

from : (n m : ℕ) (xs : List Node) → n ≡ m → Counts n xs → Counts m xs
from n m xs e h = subst (λ (z : ℕ). Counts z xs) e h

flat_block_counted : (n : ℕ) (c : FlatBlock) → FlatBlockCounts n c → Counts n (flat_block_nodes c)
flat_block_counted n c h =
    let d = tags_nodes_length c.tags in
    let e = own_length c.block (c.place, c.node) in
    counts_both n (tag_nodes c.tags) (own_nodes c.block (c.place, c.node) ++ body_nodes c.body) h.tags
    (counts_both (n + length (tag_nodes c.tags)) (own_nodes c.block (c.place, c.node)) (body_nodes c.body)
    (own_counts c.block (c.place, c.node) (n + length (tag_nodes c.tags)) (h.own ∙ omega arith))
    (from (n + length c.tags + title_node_count c.block) (n + length (tag_nodes c.tags) + length (own_nodes c.block (c.place, c.node))) (body_nodes c.body) (omega arith) h.body))

flat_block_counts : (n : ℕ) (c : FlatBlock) → (Counts (n + length c.tags) (own_nodes c.block (c.place, c.node)) → c.node ≡ n + length c.tags) → Counts n (flat_block_nodes c) → FlatBlockCounts n c
flat_block_counts n c f h =
    let d = tags_nodes_length c.tags in
    let e = own_length c.block (c.place, c.node) in
    let k = counts_apart n (tag_nodes c.tags) (own_nodes c.block (c.place, c.node) ++ body_nodes c.body) h in
    let j = counts_apart (n + length (tag_nodes c.tags)) (own_nodes c.block (c.place, c.node)) (body_nodes c.body) k.1 in
    record {
      tags = k.0;
      own = f (from (n + length (tag_nodes c.tags)) (n + length c.tags) (own_nodes c.block (c.place, c.node)) (omega arith) j.0);
      body = from (n + length (tag_nodes c.tags) + length (own_nodes c.block (c.place, c.node))) (n + length c.tags + title_node_count c.block) (body_nodes c.body) (omega arith) j.1;
    }

flat_blocks_counted : (n : ℕ) (cs : List FlatBlock) → FlatBlocksCount n cs → Counts n (flat_blocks_nodes cs)
flat_blocks_counted n [] h = tt
flat_blocks_counted n (c ∷ cs) h =
    counts_both n (flat_block_nodes c) (flat_blocks_nodes cs) (flat_block_counted n c h.0)
    (from (n + flat_block_count c) (n + length (flat_block_nodes c)) (flat_blocks_nodes cs) (let e = flat_block_length c in omega arith) (flat_blocks_counted (n + flat_block_count c) cs h.1))

flat_blocks_count_so : (b : Block) (n : ℕ) (cs : List FlatBlock) → Linked (Some b) cs → Counts n (flat_blocks_nodes cs) → FlatBlocksCount n cs
flat_blocks_count_so b n [] l h = tt
flat_blocks_count_so b n (c ∷ cs) l h =
    let k = counts_apart n (flat_block_nodes c) (flat_blocks_nodes cs) h in (
      flat_block_counts n c (own_number c.block (c.place, c.node) (n + length c.tags) (λ e. no_feature b (ap (λ (z : Block). follows (Some b) z) (sym e) ∙ l.0))) k.0,
      flat_blocks_count_so c.block (n + flat_block_count c) cs l.1 (from (n + length (flat_block_nodes c)) (n + flat_block_count c) (flat_blocks_nodes cs) (let e = flat_block_length c in omega arith) k.1),
    )

-- ---- the nodes of a tree

background_same : (o : Option Background) → flat_blocks_nodes (background_flat_blocks o) ≡ background_nodes o
background_same None = refl
background_same (Some b) = append-nil ((b.location, b.node) ∷ flat_map step_nodes b.steps)

examples_same : (es : List Examples) → flat_blocks_nodes (map examples_flat_block es) ≡ flat_map examples_nodes es
examples_same [] = refl
examples_same (e ∷ es) = ap (λ (z : List Node). examples_nodes e ++ z) (examples_same es)

scenario_same : (s : Scenario) → flat_blocks_nodes (scenario_flat_blocks s) ≡ scenario_nodes s
scenario_same s =
    ap (λ (z : List Node). flat_block_nodes (scenario_flat_block s) ++ z) (examples_same s.examples)
    ∙ append_assoc (tag_nodes s.tags) ((s.location, s.node) ∷ flat_map step_nodes s.steps) (flat_map examples_nodes s.examples)

scenarios_same : (ss : List Scenario) → flat_blocks_nodes (flat_map scenario_flat_blocks ss) ≡ flat_map scenario_nodes ss
scenarios_same [] = refl
scenarios_same (s ∷ ss) =
    flat_map-append flat_block_nodes (scenario_flat_blocks s) (flat_map scenario_flat_blocks ss)
    ∙ ap (λ (z : List Node). z ++ flat_blocks_nodes (flat_map scenario_flat_blocks ss)) (scenario_same s) ∙ ap (λ (z : List Node). scenario_nodes s ++ z) (scenarios_same ss)

rule_same : (r : Rule) → flat_blocks_nodes (rule_flat_blocks r) ≡ rule_nodes r
rule_same r =
    ap (λ (z : List Node). flat_block_nodes (rule_flat_block r) ++ z)
    (flat_map-append flat_block_nodes (background_flat_blocks r.background) (flat_map scenario_flat_blocks r.scenarios)
    ∙ ap (λ (z : List Node). z ++ flat_blocks_nodes (flat_map scenario_flat_blocks r.scenarios)) (background_same r.background) ∙ ap (λ (z : List Node). background_nodes r.background ++ z) (scenarios_same r.scenarios))
    ∙ append_assoc (tag_nodes r.tags) ((r.location, r.node) ∷ []) (background_nodes r.background ++ flat_map scenario_nodes r.scenarios)

rules_same : (rs : List Rule) → flat_blocks_nodes (flat_map rule_flat_blocks rs) ≡ flat_map rule_nodes rs
rules_same [] = refl
rules_same (r ∷ rs) =
    flat_map-append flat_block_nodes (rule_flat_blocks r) (flat_map rule_flat_blocks rs)
    ∙ ap (λ (z : List Node). z ++ flat_blocks_nodes (flat_map rule_flat_blocks rs)) (rule_same r) ∙ ap (λ (z : List Node). rule_nodes r ++ z) (rules_same rs)

-- the parts of a feature below its header
abbrev below : Feature → List FlatBlock
below f = background_flat_blocks f.background ++ (flat_map scenario_flat_blocks f.scenarios ++ flat_map rule_flat_blocks f.rules)

below_same : (f : Feature) → flat_blocks_nodes (below f) ≡ background_nodes f.background ++ (flat_map scenario_nodes f.scenarios ++ flat_map rule_nodes f.rules)
below_same f =
    flat_map-append flat_block_nodes (background_flat_blocks f.background) (flat_map scenario_flat_blocks f.scenarios ++ flat_map rule_flat_blocks f.rules)
    ∙ ap (λ (z : List Node). z ++ flat_blocks_nodes (flat_map scenario_flat_blocks f.scenarios ++ flat_map rule_flat_blocks f.rules)) (background_same f.background)
    ∙ ap (λ (z : List Node). background_nodes f.background ++ z)
    (flat_map-append flat_block_nodes (flat_map scenario_flat_blocks f.scenarios) (flat_map rule_flat_blocks f.rules)
    ∙ ap (λ (z : List Node). z ++ flat_blocks_nodes (flat_map rule_flat_blocks f.rules)) (scenarios_same f.scenarios) ∙ ap (λ (z : List Node). flat_map scenario_nodes f.scenarios ++ z) (rules_same f.rules))

feature_same : (f : Feature) → flat_blocks_nodes (feature_flat_blocks f) ≡ feature_nodes (Some f)
feature_same f = ap (λ (z : List Node). z ++ flat_blocks_nodes (below f)) (append-nil (tag_nodes f.tags)) ∙ ap (λ (z : List Node). tag_nodes f.tags ++ z) (below_same f)

pub feature_count : (f : Feature) → flat_blocks_count (feature_flat_blocks f) ≡ length (feature_nodes (Some f))
feature_count f = sym (flat_blocks_length (feature_flat_blocks f)) ∙ ap length (feature_same f)

pub nodes_counted : (f : Feature) → FlatBlocksCount 0 (feature_flat_blocks f) → Counts 0 (feature_nodes (Some f))
nodes_counted f h = subst (λ (z : List Node). Counts 0 z) (feature_same f) (flat_blocks_counted 0 (feature_flat_blocks f) h)

pub nodes_count_so : (f : Feature) → Counts 0 (feature_nodes (Some f)) → FlatBlocksCount 0 (feature_flat_blocks f)
nodes_count_so f h =
    let k = counts_apart 0 (flat_block_nodes (feature_flat_block f)) (flat_blocks_nodes (below f)) (subst (λ (z : List Node). Counts 0 z) (sym (feature_same f)) h) in (
      flat_block_counts 0 (feature_flat_block f) (λ _. omega arith) k.0,
      flat_blocks_count_so block.Feature (0 + flat_block_count (feature_flat_block f)) (below f) (feature_linked f).1 (from (0 + length (flat_block_nodes (feature_flat_block f))) (0 + flat_block_count (feature_flat_block f)) (flat_blocks_nodes (below f)) (let e = flat_block_length (feature_flat_block f) in omega arith) k.1),
    )
