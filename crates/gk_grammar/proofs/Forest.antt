-- Linked flat blocks are those of a tree.
use Rattle.std.proofs.Common.{◌≡◌, ℕ, true, false, List, [], ◌∷◌, ◌++◌, length, Option, Some, None, refl, sym, ap, ◌∙◌, append_assoc}
use Rattle.std.specs.Prelude.{map}
use Rattle.std.specs.List.{flat_map, AllByRecursion}
use Rattle.gk_line.specs.declared.tokens.Block.{Block}
use Rattle.gk_line.specs.declared.tokens.Block.TheVariants as block
use Rattle.gk_grammar.specs.Tree.{Tag, Background, Examples, Scenario, Rule, Feature}
use Rattle.gk_grammar.specs.Grammar.{english}
use Rattle.gk_grammar.specs.Assembly.{example_table_of}
use Rattle.gk_grammar.specs.Machine.{Body, Bare, Steps, Rows, FlatBlock, follows}
use Rattle.gk_grammar.proofs.Whole.{Linked, flat_block_is}
use Rattle.gk_grammar.proofs.Trees.{rows_table, background_flat_blocks, examples_flat_block, scenario_flat_block, scenario_flat_blocks, rule_flat_block, rule_flat_blocks, feature_flat_block, feature_flat_blocks}

-- each block has the body of its kind, a background no tags, and a feature the number after its tags
abbrev pub IsShaped : Block → ℕ → List Tag → Body → Type 0
IsShaped block.Feature n tags Bare = n ≡ length tags
IsShaped block.Rule n tags Bare = Unit {0}
IsShaped block.Background n tags (Steps ss) = tags ≡ []
IsShaped block.Scenario n tags (Steps ss) = Unit {0}
IsShaped block.Examples n tags (Rows rs) = Unit {0}
IsShaped _ n tags _ = ⊥

abbrev pub Shaped : FlatBlock → Type 0
Shaped c = IsShaped c.block c.node c.tags c.body

abbrev flat_blocks_below : List Examples → Option Background → List Scenario → List Rule → List FlatBlock
flat_blocks_below es b ss rs = map examples_flat_block es ++ (background_flat_blocks b ++ (flat_map scenario_flat_blocks ss ++ flat_map rule_flat_blocks rs))

-- what comes after a block: examples of an open scenario, a background and scenarios of an open feature or rule, and further rules
pub record Parts (before : Block) (cs : List FlatBlock) : Type 0 where
  pub examples : List Examples
  pub background : Option Background
  pub scenarios : List Scenario
  pub rules : List Rule
  pub are : cs ≡ flat_blocks_below examples background scenarios rules
  pub no_examples : follows (Some before) block.Examples ≡ false → examples ≡ []
  pub no_background : follows (Some before) block.Background ≡ false → background ≡ None

pub no_feature : (b : Block) → follows (Some b) block.Feature ≡ true → ⊥
no_feature block.Feature e = absurd cc
no_feature block.Rule e = absurd cc
no_feature block.Background e = absurd cc
no_feature block.Scenario e = absurd cc
no_feature block.Examples e = absurd cc

more_parts : (before : Block) (c : FlatBlock) (cs : List FlatBlock) (b : Block) (y : Body) → c.block ≡ b → c.body ≡ y → follows (Some before) b ≡ true → IsShaped b c.node c.tags y → Parts b cs → Parts before (c ∷ cs)
more_parts before c cs block.Examples (Rows rs) e w f h p =
    let x : Examples = record { node = c.node; location = c.place; tags = c.tags; keyword = c.keyword; name = c.name; description = c.description; table = example_table_of rs } in
    let is : c ≡ examples_flat_block x = flat_block_is c (examples_flat_block x) e refl refl refl refl refl refl (w ∙ ap Rows (sym (rows_table rs))) in
    let none : p.background ≡ None = p.no_background refl in
    record {
      examples = x ∷ p.examples;
      background = None;
      scenarios = p.scenarios;
      rules = p.rules;
      are = ap (λ (z : FlatBlock). z ∷ cs) is ∙ ap (λ (z : List FlatBlock). examples_flat_block x ∷ z) (p.are ∙ ap (λ (z : Option Background). flat_blocks_below p.examples z p.scenarios p.rules) none);
      no_examples = λ g. absurd cc;
      no_background = λ g. refl;
    }
more_parts before c cs block.Scenario (Steps ss) e w f h p =
    let x : Scenario = record { node = c.node; location = c.place; tags = c.tags; keyword = c.keyword; name = c.name; description = c.description; steps = ss; examples = p.examples } in
    let is : c ≡ scenario_flat_block x = flat_block_is c (scenario_flat_block x) e refl refl refl refl refl refl w in
    let none : p.background ≡ None = p.no_background refl in
    record {
      examples = [];
      background = None;
      scenarios = x ∷ p.scenarios;
      rules = p.rules;
      are = ap (λ (z : FlatBlock). z ∷ cs) is ∙ ap (λ (z : List FlatBlock). scenario_flat_block x ∷ z) (p.are ∙ ap (λ (z : Option Background). flat_blocks_below p.examples z p.scenarios p.rules) none
          ∙ sym (append_assoc (map examples_flat_block p.examples) (flat_map scenario_flat_blocks p.scenarios) (flat_map rule_flat_blocks p.rules)));
      no_examples = λ g. refl;
      no_background = λ g. refl;
    }
more_parts before c cs block.Background (Steps ss) e w f h p =
    let x : Background = record { node = c.node; location = c.place; keyword = c.keyword; name = c.name; description = c.description; steps = ss } in
    let is : (c ∷ []) ≡ background_flat_blocks (Some x) = ap (λ (z : FlatBlock). z ∷ []) (flat_block_is c _ e refl refl h refl refl refl w) in
    let none : p.background ≡ None = p.no_background refl in
    let empty : p.examples ≡ [] = p.no_examples refl in
    record {
      examples = [];
      background = Some x;
      scenarios = p.scenarios;
      rules = p.rules;
      are = ap (λ (z : List FlatBlock). z ++ cs) is ∙ ap (λ (z : List FlatBlock). background_flat_blocks (Some x) ++ z)
          (p.are ∙ ap (λ (z : Option Background). flat_blocks_below p.examples z p.scenarios p.rules) none ∙ ap (λ (z : List Examples). flat_blocks_below z None p.scenarios p.rules) empty);
      no_examples = λ g. refl;
      no_background = λ g. absurd cc;
    }
more_parts before c cs block.Rule Bare e w f h p =
    let x : Rule = record { node = c.node; location = c.place; tags = c.tags; keyword = c.keyword; name = c.name; description = c.description; background = p.background; scenarios = p.scenarios } in
    let is : c ≡ rule_flat_block x = flat_block_is c (rule_flat_block x) e refl refl refl refl refl refl w in
    let empty : p.examples ≡ [] = p.no_examples refl in
    record {
      examples = [];
      background = None;
      scenarios = [];
      rules = x ∷ p.rules;
      are = ap (λ (z : FlatBlock). z ∷ cs) is ∙ ap (λ (z : List FlatBlock). rule_flat_block x ∷ z) (p.are ∙ ap (λ (z : List Examples). flat_blocks_below z p.background p.scenarios p.rules) empty
          ∙ sym (append_assoc (background_flat_blocks p.background) (flat_map scenario_flat_blocks p.scenarios) (flat_map rule_flat_blocks p.rules)));
      no_examples = λ g. refl;
      no_background = λ g. refl;
    }
more_parts before c cs block.Feature y e w f h p = absurd (no_feature before f)
more_parts before c cs _ _ e w f h p = absurd h

parts : (before : Block) (cs : List FlatBlock) → Linked (Some before) cs → AllByRecursion Shaped cs → Parts before cs
parts before [] l h = record { examples = []; background = None; scenarios = []; rules = []; are = refl; no_examples = λ g. refl; no_background = λ g. refl }
parts before (c ∷ cs) l h = more_parts before c cs c.block c.body refl refl l.0 h.0 (parts c.block cs l.1 h.1)

feature_of : (c : FlatBlock) (cs : List FlatBlock) (b : Block) (y : Body) → c.block ≡ b → c.body ≡ y → follows None b ≡ true → IsShaped b c.node c.tags y → Parts b cs → (f : Feature) × (f.language ≡ english) × ((c ∷ cs) ≡ feature_flat_blocks f)
feature_of c cs block.Feature Bare e w f h p =
    let x : Feature = record { location = c.place; tags = c.tags; language = english; keyword = c.keyword; name = c.name; description = c.description; background = p.background; scenarios = p.scenarios; rules = p.rules } in
    let is : c ≡ feature_flat_block x = flat_block_is c (feature_flat_block x) e h refl refl refl refl refl w in
    (x, refl, ap (λ (z : FlatBlock). z ∷ cs) is ∙ ap (λ (z : List FlatBlock). feature_flat_block x ∷ z) (p.are ∙ ap (λ (z : List Examples). flat_blocks_below z p.background p.scenarios p.rules) (p.no_examples refl)))
feature_of c cs block.Rule y e w f h p = absurd cc
feature_of c cs block.Background y e w f h p = absurd cc
feature_of c cs block.Scenario y e w f h p = absurd cc
feature_of c cs block.Examples y e w f h p = absurd cc
feature_of c cs block.Feature _ e w f h p = absurd h

-- flat blocks that follow one another from a feature on are those of a tree
pub forest : (c : FlatBlock) (cs : List FlatBlock) → Linked None (c ∷ cs) → AllByRecursion Shaped (c ∷ cs) → (f : Feature) × (f.language ≡ english) × ((c ∷ cs) ≡ feature_flat_blocks f)
forest c cs l h = feature_of c cs c.block c.body refl refl l.0 h.0 (parts c.block cs l.1 h.1)
