-- The flat blocks of a tree, assembled, are the tree: two trees with the same flat blocks are one.
use Rattle.std.proofs.Common.{◌≡◌, true, List, [], ◌∷◌, ◌++◌, Option, Some, None, refl, sym, ap, ◌∙◌, append_assoc}
use Rattle.std.specs.Prelude.{map}
use Rattle.std.specs.List.{AllByRecursion, flat_map}
use Rattle.gk_line.specs.declared.tokens.Block.{Block}
use Rattle.gk_line.specs.declared.tokens.Block.TheVariants as block
use Rattle.gk_grammar.specs.Tree.{Background, ExampleTable, Examples, Scenario, Rule, Feature}
use Rattle.gk_grammar.specs.Machine.{FlatBlock, follows}
use Rattle.gk_grammar.specs.Grammar.{english}
use Rattle.gk_grammar.specs.Assembly.{Parts, with_block, parts_of, assembled_feature, IsFeatureFirst}
use Rattle.gk_grammar.proofs.Whole.{Linked}
use Rattle.gk_grammar.proofs.Trees.{table_again, background_flat_blocks, examples_flat_block, scenario_flat_block, scenario_flat_blocks, rule_flat_block, rule_flat_blocks, feature_flat_blocks}
use Rattle.gk_grammar.proofs.Forest.{no_feature}

abbrev these : List Examples → Option Background → List Scenario → List Rule → Parts
these es b ss rs = record { examples = es; background = b; scenarios = ss; rules = rs }

examples_again : (es : List Examples) (rest : List FlatBlock) (ss : List Scenario) (rs : List Rule) → parts_of rest ≡ these [] None ss rs → parts_of (map examples_flat_block es ++ rest) ≡ these es None ss rs
examples_again [] rest ss rs e = e
examples_again (x ∷ es) rest ss rs e =
    ap (λ (p : Parts). with_block block.Examples (examples_flat_block x) p) (examples_again es rest ss rs e)
    ∙ ap (λ (t : Option ExampleTable). these (record x { table = t } ∷ es) None ss rs) (table_again x.table)

scenarios_again : (ss : List Scenario) (rest : List FlatBlock) (rs : List Rule) → parts_of rest ≡ these [] None [] rs → parts_of (flat_map scenario_flat_blocks ss ++ rest) ≡ these [] None ss rs
scenarios_again [] rest rs e = e
scenarios_again (x ∷ ss) rest rs e =
    ap (λ (z : List FlatBlock). parts_of (scenario_flat_block x ∷ z)) (append_assoc (map examples_flat_block x.examples) (flat_map scenario_flat_blocks ss) rest)
    ∙ ap (λ (p : Parts). with_block block.Scenario (scenario_flat_block x) p) (examples_again x.examples (flat_map scenario_flat_blocks ss ++ rest) ss rs (scenarios_again ss rest rs e))

background_again : (b : Option Background) (rest : List FlatBlock) (ss : List Scenario) (rs : List Rule) → parts_of rest ≡ these [] None ss rs → parts_of (background_flat_blocks b ++ rest) ≡ these [] b ss rs
background_again None rest ss rs e = e
background_again (Some x) rest ss rs e = ap (λ (p : Parts). record p { background = Some x }) e

rules_again : (rs : List Rule) → parts_of (flat_map rule_flat_blocks rs) ≡ these [] None [] rs
rules_again [] = refl
rules_again (x ∷ rs) =
    ap (λ (z : List FlatBlock). parts_of (rule_flat_block x ∷ z)) (append_assoc (background_flat_blocks x.background) (flat_map scenario_flat_blocks x.scenarios) (flat_map rule_flat_blocks rs))
    ∙ ap (λ (p : Parts). with_block block.Rule (rule_flat_block x) p) (background_again x.background (flat_map scenario_flat_blocks x.scenarios ++ flat_map rule_flat_blocks rs) x.scenarios rs (scenarios_again x.scenarios (flat_map rule_flat_blocks rs) rs (rules_again rs)))

below_again : (f : Feature) → parts_of (background_flat_blocks f.background ++ (flat_map scenario_flat_blocks f.scenarios ++ flat_map rule_flat_blocks f.rules)) ≡ these [] f.background f.scenarios f.rules
below_again f = background_again f.background (flat_map scenario_flat_blocks f.scenarios ++ flat_map rule_flat_blocks f.rules) f.scenarios f.rules (scenarios_again f.scenarios (flat_map rule_flat_blocks f.rules) f.rules (rules_again f.rules))

-- the flat blocks of a tree make the tree
pub tree_again : (f : Feature) → f.language ≡ english → assembled_feature (feature_flat_blocks f) ≡ Some f
tree_again f l =
    ap (λ (p : Parts). Some (record f { language = english; background = p.background; scenarios = p.scenarios; rules = p.rules })) (below_again f)
    ∙ ap (λ (z : List _). Some (record f { language = z })) (sym l)

-- the flat blocks determine the tree
pub one_tree : (f g : Feature) → f.language ≡ english → g.language ≡ english → feature_flat_blocks f ≡ feature_flat_blocks g → f ≡ g
one_tree f g l m e = let same : Some f ≡ Some g = sym (tree_again f l) ∙ ap assembled_feature e ∙ tree_again g m in cc

-- linked flat blocks begin with a feature, and have no other
none_after : (b : Block) (cs : List FlatBlock) → Linked (Some b) cs → AllByRecursion (λ (x : FlatBlock). x.block ≡ block.Feature → ⊥) cs
none_after b [] l = tt
none_after b (c ∷ cs) l = (λ e. no_feature b (ap (λ (z : Block). follows (Some b) z) (sym e) ∙ l.0), none_after c.block cs l.1)

first_block : (b : Block) → follows None b ≡ true → b ≡ block.Feature
first_block block.Feature e = refl
first_block block.Rule e = absurd cc
first_block block.Background e = absurd cc
first_block block.Scenario e = absurd cc
first_block block.Examples e = absurd cc

pub linked_feature_first : (cs : List FlatBlock) → Linked None cs → IsFeatureFirst cs
linked_feature_first [] l = tt
linked_feature_first (c ∷ cs) l = (first_block c.block l.0, none_after c.block cs l.1)
