-- The tree of a flat list of blocks: block after block from the back, each with what comes after it below it.
use Rattle.std.specs.Prelude.{◌≡◌, ◌≢◌, List, [], ◌∷◌, ◌++◌, Option, Some, None}
use Rattle.std.specs.List.{AllByRecursion}
use Rattle.gk_line.specs.declared.tokens.Block.{Block}
use Rattle.gk_line.specs.declared.tokens.Block.TheVariants as block
use Rattle.gk_grammar.specs.Tree as tree
use Rattle.gk_grammar.specs.Tree.{Background, ExampleTable, Examples, Scenario, Rule, Feature, Document}
use Rattle.gk_grammar.specs.Grammar.{english}
use Rattle.gk_grammar.specs.Machine.{Body, Steps, Rows, FlatBlock, State}

-- the steps and the rows of a block, none where it has no such part
abbrev pub steps_of : Body → List tree.Step
steps_of (Steps steps) = steps
steps_of _ = []

abbrev pub rows_of : Body → List tree.Row
rows_of (Rows rows) = rows
rows_of _ = []

-- rows as the table of an examples block, whose header is the first
abbrev pub example_table_of : List tree.Row → Option ExampleTable
example_table_of [] = None
example_table_of (r ∷ rs) = Some (record { header = r; body = rs })

-- what comes after a block: the examples of a scenario, a background and scenarios of a feature or a rule, and further rules
pub record Parts : Type 0 where
  pub examples : List Examples
  pub background : Option Background
  pub scenarios : List Scenario
  pub rules : List Rule

abbrev pub no_parts : Parts
no_parts = record { examples = []; background = None; scenarios = []; rules = [] }

-- each block, with the parts after it
abbrev pub examples_at : FlatBlock → Examples
examples_at c = record {
  node = c.node;
  location = c.place;
  tags = c.tags;
  keyword = c.keyword;
  name = c.name;
  description = c.description;
  table = example_table_of (rows_of c.body);
}

abbrev pub scenario_at : FlatBlock → Parts → Scenario
scenario_at c p = record {
  node = c.node;
  location = c.place;
  tags = c.tags;
  keyword = c.keyword;
  name = c.name;
  description = c.description;
  steps = steps_of c.body;
  examples = p.examples;
}

abbrev pub background_at : FlatBlock → Background
background_at c = record {
  node = c.node;
  location = c.place;
  keyword = c.keyword;
  name = c.name;
  description = c.description;
  steps = steps_of c.body;
}

abbrev pub rule_at : FlatBlock → Parts → Rule
rule_at c p = record {
  node = c.node;
  location = c.place;
  tags = c.tags;
  keyword = c.keyword;
  name = c.name;
  description = c.description;
  background = p.background;
  scenarios = p.scenarios;
}

abbrev pub feature_at : FlatBlock → Parts → Feature
feature_at c p = record {
  location = c.place;
  tags = c.tags;
  language = english;
  keyword = c.keyword;
  name = c.name;
  description = c.description;
  background = p.background;
  scenarios = p.scenarios;
  rules = p.rules;
}

-- the parts with one block before them
abbrev pub with_block : Block → FlatBlock → Parts → Parts
with_block block.Examples c p = record p { examples = examples_at c ∷ p.examples }
with_block block.Scenario c p =
    record p { examples = []; scenarios = scenario_at c p ∷ p.scenarios }
with_block block.Background c p = record p { background = Some (background_at c) }
with_block block.Rule c p =
    record p { background = None; scenarios = []; rules = rule_at c p ∷ p.rules }
with_block block.Feature c p = p

abbrev pub parts_of : List FlatBlock → Parts
parts_of [] = no_parts
parts_of (c ∷ cs) = with_block c.block c (parts_of cs)

-- the feature whose blocks these are, itself the first
abbrev pub assembled_feature : List FlatBlock → Option Feature
assembled_feature [] = None
assembled_feature (c ∷ cs) = Some (feature_at c (parts_of cs))

-- the document of a state, where these are the last blocks
abbrev pub document_of : State → List FlatBlock → Document
document_of s last = record {
  feature = assembled_feature (s.flat_blocks ++ last);
  comments = s.comments;
  nodes = s.nodes;
}

-- a feature and other blocks, or none at all
abbrev pub IsFeatureFirst : List FlatBlock → Type 0
IsFeatureFirst [] = Unit {0}
IsFeatureFirst (c ∷ cs) =
    (c.block ≡ block.Feature) × AllByRecursion (λ (x : FlatBlock). x.block ≢ block.Feature) cs
