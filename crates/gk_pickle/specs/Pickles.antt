-- The pickles of a document, in order (Cucumber Messages, `Pickle.json`; Cucumber's Gherkin reference on backgrounds, rules,
-- scenario outlines and tag inheritance).
use Rattle.std.specs.Prelude.{List, [], ◌∷◌, ◌++◌, map, Option, Some, None}
use Rattle.std.specs.List.{flat_map}
use Rattle.gk_document.specs.declared.tree.Tag.{Tag}
use Rattle.gk_document.specs.declared.tree.Step.{Step}
use Rattle.gk_document.specs.declared.tree.Row.{Row}
use Rattle.gk_document.specs.declared.tree.Background.{Background}
use Rattle.gk_document.specs.declared.tree.ExampleTable.{ExampleTable}
use Rattle.gk_document.specs.declared.tree.Examples.{Examples}
use Rattle.gk_document.specs.declared.tree.Scenario.{Scenario}
use Rattle.gk_document.specs.declared.tree.Rule.{Rule}
use Rattle.gk_document.specs.declared.tree.Feature.{Feature}
use Rattle.gk_document.specs.declared.tree.Document.{Document}
use Rattle.gk_pickle.specs.declared.pickles.PickleTag.{PickleTag}
use Rattle.gk_pickle.specs.declared.pickles.Pickle.{Pickle}
use Rattle.gk_pickle.specs.Inheritance.{Inheritance, Filling, no_filling}
use Rattle.gk_pickle.specs.Steps.{filled_by, pickle_steps}

abbrev pub pickle_tag : Tag → PickleTag
pickle_tag t = record { name = t.name; node = t.node }

-- a scenario's pickle, with the tags of its examples and what fills it; tags aren't filled, and repeats are kept
abbrev pub pickle_of : Inheritance → Scenario → List Tag → Filling → Pickle
pickle_of inherited s tags f = record {
  name = filled_by f s.name;
  nodes = s.node ∷ f.rows;
  tags = map pickle_tag (inherited.tags ++ s.tags ++ tags);
  steps = pickle_steps inherited.steps f s.steps;
}

abbrev pub row_filling : Row → Row → Filling
row_filling header row = record { header = header.cells; cells = row.cells; rows = row.node ∷ [] }

-- one for each body row; a block without a table has none
abbrev pub table_pickles : Inheritance → Scenario → List Tag → Option ExampleTable → List Pickle
table_pickles inherited s tags None = []
table_pickles inherited s tags (Some table) =
    map (λ row. pickle_of inherited s tags (row_filling table.header row)) table.body

abbrev pub examples_pickles : Inheritance → Scenario → Examples → List Pickle
examples_pickles inherited s e = table_pickles inherited s e.tags e.table

-- one without examples blocks, else those of each block
abbrev pub outline_pickles : Inheritance → Scenario → List Examples → List Pickle
outline_pickles inherited s [] = pickle_of inherited s [] no_filling ∷ []
outline_pickles inherited s (e ∷ es) = flat_map (examples_pickles inherited s) (e ∷ es)

abbrev pub scenario_pickles : Inheritance → Scenario → List Pickle
scenario_pickles inherited s = outline_pickles inherited s s.examples

abbrev pub background_steps : Option Background → List Step
background_steps None = []
background_steps (Some b) = b.steps

-- around a scenario that is in the feature itself, and around one in a rule
abbrev pub in_feature : Feature → Inheritance
in_feature f = record { tags = f.tags; steps = background_steps f.background }

abbrev pub in_rule : Feature → Rule → Inheritance
in_rule f r = record {
  tags = f.tags ++ r.tags;
  steps = background_steps f.background ++ background_steps r.background;
}

abbrev pub rule_pickles : Feature → Rule → List Pickle
rule_pickles f r = flat_map (scenario_pickles (in_rule f r)) r.scenarios

abbrev pub feature_pickles : Feature → List Pickle
feature_pickles f =
    flat_map (scenario_pickles (in_feature f)) f.scenarios ++ flat_map (rule_pickles f) f.rules

abbrev pub pickles_in : Option Feature → List Pickle
pickles_in None = []
pickles_in (Some f) = feature_pickles f

unfoldable pub pickles : Document → List Pickle
pickles d = pickles_in d.feature
