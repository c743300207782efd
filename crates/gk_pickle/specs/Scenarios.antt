-- The scenarios of a document in order, each with what is around it, and the pickles of each (`gherkin.berp`, `Feature` and
-- `Rule`).
use Rattle.std.specs.Prelude.{◌≡◌, List, [], ◌++◌, map, Option, Some, None}
use Rattle.std.specs.List.{flat_map}
use Rattle.gk_document.specs.declared.tree.Scenario.{Scenario}
use Rattle.gk_document.specs.declared.tree.Rule.{Rule}
use Rattle.gk_document.specs.declared.tree.Feature.{Feature}
use Rattle.gk_document.specs.declared.tree.Document.{Document}
use Rattle.gk_pickle.specs.declared.pickles.Pickle.{Pickle}
use Rattle.gk_pickle.specs.Inheritance.{Inheritance}
use Rattle.gk_pickle.specs.InFeature.{ScenarioInFeature}
use Rattle.gk_pickle.specs.Pickles.{in_feature, in_rule, scenario_pickles, pickles}

-- the scenarios of a feature, or of a rule of it
abbrev pub scenarios_under : Feature → Option Rule → List Scenario → List ScenarioInFeature
scenarios_under f rule scenarios = map (λ s. record { feature = f; rule = rule; scenario = s }) scenarios

abbrev pub rule_scenarios : Feature → Rule → List ScenarioInFeature
rule_scenarios f r = scenarios_under f (Some r) r.scenarios

-- those that are in the feature itself, then those of each rule
abbrev pub feature_scenarios : Feature → List ScenarioInFeature
feature_scenarios f = scenarios_under f None f.scenarios ++ flat_map (rule_scenarios f) f.rules

abbrev pub scenarios_in : Option Feature → List ScenarioInFeature
scenarios_in None = []
scenarios_in (Some f) = feature_scenarios f

-- the scenarios of a document, in its order
unfoldable pub scenarios_of : Document → List ScenarioInFeature
scenarios_of d = scenarios_in d.feature

-- what a scenario in a feature, or in a rule of it, inherits
abbrev pub inherited_in : Feature → Option Rule → Inheritance
inherited_in f None = in_feature f
inherited_in f (Some r) = in_rule f r

-- the pickles of one scenario
unfoldable pub pickles_of_one : ScenarioInFeature → List Pickle
pickles_of_one s = scenario_pickles (inherited_in s.feature s.rule) s.scenario

-- the pickles of a document are those of one scenario after another
abbrev pub PicklesScenarioByScenario : Type 0
PicklesScenarioByScenario = (d : Document) → pickles d ≡ flat_map pickles_of_one (scenarios_of d)
