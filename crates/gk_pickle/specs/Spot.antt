-- What one pickle is made of, and where scenarios stand.
use Rattle.std.specs.Prelude.{List, Option, None, Some}
use Rattle.gk_document.specs.declared.tree.Tag.{Tag}
use Rattle.gk_document.specs.declared.tree.Row.{Row}
use Rattle.gk_document.specs.declared.tree.Scenario.{Scenario}
use Rattle.gk_document.specs.declared.tree.Rule.{Rule}
use Rattle.gk_document.specs.declared.tree.Feature.{Feature}
use Rattle.gk_pickle.specs.declared.pickles.Pickle.{Pickle}
use Rattle.gk_pickle.specs.Inheritance.{Inheritance, Filling, no_filling}
use Rattle.gk_pickle.specs.InFeature.{ScenarioInFeature}
use Rattle.gk_pickle.specs.Pickles.{pickle_of, row_filling}
use Rattle.gk_pickle.specs.Scenarios.{inherited_in}

-- a scenario, what it inherits, and the tags of its examples and what fills it
pub record Spot : Type 0 where
  pub inherited : Inheritance
  pub scenario : Scenario
  pub tags : List Tag
  pub filling : Filling

-- what fills it: a row under a header, or nothing
abbrev pub filling_of : Option (Row × Row) → Filling
filling_of None = no_filling
filling_of (Some r) = row_filling r.0 r.1

abbrev pub spot_of : ScenarioInFeature → List Tag → Option (Row × Row) → Spot
spot_of s tags row = record {
  inherited = inherited_in s.feature s.rule;
  scenario = s.scenario;
  tags = tags;
  filling = filling_of row;
}

abbrev pub spot_pickle : Spot → Pickle
spot_pickle s = pickle_of s.inherited s.scenario s.tags s.filling

-- a feature itself, or a rule of it
pub record Group : Type 0 where
  pub feature : Feature
  pub rule : Option Rule
