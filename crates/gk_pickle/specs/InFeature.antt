-- A scenario and where it is.
use Rattle.std.specs.Prelude.{Option}
use Rattle.gk_document.specs.declared.tree.Scenario.{Scenario}
use Rattle.gk_document.specs.declared.tree.Rule.{Rule}
use Rattle.gk_document.specs.declared.tree.Feature.{Feature}

-- a scenario, its feature, and its rule where it is in one
pub record ScenarioInFeature : Type 0 where
  pub feature : Feature
  pub rule : Option Rule
  pub scenario : Scenario
