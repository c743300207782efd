-- What the pickles of a document are made of, and which of them is of which row.
use Rattle.std.specs.Prelude.{◌≡◌, ◌⊎◌, ℕ, List, [], ◌∷◌, ◌++◌, map, Option, Some, unwrap_or, option_map, Contains}
use Rattle.std.specs.List.{AllByRecursion, flat_map}
use Rattle.gk_document.specs.declared.tree.KeywordType.{KeywordType}
use Rattle.gk_document.specs.declared.tree.Tag.{Tag}
use Rattle.gk_document.specs.declared.tree.Step.{Step}
use Rattle.gk_document.specs.declared.tree.Row.{Row}
use Rattle.gk_document.specs.declared.tree.ExampleTable.{ExampleTable}
use Rattle.gk_document.specs.declared.tree.Examples.{Examples}
use Rattle.gk_document.specs.declared.tree.Scenario.{Scenario}
use Rattle.gk_document.specs.declared.tree.Rule.{Rule}
use Rattle.gk_document.specs.declared.tree.Feature.{Feature}
use Rattle.gk_document.specs.declared.tree.Document.{Document}
use Rattle.gk_pickle.specs.declared.pickles.StepType.{StepType}
use Rattle.gk_pickle.specs.declared.pickles.StepType.TheVariants.{Unknown}
use Rattle.gk_pickle.specs.declared.pickles.PickleArgument.{PickleArgument}
use Rattle.gk_pickle.specs.declared.pickles.PickleStep.{PickleStep}
use Rattle.gk_pickle.specs.declared.pickles.Pickle.{Pickle}
use Rattle.gk_pickle.specs.Inheritance.{Filling, no_filling}
use Rattle.gk_pickle.specs.Steps.{own_type, keyword_types, filled_by, filled_argument}
use Rattle.gk_pickle.specs.Pickles.{background_steps, pickle_tag, row_filling, pickles}
use Rattle.gk_pickle.specs.InFeature.{ScenarioInFeature}
use Rattle.gk_pickle.specs.Scenarios.{scenarios_of}
use Rattle.gk_pickle.specs.Counts.{body_rows}
use Rattle.gk_pickle.specs.Order.{document_steps, IsSubsequence}

-- The scenario is one of the feature's own or of one of its rules. It inherits the feature's tags, and then the rule's; and
-- before its steps come these of the backgrounds: the feature's, and then the rule's.
abbrev pub IsScenarioOf : Feature → (inherited : List Tag) → (background : List Step) → Scenario
    → Type 0
IsScenarioOf f inherited background s =
    (Contains f.scenarios s × (inherited ≡ f.tags) × (background ≡ background_steps f.background))
    ⊎ ((r : Rule) × Contains f.rules r × Contains r.scenarios s × (inherited ≡ f.tags ++ r.tags)
    × (background ≡ background_steps f.background ++ background_steps r.background))

-- What fills the scenario's texts, and the tags that come after its own: nothing where it has no examples, else a row below the
-- header of one of its tables, and the tags of that examples block.
abbrev pub IsFillingOf : Scenario → (added : List Tag) → Filling → Type 0
IsFillingOf s added f =
    ((s.examples ≡ []) × (added ≡ []) × (f ≡ no_filling))
    ⊎ ((e : Examples) × (table : ExampleTable) × (row : Row) × Contains s.examples e
    × (e.table ≡ Some table) × Contains table.body row × (added ≡ e.tags)
    × (f ≡ row_filling table.header row))

-- the types of steps with these keywords, after a step of this type: a conjunction (`And`, `But`)
-- has the type of the step before it
abbrev pub types_after : StepType → List KeywordType → List StepType
types_after before [] = []
types_after before (k ∷ ks) =
    let own = unwrap_or (own_type k) before in own ∷ types_after own ks

-- the step's argument, filled
abbrev pub argument_by : Filling → Step → Option PickleArgument
argument_by f s = option_map (filled_argument f) s.argument

-- The steps of a pickle are made of these, one by one and in order: of the backgrounds' steps as
-- they are, and of the scenario's own steps, filled. A conjunction that comes first has the type
-- Unknown.
pub record AreMadeOf (background own : List Step) (f : Filling) (made : List PickleStep)
    : Type 0 where
  pub texts : map (λ p. p.text) made
      ≡ map (λ s. s.text) background ++ map (λ s. filled_by f s.text) own
  pub kinds : map (λ p. p.kind) made ≡ types_after Unknown (keyword_types (background ++ own))
  pub nodes : map (λ p. p.nodes) made
      ≡ map (λ s. s.node ∷ []) background ++ map (λ s. s.node ∷ f.rows) own
  pub arguments : map (λ p. p.argument) made
      ≡ map (argument_by no_filling) background ++ map (argument_by f) own

-- a scenario without steps of its own gives none
abbrev pub AreStepsOf : (background own : List Step) → Filling → List PickleStep → Type 0
AreStepsOf background [] f made = made ≡ []
AreStepsOf background (s ∷ ss) f made = AreMadeOf background (s ∷ ss) f made

-- The pickle is of a scenario of the document and of what fills it: these its nodes name. Its name is the scenario's, filled;
-- its tags are those of the feature, the rule, the scenario and the examples, as they are. Its steps are made of the
-- backgrounds' and the scenario's, which come in the document in this order.
pub record IsOfScenario (d : Document) (p : Pickle) : Type 0 where
  pub feature : Feature
  pub scenario : Scenario
  pub inherited : List Tag
  pub added : List Tag
  pub background : List Step
  pub filling : Filling
  pub in_document : d.feature ≡ Some feature
  pub in_feature : IsScenarioOf feature inherited background scenario
  pub filled : IsFillingOf scenario added filling
  pub in_order : IsSubsequence (background ++ scenario.steps) (document_steps d.feature)
  pub nodes : p.nodes ≡ scenario.node ∷ filling.rows
  pub name : p.name ≡ filled_by filling scenario.name
  pub tags : p.tags ≡ map pickle_tag (inherited ++ scenario.tags ++ added)
  pub steps : AreStepsOf background scenario.steps filling p.steps

-- each pickle of a document is made so
abbrev pub PicklesAreMade : Type 0
PicklesAreMade = (d : Document) → AllByRecursion (IsOfScenario d) (pickles d)

-- ---- which pickle is of which row

-- the nodes that the pickles of a scenario with these examples name: the scenario, or else the scenario and one row after
-- another
abbrev pub nodes_with : Scenario → List Examples → List (List ℕ)
nodes_with s [] = (s.node ∷ []) ∷ []
nodes_with s (e ∷ es) =
    map (λ row. s.node ∷ row.node ∷ []) (flat_map body_rows (e ∷ es))

abbrev pub nodes_of_pickles : ScenarioInFeature → List (List ℕ)
nodes_of_pickles s = nodes_with s.scenario s.scenario.examples

-- the pickles of a document name, in its order, each scenario without examples and each row below a header
abbrev pub PicklesNameRows : Type 0
PicklesNameRows =
    (d : Document) → map (λ p. p.nodes) (pickles d) ≡ flat_map nodes_of_pickles (scenarios_of d)
