-- The pickles of a document from a place in it on.
use Rattle.std.specs.Prelude.{◌≡◌, ℕ, List, [], ◌∷◌, ◌++◌, map, drop, Option, Some, None}
use Rattle.std.specs.List.{flat_map}
use Rattle.gk_document.specs.declared.tree.Examples.{Examples}
use Rattle.gk_document.specs.declared.tree.Scenario.{Scenario}
use Rattle.gk_document.specs.declared.tree.Rule.{Rule}
use Rattle.gk_document.specs.declared.tree.Feature.{Feature}
use Rattle.gk_document.specs.declared.tree.Document.{Document}
use Rattle.gk_pickle.specs.declared.pickles.Pickle.{Pickle}
use Rattle.gk_pickle.specs.declared.pickles.PickleTitle.{PickleTitle}
use Rattle.gk_pickle.specs.declared.next_pickles.PicklePlace.{PicklePlace}
use Rattle.gk_pickle.specs.Inheritance.{Inheritance, no_filling}
use Rattle.gk_pickle.specs.Pickles.{pickle_of, examples_pickles, scenario_pickles}
use Rattle.gk_pickle.specs.InFeature.{ScenarioInFeature}
use Rattle.gk_pickle.specs.Scenarios.{inherited_in}
use Rattle.gk_pickle.specs.Spot.{Group}

-- the feature itself, then each rule
abbrev pub groups : Feature → List Group
groups f =
    record { feature = f; rule = None }
    ∷ map (λ r. record { feature = f; rule = Some r }) f.rules

abbrev pub own_scenarios : Feature → Option Rule → List Scenario
own_scenarios f None = f.scenarios
own_scenarios f (Some r) = r.scenarios

abbrev pub scenarios_at : Group → List Scenario
scenarios_at g = own_scenarios g.feature g.rule

abbrev pub inherited_at : Group → Inheritance
inherited_at g = inherited_in g.feature g.rule

abbrev pub group_pickles : Group → List Pickle
group_pickles g = flat_map (scenario_pickles (inherited_at g)) (scenarios_at g)

-- those of blocks, but for the first rows of the first one
abbrev pub from_row : Inheritance → Scenario → List Examples → (row : ℕ) → List Pickle
from_row inherited s [] row = []
from_row inherited s (e ∷ es) row =
    drop row (examples_pickles inherited s e) ++ flat_map (examples_pickles inherited s) es

-- those of a scenario, but for its first blocks, and the first rows of the next one; without blocks, but for the first ones
abbrev pub of_outline : Inheritance → Scenario → List Examples → (block row : ℕ) → List Pickle
of_outline inherited s [] block row = drop row (pickle_of inherited s [] no_filling ∷ [])
of_outline inherited s (e ∷ es) block row = from_row inherited s (drop block (e ∷ es)) row

abbrev pub rest_of_scenario : Inheritance → Scenario → (block row : ℕ) → List Pickle
rest_of_scenario inherited s block row = of_outline inherited s s.examples block row

-- of a scenario in its feature: those of one of its blocks, those of some of its blocks, those of all, and its pickle without them
abbrev pub block_pickles : ScenarioInFeature → Examples → List Pickle
block_pickles s e = examples_pickles (inherited_in s.feature s.rule) s.scenario e

abbrev pub rest_of_blocks : ScenarioInFeature → List Examples → (block row : ℕ) → List Pickle
rest_of_blocks s es block row =
    from_row (inherited_in s.feature s.rule) s.scenario (drop block es) row

abbrev pub rest_of_one : ScenarioInFeature → (block row : ℕ) → List Pickle
rest_of_one s block row = rest_of_scenario (inherited_in s.feature s.rule) s.scenario block row

abbrev pub plain_pickle : ScenarioInFeature → List Pickle
plain_pickle s = pickle_of (inherited_in s.feature s.rule) s.scenario [] no_filling ∷ []

-- those of scenarios, the first from such a place on
abbrev pub from_block : Inheritance → List Scenario → (block row : ℕ) → List Pickle
from_block inherited [] block row = []
from_block inherited (s ∷ ss) block row =
    rest_of_scenario inherited s block row ++ flat_map (scenario_pickles inherited) ss

abbrev pub rest_of_group : Group → (scenario block row : ℕ) → List Pickle
rest_of_group g scenario block row =
    from_block (inherited_at g) (drop scenario (scenarios_at g)) block row

-- those of groups, the first from such a place on
abbrev pub from_scenario : List Group → (scenario block row : ℕ) → List Pickle
from_scenario [] scenario block row = []
from_scenario (g ∷ gs) scenario block row =
    rest_of_group g scenario block row ++ flat_map group_pickles gs

abbrev pub rest_in : Option Feature → PicklePlace → List Pickle
rest_in None p = []
rest_in (Some f) p = from_scenario (drop p.group (groups f)) p.scenario p.block p.row

-- the pickles of a document from a place on
unfoldable pub rest_of : Document → PicklePlace → List Pickle
rest_of d p = rest_in d.feature p

-- what a pickle is called, and the nodes that it is made of
abbrev pub title_of : Pickle → PickleTitle
title_of p = record { name = p.name; nodes = p.nodes }

-- the first of a list, if there is one, and those after it
abbrev pub IsNext : {X : Type 0} → (before after : List X) → Option X → Type 0
IsNext before after None = (before ≡ []) × (after ≡ [])
IsNext before after (Some x) = before ≡ x ∷ after
