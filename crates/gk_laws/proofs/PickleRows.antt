-- Which pickle is of which row.
use Rattle.std.proofs.Common.{◌≡◌, ℕ, List, [], ◌∷◌, ◌++◌, map, refl, sym, ap, ◌∙◌}
use Rattle.std.specs.List.{flat_map}
use Rattle.std.proofs.lemmas.List.{map-append}
use Rattle.gk_document.specs.declared.tree.Row.{Row}
use Rattle.gk_document.specs.declared.tree.Examples.{Examples}
use Rattle.gk_document.specs.declared.tree.Scenario.{Scenario}
use Rattle.gk_pickle.specs.declared.pickles.Pickle.{Pickle}
use Rattle.gk_pickle.specs.Counts.{body_rows}
use Rattle.gk_pickle.specs.Inheritance.{Inheritance}
use Rattle.gk_pickle.specs.InFeature.{ScenarioInFeature}
use Rattle.gk_pickle.specs.Pickles.{outline_pickles, scenario_pickles}
use Rattle.gk_pickle.specs.Scenarios.{inherited_in, pickles_of_one, scenarios_of}
use Rattle.gk_pickle.proofs.Counting.{rows_in_order}
use Rattle.gk_pickle.proofs.InTurn.{scenario_by_scenario}
use Rattle.gk_laws.specs.Pickles.{nodes_with, nodes_of_pickles, PicklesNameRows}

abbrev nodes_in : Pickle → List ℕ
nodes_in p = p.nodes

-- the pickles of one scenario
nodes_of_one : (inherited : Inheritance) (s : Scenario) (es : List Examples) → s.examples ≡ es
    → map nodes_in (scenario_pickles inherited s) ≡ nodes_with s es
nodes_of_one inherited s [] same =
    ap (λ (z : List Examples). map nodes_in (outline_pickles inherited s z)) same
nodes_of_one inherited s (e ∷ es) same =
    rows_in_order inherited s (λ none. let bad : e ∷ es ≡ [] = sym same ∙ none in cc)
    ∙ ap (λ (z : List Examples). map (λ (row : Row). s.node ∷ row.node ∷ []) (flat_map body_rows z)) same

nodes_of_each : (ss : List ScenarioInFeature)
    → map nodes_in (flat_map pickles_of_one ss) ≡ flat_map nodes_of_pickles ss
unfolding pickles_of_one
nodes_of_each [] = refl
nodes_of_each (s ∷ ss) =
    map-append nodes_in (pickles_of_one s) (flat_map pickles_of_one ss)
    ∙ ap (λ (z : List (List ℕ)). z ++ map nodes_in (flat_map pickles_of_one ss))
    (nodes_of_one (inherited_in s.feature s.rule) s.scenario s.scenario.examples refl)
    ∙ ap (λ (z : List (List ℕ)). nodes_of_pickles s ++ z) (nodes_of_each ss)

pub pickles_name_rows_holds : PicklesNameRows
pickles_name_rows_holds d =
    ap (λ (z : List Pickle). map nodes_in z) (scenario_by_scenario d) ∙ nodes_of_each (scenarios_of d)
