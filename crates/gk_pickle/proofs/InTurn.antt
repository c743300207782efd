-- The pickles of a document are those of one scenario after another.
use Rattle.std.proofs.Common.{◌≡◌, List, [], ◌∷◌, ◌++◌, Option, Some, None, refl, sym, ap, ◌∙◌}
use Rattle.std.specs.List.{flat_map}
use Rattle.std.proofs.lemmas.List.Concat.{flat_map-append}
use Rattle.gk_document.specs.declared.tree.Scenario.{Scenario}
use Rattle.gk_document.specs.declared.tree.Rule.{Rule}
use Rattle.gk_document.specs.declared.tree.Feature.{Feature}
use Rattle.gk_pickle.specs.Pickles.{scenario_pickles, rule_pickles, pickles_in, pickles}
use Rattle.gk_pickle.specs.Scenarios.{scenarios_under, rule_scenarios, scenarios_in, scenarios_of, inherited_in, pickles_of_one, PicklesScenarioByScenario}

of_scenarios : (f : Feature) (rule : Option Rule) (ss : List Scenario)
    → flat_map (scenario_pickles (inherited_in f rule)) ss ≡ flat_map pickles_of_one (scenarios_under f rule ss)
unfolding pickles_of_one
of_scenarios f rule [] = refl
of_scenarios f rule (s ∷ ss) = ap (λ ps. scenario_pickles (inherited_in f rule) s ++ ps) (of_scenarios f rule ss)

of_rules : (f : Feature) (rs : List Rule) → flat_map (rule_pickles f) rs ≡ flat_map pickles_of_one (flat_map (rule_scenarios f) rs)
of_rules f [] = refl
of_rules f (r ∷ rs) =
    ap (λ ps. ps ++ flat_map (rule_pickles f) rs) (of_scenarios f (Some r) r.scenarios)
    ∙ ap (λ ps. flat_map pickles_of_one (rule_scenarios f r) ++ ps) (of_rules f rs)
    ∙ sym (flat_map-append pickles_of_one (rule_scenarios f r) (flat_map (rule_scenarios f) rs))

of_feature : (o : Option Feature) → pickles_in o ≡ flat_map pickles_of_one (scenarios_in o)
of_feature None = refl
of_feature (Some f) =
    ap (λ ps. ps ++ flat_map (rule_pickles f) f.rules) (of_scenarios f None f.scenarios)
    ∙ ap (λ ps. flat_map pickles_of_one (scenarios_under f None f.scenarios) ++ ps) (of_rules f f.rules)
    ∙ sym (flat_map-append pickles_of_one (scenarios_under f None f.scenarios) (flat_map (rule_scenarios f) f.rules))

pub scenario_by_scenario : PicklesScenarioByScenario
unfolding pickles scenarios_of
scenario_by_scenario d = of_feature d.feature
