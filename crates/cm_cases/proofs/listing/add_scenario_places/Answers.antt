use Rattle.std.proofs.Common.{◌∙◌, ap, sym, ◌++◌, ◌∷◌, [], List, map}
use Rattle.std.specs.List.{flat_map}
use Rattle.gk_document.specs.declared.tree.Examples.{Examples}
use Rattle.cm_cases.specs.Places.{example_rows, place, scenario_places}
use Rattle.cm_cases.specs.declared.listing.Place.{Place}
use Rattle.cm_cases.proofs.ListingLemmas.{head_added}
use Rattle.cm_cases.proofs.listing.add_scenario_places.Goals as goal

pub loop-scenario-preserved : goal.loop-scenario-preserved
loop-scenario-preserved c =
    let s = c.scenario-item.result in
    head_added (scenario_places c.args.ids.now) c.args.places.now c.loop-scenario.places c.push.new.self c.add_example_places.new.places _ (place c.args.ids.now s.node s.location) c.args.scenarios.now c.loop-scenario.scenario-index s
    c.loop-scenario-test.true c.scenario-item.is c.loop-scenario.invariant (c.in_ok-push.ensures.ok ∙ ap (λ (p : Place). c.loop-scenario.places ++ p ∷ []) c.in_ok-place_of.ensures) c.in_ok-add_example_places.ensures
    (ap (λ (xs : List Examples). place c.args.ids.now s.node s.location ∷ map (λ r. place c.args.ids.now r.node r.location) (flat_map (λ x. example_rows x.table) xs)) (sym c.as_slice.ensures))
