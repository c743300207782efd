use Rattle.std.proofs.Common.{◌≡◌, ◌++◌, take}
use Rattle.std.specs.List.{flat_map}
use Rattle.cm_cases.specs.Places.{scenario_places}
use Rattle.cm_cases.proofs.listing.add_scenario_places.Given as goal

abbrev pub invariant-loop-scenario : goal.invariant-loop-scenario
invariant-loop-scenario l = l.places ≡ l.fn.places ++ flat_map (scenario_places l.ids) (take l.scenario-index l.scenarios)
