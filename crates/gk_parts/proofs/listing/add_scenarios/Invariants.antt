use Rattle.std.proofs.Common.{◌≡◌, ◌++◌, drop, map}
use Rattle.std.specs.List.{flat_map}
use Rattle.gk_parts.specs.Parts.{part_view, scenario_parts}
use Rattle.gk_parts.proofs.listing.add_scenarios.Given as goal

abbrev pub invariant-loop-scenario : goal.invariant-loop-scenario
invariant-loop-scenario l =
    map part_view l.made.items ++ flat_map scenario_parts (drop l.scenario-index l.scenarios)
    ≡ map part_view l.initial.made.items ++ flat_map scenario_parts l.scenarios
