use Rattle.std.proofs.Common.{refl}
use Rattle.std.specs.List.{flat_map}
use Rattle.gk_parts.specs.Parts.{scenario_parts}
use Rattle.gk_parts.proofs.Adding.{one_added, all_added}
use Rattle.gk_parts.proofs.listing.add_scenarios.Goals as goal

pub loop-scenario-preserved : goal.loop-scenario-preserved
loop-scenario-preserved c =
    one_added (flat_map scenario_parts) (scenario_parts c.scenario-item.result) _ _ _ c.args.scenarios.now c.loop-scenario.scenario-index c.scenario-item.result
    (λ _. refl) c.in_ok-add_scenario.ensures c.loop-scenario-test.true c.scenario-item.is c.loop-scenario.invariant

pub returns : goal.returns
returns c = all_added (flat_map scenario_parts) _ _ c.args.scenarios.now c.loop-scenario.scenario-index refl c.loop-scenario-test.false c.loop-scenario.invariant
