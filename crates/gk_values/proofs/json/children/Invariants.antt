use Rattle.std.proofs.Common.{◌≡◌, ◌++◌, map, drop}
use Rattle.serde_json.specs.View.{view}
use Rattle.cm_messages.specs.DocumentLayout.{scenario_child, children_data}
use Rattle.gk_values.proofs.json.children.Given as goal

abbrev pub invariant-loop-scenario : goal.invariant-loop-scenario
invariant-loop-scenario l =
    map view l.values.items ++ map scenario_child (drop l.scenario-index l.scenarios)
    ≡ children_data l.background l.scenarios
