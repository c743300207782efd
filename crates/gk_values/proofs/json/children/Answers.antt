use Rattle.cm_messages.specs.DocumentLayout.{scenario_child}
use Rattle.gk_values.proofs.Written.{one_written}
use Rattle.gk_values.proofs.json.children.Goals as goal

pub loop-scenario-preserved : goal.loop-scenario-preserved
loop-scenario-preserved c =
    one_written scenario_child _ _ _ _ _ _ _ c.in_ok-push-2.ensures.items c.in_ok-value-2.ensures c.loop-scenario-test.true c.scenario-item.is c.loop-scenario.invariant
