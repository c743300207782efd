use Rattle.cm_messages.specs.DocumentLayout.{rule_child}
use Rattle.gk_values.proofs.Written.{one_written}
use Rattle.gk_values.proofs.json.add_rules.Goals as goal

pub loop-rule-preserved : goal.loop-rule-preserved
loop-rule-preserved c = one_written rule_child _ _ _ _ _ _ _ c.in_ok-push.ensures.items c.in_ok-value.ensures c.loop-rule-test.true c.rule-item.is c.loop-rule.invariant
