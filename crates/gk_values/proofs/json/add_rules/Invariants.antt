use Rattle.std.proofs.Common.{◌≡◌, ◌++◌, map, drop}
use Rattle.serde_json.specs.View.{view}
use Rattle.cm_messages.specs.DocumentLayout.{rule_child}
use Rattle.gk_values.proofs.json.add_rules.Given as goal

abbrev pub invariant-loop-rule : goal.invariant-loop-rule
invariant-loop-rule l =
    map view l.values.items ++ map rule_child (drop l.rule-index l.rules)
    ≡ map view l.initial.values.items ++ map rule_child l.rules
