use Rattle.std.proofs.Common.{◌≡◌, ◌++◌, drop}
use Rattle.std.specs.List.{flat_map}
use Rattle.gk_pickle.specs.Scenarios.{rule_scenarios}
use Rattle.gk_pickle.proofs.pickles.scenarios.Given as goal

abbrev pub invariant-loop-rule : goal.invariant-loop-rule
invariant-loop-rule l =
    l.found.items ++ flat_map (rule_scenarios l.feature) (drop l.rule-index l.feature.rules)
    ≡ l.initial.found.items ++ flat_map (rule_scenarios l.feature) l.feature.rules
