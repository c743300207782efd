use Rattle.std.proofs.Common.{refl}
use Rattle.std.specs.List.{flat_map}
use Rattle.gk_parts.specs.Parts.{rule_parts}
use Rattle.gk_parts.proofs.Adding.{one_added, all_added}
use Rattle.gk_parts.proofs.listing.add_rules.Goals as goal

pub loop-rule-preserved : goal.loop-rule-preserved
loop-rule-preserved c =
    one_added (flat_map rule_parts) (rule_parts c.rule-item.result) _ _ _ c.args.rules.now c.loop-rule.rule-index c.rule-item.result
    (λ _. refl) c.in_ok-add_rule.ensures c.loop-rule-test.true c.rule-item.is c.loop-rule.invariant

pub returns : goal.returns
returns c = all_added (flat_map rule_parts) _ _ c.args.rules.now c.loop-rule.rule-index refl c.loop-rule-test.false c.loop-rule.invariant
