use Rattle.std.proofs.Common.{◌≡◌, ◌++◌, drop, map}
use Rattle.std.specs.List.{flat_map}
use Rattle.gk_parts.specs.Parts.{part_view, rule_parts}
use Rattle.gk_parts.proofs.listing.add_rules.Given as goal

abbrev pub invariant-loop-rule : goal.invariant-loop-rule
invariant-loop-rule l =
    map part_view l.made.items ++ flat_map rule_parts (drop l.rule-index l.rules)
    ≡ map part_view l.initial.made.items ++ flat_map rule_parts l.rules
