use Rattle.std.proofs.Common.{◌≡◌, ◌++◌, take}
use Rattle.std.specs.List.{flat_map}
use Rattle.cm_cases.specs.Places.{scenario_places}
use Rattle.cm_cases.proofs.listing.add_rule_places.Given as goal

abbrev pub invariant-loop-rule : goal.invariant-loop-rule
invariant-loop-rule l = l.places ≡ l.fn.places ++ flat_map (scenario_places l.ids) (flat_map (λ r. r.scenarios) (take l.rule-index l.rules))
