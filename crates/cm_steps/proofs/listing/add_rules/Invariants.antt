use Rattle.std.proofs.Common.{◌≡◌, ◌++◌, take}
use Rattle.std.specs.List.{flat_map}
use Rattle.cm_cases.specs.Places.{place}
use Rattle.cm_steps.specs.Kept.{place_texts}
use Rattle.cm_steps.specs.Steps.{steps_within}
use Rattle.cm_steps.proofs.listing.add_rules.Given as goal

abbrev pub invariant-loop-rule : goal.invariant-loop-rule
invariant-loop-rule l =
    l.row ≡ l.fn.row ++ flat_map (λ s. place_texts (place l.ids s.node s.location)) (flat_map (λ r. steps_within r.background r.scenarios) (take l.rule-index l.rules))
