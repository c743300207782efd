use Rattle.std.proofs.Common.{◌≡◌, ◌++◌, take}
use Rattle.std.specs.List.{flat_map}
use Rattle.cm_cases.specs.Places.{place}
use Rattle.cm_steps.specs.Kept.{place_texts}
use Rattle.cm_steps.proofs.listing.add_scenarios.Given as goal

abbrev pub invariant-loop-scenario : goal.invariant-loop-scenario
invariant-loop-scenario l =
    l.row ≡ l.fn.row ++ flat_map (λ s. place_texts (place l.ids s.node s.location)) (flat_map (λ s. s.steps) (take l.scenario-index l.scenarios))
