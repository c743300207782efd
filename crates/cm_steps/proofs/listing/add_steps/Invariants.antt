use Rattle.std.proofs.Common.{◌≡◌, ◌++◌, take}
use Rattle.std.specs.List.{flat_map}
use Rattle.cm_cases.specs.Places.{place}
use Rattle.cm_steps.specs.Kept.{place_texts}
use Rattle.cm_steps.proofs.listing.add_steps.Given as goal

abbrev pub invariant-loop-step : goal.invariant-loop-step
invariant-loop-step l = l.row ≡ l.fn.row ++ flat_map (λ s. place_texts (place l.ids s.node s.location)) (take l.step-index l.steps)
