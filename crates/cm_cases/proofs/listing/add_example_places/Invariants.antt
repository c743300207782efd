use Rattle.std.proofs.Common.{◌≡◌, ◌++◌, map, take}
use Rattle.std.specs.List.{flat_map}
use Rattle.cm_cases.specs.Places.{example_rows, place}
use Rattle.cm_cases.proofs.listing.add_example_places.Given as goal

abbrev pub invariant-loop-block : goal.invariant-loop-block
invariant-loop-block l =
    l.places ≡ l.fn.places ++ map (λ r. place l.ids r.node r.location) (flat_map (λ x. example_rows x.table) (take l.block-index l.examples))
