use Rattle.std.proofs.Common.{◌≡◌, ◌++◌, map, take}
use Rattle.cm_cases.specs.Places.{place}
use Rattle.cm_cases.proofs.listing.add_row_places.Given as goal

abbrev pub invariant-loop-row : goal.invariant-loop-row
invariant-loop-row l = l.places ≡ l.fn.places ++ map (λ r. place l.ids r.node r.location) (take l.row-index l.rows)
