use Rattle.std.proofs.Common.{◌≡◌, map, take}
use Rattle.gk_parts.specs.Parts.{part_view_alone}
use Rattle.gk_parts.proofs.listing.first_unlike.Given as goal

abbrev pub invariant-loop-i : goal.invariant-loop-i
invariant-loop-i l = map part_view_alone (take l.i l.expected) ≡ map part_view_alone (take l.i l.found)
