use Rattle.std.proofs.Common.{◌≡◌, length}
use Rattle.cm_steps.specs.Entries.{find_line}
use Rattle.cm_steps.proofs.listing.find_line.Given as goal

abbrev pub decreases-loop-id : goal.decreases-loop-id
decreases-loop-id l = length l.texts

abbrev pub invariant-loop-id : goal.invariant-loop-id
invariant-loop-id l = find_line l.node l.texts ≡ find_line l.node l.fn.places
