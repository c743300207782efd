use Rattle.std.proofs.Common.{◌≡◌, ◌+◌, length}
use Rattle.cm_source_reasons.proofs.source_reasons.count_of.Given as goal

abbrev pub invariant-loop-due : goal.invariant-loop-due
invariant-loop-due l = l.count + length l.due ≡ length l.initial.due

abbrev pub decreases-loop-due : goal.decreases-loop-due
decreases-loop-due l = length l.due
