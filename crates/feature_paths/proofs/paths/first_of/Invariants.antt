use Rattle.std.proofs.Common.{◌≡◌, map, option_map}
use Rattle.feature_paths.specs.Shown.{faulty, first_fault}
use Rattle.feature_paths.proofs.paths.first_of.Given as goal

abbrev pub invariant-loop-next : goal.invariant-loop-next
invariant-loop-next l = option_map faulty l.first ≡ first_fault (map faulty l.yielded)
