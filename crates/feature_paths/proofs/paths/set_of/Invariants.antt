use Rattle.std.proofs.Common.{◌≡◌, map, string_bytes}
use Rattle.feature_paths.specs.FeaturePaths.{each_once}
use Rattle.feature_paths.proofs.paths.set_of.Given as goal

abbrev pub invariant-loop-text : goal.invariant-loop-text
invariant-loop-text l = map string_bytes l.set.keys ≡ each_once (map string_bytes l.yielded)
