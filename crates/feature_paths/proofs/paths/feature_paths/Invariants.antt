use Rattle.std.proofs.Common.{◌≡◌, map, string_bytes, take}
use Rattle.feature_paths.specs.FeaturePaths.{WalksAll}
use Rattle.feature_paths.proofs.paths.feature_paths.Given as goal

abbrev pub invariant-loop-path : goal.invariant-loop-path
invariant-loop-path g l = record {
  walks : WalksAll (map (λ path. path.now) (take l.path-index l.paths)) (g.F.Files.looks l.fn.files) (g.F.Files.looks l.files) (map string_bytes l.found.items);
  openings : g.F.Files.openings l.files ≡ g.F.Files.openings l.fn.files;
}
