use Rattle.std.proofs.Common.{◌≡◌, map, string_bytes}
use Rattle.feature_paths.specs.Shown.{faulty}
use Rattle.feature_paths.specs.Walking.{Sees}
use Rattle.feature_paths.proofs.paths.walk.Given as goal

abbrev pub invariant-walk : goal.invariant-walk
invariant-walk g l = record {
  seen : Sees l.path (g.F.Files.looks l.fn.files) (g.F.Files.looks l.files) (map string_bytes l.found.files.items) (map faulty l.found.faults.items) (map string_bytes l.found.folders.items);
  openings : g.F.Files.openings l.files ≡ g.F.Files.openings l.fn.files;
}
