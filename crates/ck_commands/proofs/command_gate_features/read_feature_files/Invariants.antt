use Rattle.std.proofs.Common.{◌≡◌, map, string_bytes, take}
use Rattle.ck_commands.specs.FeatureFiles.{ReadsFiles}
use Rattle.ck_commands.specs.FilesKept.{file_of}
use Rattle.ck_commands.proofs.command_gate_features.read_feature_files.Given as goal

abbrev pub invariant-loop-path : goal.invariant-loop-path
invariant-loop-path g l = record {
  read : ReadsFiles (map string_bytes (take l.path-index l.paths)) (g.F.Files.openings l.fn.files) (g.F.Files.openings l.files) (map file_of l.found.items);
  looks : g.F.Files.looks l.files ≡ g.F.Files.looks l.fn.files;
}
