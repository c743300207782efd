use Rattle.std.proofs.Common.{◌≡◌, ◌++◌, map, string_bytes, take}
use Rattle.std.specs.List.{flat_map}
use Rattle.feature_paths.specs.Shown.{fault_in, faulty, file_in, folder_in}
use Rattle.feature_paths.proofs.paths.Found.take_entries.Given as goal

abbrev pub invariant-loop-entry : goal.invariant-loop-entry
invariant-loop-entry l = record {
  files : map string_bytes l.self.files.items ≡ map string_bytes l.fn.self.files.items ++ flat_map (file_in l.folder) (take l.entry-index l.entries);
  faults : map faulty l.self.faults.items ≡ map faulty l.fn.self.faults.items ++ flat_map (fault_in l.folder) (take l.entry-index l.entries);
  folders : map string_bytes l.self.folders.items ≡ map string_bytes l.fn.self.folders.items ++ flat_map (folder_in l.folder) (take l.entry-index l.entries);
}
