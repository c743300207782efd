use Rattle.std.proofs.Common.{map, take}
use Rattle.ck_commands.specs.FilesKept.{file_of}
use Rattle.ck_commands.proofs.AskedLemmas.{AsksSoFar}
use Rattle.ck_commands.proofs.command_gate_features.asked_feature_files.Given as goal

abbrev pub invariant-loop-file : goal.invariant-loop-file
invariant-loop-file l = AsksSoFar (map file_of (take l.file-index l.files)) (map (λ f. file_of f.now) l.asked.items) l.marks
