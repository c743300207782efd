use Rattle.std.proofs.Common.{map, take}
use Rattle.cm_missing.specs.Missing.{IsMissingOf}
use Rattle.cm_ran.specs.Marks.{HasWholeRows}
use Rattle.cm_stream.specs.Release.{conditions_of}
use Rattle.ck_commands.specs.FilesKept.{asked_by, file_of}
use Rattle.ck_commands.proofs.command_gate_features.missing_features.Given as goal

abbrev pub invariant-loop-file : goal.invariant-loop-file
invariant-loop-file l = HasWholeRows l.marks → IsMissingOf (conditions_of l.conditions) (map (λ f. asked_by l.marks (file_of f.now)) (take l.file-index l.asked)) l.missing
