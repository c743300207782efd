use Rattle.std.proofs.Common.{take}
use Rattle.cm_stream.specs.Release.{conditions_of}
use Rattle.cm_missing.specs.Missing.{asked_from}
use Rattle.cm_missing.specs.Told.{KeepsMore, pickles_told}
use Rattle.cm_missing.proofs.missing.Missing.add_pickles.Given as goal

abbrev pub invariant-loop-place : goal.invariant-loop-place
invariant-loop-place l =
    KeepsMore l.fn.self l.self
    (pickles_told (conditions_of l.conditions) l.path (asked_from l.flags 0 (take l.place l.pickles) (take l.place l.lines)))
