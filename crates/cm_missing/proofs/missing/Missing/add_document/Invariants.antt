use Rattle.std.proofs.Common.{◌≡◌, drop, length, take}
use Rattle.std.specs.List.{flat_map}
use Rattle.cm_stream.specs.Release.{conditions_of}
use Rattle.gk_pickle.specs.Scenarios.{pickles_of_one}
use Rattle.cm_missing.specs.Missing.{asked_from}
use Rattle.cm_missing.specs.PickleLines.{lines_of_one}
use Rattle.cm_missing.specs.Told.{KeepsMore, pickles_told}
use Rattle.cm_missing.proofs.missing.Missing.add_document.Given as goal

abbrev pub invariant-loop-scenario : goal.invariant-loop-scenario
invariant-loop-scenario l =
    let before = take l.scenario-index l.scenario-items in
    record {
      kept : KeepsMore l.fn.self l.self
          (pickles_told (conditions_of l.conditions) l.path
          (asked_from l.flags 0 (flat_map pickles_of_one before) (flat_map lines_of_one before)));
      rest : l.later ≡ drop (length (flat_map pickles_of_one before)) l.flags;
    }
