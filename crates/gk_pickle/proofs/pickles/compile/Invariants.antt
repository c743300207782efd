use Rattle.std.proofs.Common.{◌≡◌, ◌++◌, drop}
use Rattle.std.specs.List.{flat_map}
use Rattle.gk_pickle.specs.Scenarios.{pickles_of_one}
use Rattle.gk_pickle.proofs.pickles.compile.Given as goal

abbrev pub invariant-loop-scenario : goal.invariant-loop-scenario
invariant-loop-scenario l =
    l.pickles.items ++ flat_map pickles_of_one (drop l.scenario-index l.scenario-items) ≡ flat_map pickles_of_one l.scenario-items
