use Rattle.std.proofs.Common.{◌≡◌, ◌++◌, drop}
use Rattle.std.specs.List.{flat_map}
use Rattle.gk_pickle.specs.Pickles.{examples_pickles}
use Rattle.gk_pickle.proofs.pickles.add_scenario.Given as goal

abbrev pub invariant-loop-block : goal.invariant-loop-block
invariant-loop-block l =
    l.made.items ++ flat_map (examples_pickles l.inherited l.scenario) (drop l.block-index l.examples)
    ≡ l.initial.made.items ++ flat_map (examples_pickles l.inherited l.scenario) l.examples
