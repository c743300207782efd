use Rattle.std.proofs.Common.{◌≡◌, ◌++◌, drop, option_map}
use Rattle.gk_pickle.specs.Scenarios.{scenarios_under}
use Rattle.gk_pickle.proofs.pickles.add_scenarios.Given as goal

abbrev pub invariant-loop-scenario : goal.invariant-loop-scenario
invariant-loop-scenario l =
    let rule = option_map (λ r. r.now) l.rule in
    l.found.items ++ scenarios_under l.feature rule (drop l.scenario-index l.scenarios)
    ≡ l.initial.found.items ++ scenarios_under l.feature rule l.scenarios
