use Rattle.std.proofs.Common.{◌∙◌, ap, refl, sym}
use Rattle.std.specs.List.{flat_map}
use Rattle.gk_pickle.specs.Scenarios.{pickles_of_one}
use Rattle.gk_pickle.proofs.InTurn.{scenario_by_scenario}
use Rattle.gk_pickle.proofs.Made.{all_made}
use Rattle.gk_pickle.proofs.pickles.compile.Goals as goal

pub returns : goal.returns
returns c =
    all_made (flat_map pickles_of_one) _ _ _ _ refl c.loop-scenario-test.false c.loop-scenario.invariant
    ∙ ap (flat_map pickles_of_one) (c.as_slice-scenario-items.ensures.value ∙ c.in_ok-scenarios.ensures)
    ∙ sym (scenario_by_scenario c.args.document.now)
