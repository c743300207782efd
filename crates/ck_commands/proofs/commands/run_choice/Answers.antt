use Rattle.cm_stream.specs.Release.{conditions_of}
use Rattle.ck_commands.proofs.Choices.{features_leave}
use Rattle.ck_commands.proofs.commands.run_choice.Goals as goal

pub returns-in-GateFeatures : goal.returns-in-GateFeatures
returns-in-GateFeatures g c =
    rw c.in-GateFeatures.is
    (features_leave c.in-GateFeatures.settings (conditions_of c.in-GateFeatures.conditions) c.in-GateFeatures.features.items c.as_slice-features.result.now c.in-GateFeatures.runs.items c.as_slice-runs-in-GateFeatures.result.now c.as_slice-features.ensures.value
    c.as_slice-runs-in-GateFeatures.ensures.value _ _ _ _ _ _ _ _ _ c.print_features.ensures)
