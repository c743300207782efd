use Rattle.ck_command_line.specs.CommandLine.{ask_gate, over_input}
use Rattle.ck_commands.proofs.FeaturesReleased.{features_from_start}
use Rattle.ck_commands.proofs.RunsReleased.{each_from_start}
use Rattle.ck_commands.proofs.Shown.{gave_released}
use Rattle.ck_commands.proofs.commands.run_over.Goals as goal

pub returns-clause-released : goal.returns-clause-released
returns-clause-released g c = λ settings asked asks zero.
    gave_released settings asked _ _ _ _ c.new-source.ensures.heard ((c.run_with-code.ensures.asked (over_input (ask_gate settings asked)) asks).2.status.done zero)

pub returns-clause-each_released : goal.returns-clause-each_released
returns-clause-each_released g c = λ r asks zero.
    each_from_start r _ _ _ _ c.new-source.ensures.heard c.new-source.ensures.over c.new-source.ensures.failures (c.run_with-code.ensures.released r asks zero)

pub returns-clause-features_released : goal.returns-clause-features_released
returns-clause-features_released g c = λ r asks zero.
    features_from_start r _ _ _ _ _ _ c.new-source.ensures.heard c.new-source.ensures.over c.new-source.ensures.failures (c.run_with-code.ensures.features_released r asks zero)
