use Rattle.std.proofs.Common.{ap, ◌∙◌, codes}
use Rattle.std.proofs.lemmas.Result.{IfOk-weaker}
use Rattle.clap.specs.Words.{App, new_app}
use Rattle.ck_command_line.specs.CommandLine.{settings_rules, with_rules}
use Rattle.ck_command_line.proofs.Arguments.{all_more}
use Rattle.ck_command_line.proofs.command_line.gate_command.Goals as goal

pub returns : goal.returns
returns c =
    let all = all_more _ _ _ _ c.in_ok-command.ensures (c.new_command-bare.ensures.app, c.new_command-bare.ensures.local) c.in_ok-arguments.ensures.local in
    let is = all.0 ∙ ap (with_rules (new_app (codes "gate"))) c.in_ok-arguments.ensures.rules in
    record { app = IfOk-weaker c.with_settings.result _ _ (λ r h. h ∙ ap (λ (a : App). with_rules a settings_rules) is) c.with_settings.ensures.app; local = c.with_settings.ensures.local }

pub with_settings-requires : goal.with_settings-requires
with_settings-requires c =
    let all = all_more _ _ _ _ c.in_ok-command.ensures (c.new_command-bare.ensures.app, c.new_command-bare.ensures.local) c.in_ok-arguments.ensures.local in
    record { local = all.1 }
