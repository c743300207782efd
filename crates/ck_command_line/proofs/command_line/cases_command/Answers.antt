use Rattle.std.proofs.Common.{ap, ◌∙◌}
use Rattle.std.proofs.lemmas.Result.{IfOk-weaker}
use Rattle.clap.specs.Words.{App}
use Rattle.ck_command_line.specs.CommandLine.{settings_rules, with_rules}
use Rattle.ck_command_line.proofs.Arguments.{more}
use Rattle.ck_command_line.proofs.command_line.cases_command.Goals as goal

pub returns : goal.returns
returns c =
    let one = more _ _ _ _ _ c.in_ok-command.ensures (c.new_command-bare.ensures.app, c.new_command-bare.ensures.local) c.flag.ensures.rule c.flag.ensures.local in
    record { app = IfOk-weaker c.with_settings.result _ _ (λ r h. h ∙ ap (λ (a : App). with_rules a settings_rules) one.0) c.with_settings.ensures.app; local = c.with_settings.ensures.local }
