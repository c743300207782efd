use Rattle.std.proofs.Common.{refl}
use Rattle.std.proofs.lemmas.Result.{IfOk-weaker}
use Rattle.clap.specs.Words.{AddsArg}
use Rattle.clap.specs.declared.builder.command.Command.{Command}
use Rattle.ck_command_line.proofs.Arguments.{more}
use Rattle.ck_command_line.proofs.command_line.with_settings.Goals as goal

pub returns : goal.returns
returns c =
    let one = more _ _ _ _ _ c.in_ok-arg.ensures (refl, c.requires.local) c.flag.ensures.rule c.flag.ensures.local in
    let two = more _ _ _ _ _ c.in_ok-arg-2.ensures one c.attempts_argument.ensures.rule c.attempts_argument.ensures.local in
    let three = λ (new : Command) (adds : AddsArg c.in_ok-arg-2.field-0 c.flag-2.result new). more _ new _ _ _ adds two c.flag-2.ensures.rule c.flag-2.ensures.local in
    record { app = IfOk-weaker c.arg-3.result _ _ (λ r h. (three r h).0) c.arg-3.ensures; local = IfOk-weaker c.arg-3.result _ _ (λ r h. (three r h).1) c.arg-3.ensures }
