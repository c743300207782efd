use Rattle.std.proofs.Common.{◌≡◌, subst, string_bytes}
use Rattle.ck_command_line.specs.CommandLine.{ask_compile}
use Rattle.ck_commands.specs.Features.{fault_report}
use Rattle.ck_commands.specs.Output.{DeliversOne}
use Rattle.ck_commands.specs.Run.{ReportsCompiled}
use Rattle.ck_commands.proofs.Compiles.{fault_is_reported, text_is_reported}
use Rattle.ck_commands.proofs.Ran.{runs_of}
use Rattle.ck_commands.proofs.command_feature.print_compiled.Goals as goal

pub returns-in-Ok : goal.returns-in-Ok
returns-in-Ok g c =
    let uri = c.args.uri.now in
    let d = subst (λ x. DeliversOne (ReportsCompiled uri x) c.compile_text.result (g.W.ByteSink.output c.args.sink.now) (g.W.ByteSink.output c.compile_text.new.sink)) c.as_str.ensures.value c.compile_text.ensures in
    runs_of (ask_compile uri) d.0 _ _ _ _ _ d.2 (text_is_reported uri (string_bytes c.in-Ok.text) d.0 _ _ c.in-Ok.ensures.ok c.in-Ok.ensures.failures d.1)

pub returns-in-Err : goal.returns-in-Err
returns-in-Err g c =
    let uri = c.args.uri.now in
    let d = subst (λ f. DeliversOne (λ r. r ≡ fault_report f) c.print_feature_fault.result (g.W.ByteSink.output c.args.sink.now) (g.W.ByteSink.output c.print_feature_fault.new.sink)) c.from.ensures c.print_feature_fault.ensures in
    runs_of (ask_compile uri) d.0 _ _ _ _ _ d.2 (fault_is_reported uri c.in-Err.fault d.0 _ _ c.in-Err.ensures.fault c.in-Err.ensures.failures d.1)
