use Rattle.ck_command_line.specs.CommandLine.{ask_gate}
use Rattle.cm_stream.specs.Release.{conditions_of}
use Rattle.ck_commands.specs.Output.{report_made}
use Rattle.ck_commands.proofs.Ran.{runs_of}
use Rattle.ck_commands.proofs.command_gate.print_gate.Goals as goal

pub returns : goal.returns
returns g c =
    runs_of (ask_gate c.args.settings (conditions_of c.args.conditions.now)) (report_made c.gate_report-report.result) _ _ _ _ _ c.write_report.ensures c.gate_report-report.ensures
