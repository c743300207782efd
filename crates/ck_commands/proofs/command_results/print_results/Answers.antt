use Rattle.ck_command_line.specs.CommandLine.{ask_results}
use Rattle.ck_commands.specs.Output.{report_made}
use Rattle.ck_commands.proofs.Printing.{made_is}
use Rattle.ck_commands.proofs.Ran.{runs_of}
use Rattle.ck_commands.proofs.ResultsPrinted.{results_are_reported}
use Rattle.ck_commands.proofs.command_results.print_results.Goals as goal

pub returns : goal.returns
returns g c =
    let read = c.read_results_attempts-read.ensures in
    runs_of (ask_results c.args.first_attempt) (report_made c.results_report-report.result) _ _ _ _ _ c.write_report.ensures
    (results_are_reported c.args.first_attempt c.read_results_attempts-read.result _ _ _ read.outcome read.whole read.failures read.no_fault (made_is c.results_report-report.result _ c.results_report-report.ensures.text c.results_report-report.ensures.status))
