use Rattle.ck_command_line.specs.CommandLine.{ask_parse}
use Rattle.ck_commands.specs.Output.{report_made}
use Rattle.ck_commands.proofs.Compiles.{feature_is_reported, if_ok}
use Rattle.ck_commands.proofs.Printing.{made_is}
use Rattle.ck_commands.proofs.Ran.{runs_of}
use Rattle.ck_commands.proofs.command_feature.print_feature.Goals as goal

pub returns : goal.returns
returns g c =
    let read = c.read_document-read.ensures in
    runs_of ask_parse (report_made c.parse_report-report.result) _ _ _ _ _ c.write_report.ensures
    (feature_is_reported c.read_document-read.result _ _ _ read.feature (if_ok c.read_document-read.result read.whole) read.heard read.failures
    (made_is c.parse_report-report.result _ c.parse_report-report.ensures.text c.parse_report-report.ensures.status))
