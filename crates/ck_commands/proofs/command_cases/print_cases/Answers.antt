use Rattle.ck_command_line.specs.CommandLine.{ask_cases}
use Rattle.ck_commands.specs.Output.{report_made}
use Rattle.ck_commands.proofs.CasesPrinted.{cases_are_reported}
use Rattle.ck_commands.proofs.Ran.{runs_of}
use Rattle.ck_commands.proofs.command_cases.print_cases.Goals as goal

pub returns : goal.returns
returns g c =
    let audit = c.audit_cases-answer.ensures in
    runs_of (ask_cases c.args.settings c.args.form) (report_made c.cases_report-report.result) _ _ _ _ _ c.write_report.ensures
    (cases_are_reported c.args.settings c.args.form c.audit_cases-answer.result c.cases_report-report.result _ _ c.cases_report-report.ensures audit.same_bytes audit.at_end audit.failures)
