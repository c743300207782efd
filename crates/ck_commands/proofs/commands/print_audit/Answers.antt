use Rattle.ck_command_line.specs.CommandLine.{ask_audit}
use Rattle.ck_commands.specs.Output.{report_made}
use Rattle.ck_commands.proofs.AuditsPrinted.{audit_is_reported}
use Rattle.ck_commands.proofs.Printing.{made_is}
use Rattle.ck_commands.proofs.Ran.{runs_of}
use Rattle.ck_commands.proofs.commands.print_audit.Goals as goal

pub returns : goal.returns
returns g c =
    runs_of (ask_audit c.args.settings) (report_made c.verdict_report.result) _ _ _ _ _ c.write_report.ensures
    (audit_is_reported c.args.settings c.audit_run-answer.result _ _ _ c.audit_run-answer.ensures.all (made_is c.verdict_report.result _ c.verdict_report.ensures.text c.verdict_report.ensures.status))
