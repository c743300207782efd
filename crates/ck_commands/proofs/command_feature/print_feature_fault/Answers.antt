use Rattle.ck_commands.specs.Output.{report_made}
use Rattle.ck_commands.proofs.Printing.{made_is}
use Rattle.ck_commands.proofs.command_feature.print_feature_fault.Goals as goal

pub returns : goal.returns
returns g c = (report_made c.feature_fault_report.result, made_is c.feature_fault_report.result _ c.feature_fault_report.ensures.text c.feature_fault_report.ensures.status, c.write_report.ensures)
