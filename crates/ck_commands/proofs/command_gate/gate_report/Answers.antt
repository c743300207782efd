use Rattle.cm_stream.specs.Release.{conditions_of}
use Rattle.ck_commands.proofs.GatePrinted.{gate_is_reported}
use Rattle.ck_commands.proofs.command_gate.gate_report.Goals as goal

pub returns : goal.returns
returns g c =
    let audit = c.audit_release-answer.ensures in
    gate_is_reported c.args.settings (conditions_of c.args.conditions.now) c.audit_release-answer.result c.gate_report_of-report.result _ _ c.gate_report_of-report.ensures audit.same_bytes audit.at_end audit.failures
