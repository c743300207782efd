use Rattle.std.proofs.Common.{ap, subst, sym, ◌∙◌}
use Rattle.cm_envelope.proofs.Sources.{reads_weaker}
use Rattle.cm_stream.specs.Release.{conditions_of}
use Rattle.cm_audit_release.specs.PartAudit.{IsPartAuditOf}
use Rattle.cm_audit_release.specs.ReleaseAudit.{IsReleaseAuditOf}
use Rattle.ck_command_line.specs.CommandLine.{ask_gate}
use Rattle.ck_commands.specs.Output.{Report}
use Rattle.ck_commands.specs.Run.{IsReportOf}
use Rattle.ck_commands.proofs.GatePrinted.{gate_is_reported}
use Rattle.ck_commands.proofs.JudgedLemmas.{counts_given, judged_done}
use Rattle.ck_commands.proofs.command_gate.judge_opened_run.Goals as goal

pub returns : goal.returns
returns g c =
    let asked = conditions_of c.args.conditions.now in
    let audit = c.audit_part-answer.ensures in
    let before = g.R.ByteSource.input c.args.source.now in
    let after = g.R.ByteSource.input c.audit_part-answer.new.source in
    let old = c.args.marks.now in
    let new = c.audit_part-answer.new.marks in
    let answer = c.audit_part-answer.result in
    let report = c.gate_report_of-report.result in
    let same = c.with_gate_counts.ensures.report in
    let alone = reads_weaker {P = IsPartAuditOf c.args.settings asked old new answer} {Q = IsReleaseAuditOf c.args.settings asked answer} before after audit.same_bytes (λ xs ys p. p.release) in
    record {
      reported = subst (λ (r : Report). IsReportOf (ask_gate c.args.settings asked) r before after) (sym same)
          (gate_is_reported c.args.settings asked answer report before after c.gate_report_of-report.ensures alone audit.at_end audit.failures);
      texts = audit.texts;
      done = λ done.
          let w = judged_done c.args.settings asked old new answer report before after c.gate_report_of-report.ensures (ap (λ (r : Report). r.status) (sym same) ∙ done) audit.same_bytes audit.at_end in
          record {
            es = w.3.0;
            gives = (w.0, w.1, w.2, w.3.1);
            marked = w.3.2;
            counted = counts_given c.with_gate_counts.result c.gate_counts_of-counts.result c.with_gate_counts.ensures.counts done ∙ c.gate_counts_of-counts.ensures ∙ w.3.3;
          };
    }
