use Rattle.cm_stream.specs.Release.{conditions_of}
use Rattle.cm_audit_release.proofs.PartAudit.{part_failures, part_told, watched_at_end}
use Rattle.cm_audit_release.proofs.audited_release.audit_part.Goals as goal

pub returns-clause-same_bytes : goal.returns-clause-same_bytes
returns-clause-same_bytes g c =
    part_told c.args.settings (conditions_of c.args.conditions.now) _ _ c.audit_watched-watched.result c.with_judgement-judged.result c.with_marks.result _ _
    c.with_judgement-judged.ensures c.with_marks.ensures.marked c.audit_watched-watched.ensures.same_bytes

pub returns-clause-at_end : goal.returns-clause-at_end
returns-clause-at_end g c =
    watched_at_end c.args.settings (conditions_of c.args.conditions.now) c.args.marks.now c.with_marks.new.marks c.audit_watched-watched.result c.with_judgement-judged.result c.with_marks.result (g.R.ByteSource.input c.audit_watched-watched.new.source)
    c.with_judgement-judged.ensures c.with_marks.ensures.marked c.audit_watched-watched.ensures.at_end

pub returns-clause-failures : goal.returns-clause-failures
returns-clause-failures g c =
    part_failures c.args.settings (conditions_of c.args.conditions.now) c.args.marks.now c.with_marks.new.marks c.audit_watched-watched.result c.with_judgement-judged.result c.with_marks.result _ _
    c.with_judgement-judged.ensures c.with_marks.ensures.marked c.audit_watched-watched.ensures.failures
