use Rattle.std.proofs.Common.{◌∙◌}
use Rattle.cm_audit.proofs.Following.{at_end_with, failed_with, last_with, watched_audit}
use Rattle.cm_audit.proofs.auditing.audit_watched.Goals as goal

pub returns-clause-same_bytes : goal.returns-clause-same_bytes
returns-clause-same_bytes g c =
    let judged = c.audit_lines-audited in
    rw c.with_watch.ensures (watched_audit c.args.settings g.W.Watch.follows judged.new.judging.watch judged.new.judging.last judged.new.judging.state judged.result _ _ judged.ensures.judged)

pub returns-clause-at_end : goal.returns-clause-at_end
returns-clause-at_end g c =
    let judged = c.audit_lines-audited in
    rw c.with_watch.ensures (at_end_with (g.R.ByteSource.input judged.new.source) judged.result judged.new.judging.watch _ _ judged.ensures.at_end)

pub returns-clause-failures : goal.returns-clause-failures
returns-clause-failures g c =
    let judged = c.audit_lines-audited in
    rw (c.with_watch.ensures, failed_with judged.result judged.new.judging.watch judged.new.judging.last judged.new.judging.state) judged.ensures.failures

pub returns-clause-wanted : goal.returns-clause-wanted
returns-clause-wanted g c =
    let judged = c.audit_lines-audited in
    rw c.with_watch.ensures (λ wants. last_with judged.result judged.new.judging.watch judged.new.judging.last judged.new.judging.state (judged.ensures.wanted (c.wants_last-wants_last.ensures ∙ wants)))
