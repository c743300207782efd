use Rattle.ck_commands.proofs.Delivering.{delivered, not_flushed}
use Rattle.ck_commands.proofs.report.flush_text.Goals as goal

pub returns-in-Ok : goal.returns-in-Ok
returns-in-Ok g c before text wrote none =
    let passed = c.in-Ok.ensures in
    delivered (record { text = text; status = c.args.status }) _ _ _ _ c.code.ensures wrote none passed.taken passed.shown passed.failures

pub returns-in-Err : goal.returns-in-Err
returns-in-Err g c before text wrote none =
    let passed = c.in-Err.ensures in
    not_flushed (record { text = text; status = c.args.status }) _ _ _ _ c.code-in-Err.ensures wrote none passed.taken passed.shown passed.failures
