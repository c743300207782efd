use Rattle.cm_ran.proofs.RowLemmas.{flag_added}
use Rattle.cm_ran.proofs.marks.add_flag.Goals as goal

pub returns : goal.returns
returns c =
    flag_added _ c.args.rows.now c.swap_remove.new.self c.insert.new.self _ _ _ _ _ _ c.swap_remove.ensures.value c.new.ensures.items c.unwrap_or-row.ensures c.in_ok-push.ensures.items
    c.swap_remove.ensures.updates.0 c.in_ok-insert.ensures.updates.0
