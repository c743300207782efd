use Rattle.gk_pickle.proofs.Named.{one_more}
use Rattle.gk_pickle.proofs.filling.add_column.Goals as goal

pub returns : goal.returns
returns c =
    one_more _ c.args.named.now c.swap_remove.new.self c.insert.new.self _ _ _ _ _ _ c.swap_remove.ensures.value c.new.ensures.items c.unwrap_or-columns.ensures c.in_ok-push.ensures.items
    c.swap_remove.ensures.updates.0 c.in_ok-insert.ensures.updates.0
