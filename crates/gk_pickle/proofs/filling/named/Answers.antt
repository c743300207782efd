use Rattle.gk_pickle.proofs.Named.{one_taken}
use Rattle.gk_pickle.proofs.filling.named.Goals as goal

pub loop-column-preserved : goal.loop-column-preserved
loop-column-preserved c =
    λ name. one_taken name _ _ _ _ _ _ c.loop-column-test.true c.index-header-column.is c.as_str.ensures (c.loop-column.invariant name) (c.in_ok-add_column.ensures name)
