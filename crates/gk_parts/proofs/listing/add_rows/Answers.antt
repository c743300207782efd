use Rattle.std.proofs.Common.{[], ◌∷◌, map, refl}
use Rattle.gk_parts.specs.Parts.{RowPart}
use Rattle.gk_parts.proofs.Adding.{one_added, all_added}
use Rattle.gk_parts.proofs.listing.add_rows.Goals as goal

pub loop-row-preserved : goal.loop-row-preserved
loop-row-preserved c =
    one_added (map RowPart) (RowPart c.row-item.result ∷ []) _ _ _ c.args.rows.now c.loop-row.row-index c.row-item.result
    (λ _. refl) c.in_ok-add.ensures c.loop-row-test.true c.row-item.is c.loop-row.invariant

pub returns : goal.returns
returns c = all_added (map RowPart) _ _ c.args.rows.now c.loop-row.row-index refl c.loop-row-test.false c.loop-row.invariant
