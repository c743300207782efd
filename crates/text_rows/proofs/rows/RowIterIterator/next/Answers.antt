use Rattle.std.proofs.Common.{subst}
use Rattle.text_rows.specs.Pieces.{AreRows}
use Rattle.text_rows.proofs.PieceLemmas.{first_row_end}
use Rattle.text_rows.proofs.rows.RowIterIterator.next.Goals as goal

pub split_at-requires-2 : goal.split_at-requires-2
split_at-requires-2 c =
    first_row_end c.in_ok-size.size.now c.in_ok-size.sizes.now c.self.inside.lengths.now c.self.inside.bytes.now
    (subst (λ rs. AreRows rs c.self.inside.lengths.now c.self.inside.bytes.now) c.in_ok-size.ensures.cases.0 c.self.invariant)
