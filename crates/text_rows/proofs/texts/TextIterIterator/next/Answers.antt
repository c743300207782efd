use Rattle.std.proofs.Common.{subst}
use Rattle.text_rows.specs.Pieces.{AreTexts}
use Rattle.text_rows.proofs.PieceLemmas.{first_end}
use Rattle.text_rows.proofs.texts.TextIterIterator.next.Goals as goal

pub split_at-requires : goal.split_at-requires
split_at-requires c =
    first_end c.in_ok-length.length.now c.in_ok-length.lengths.now c.self.inside.bytes.now
    (subst (λ ns. AreTexts ns c.self.inside.bytes.now) c.in_ok-length.ensures.cases.0 c.self.invariant)
