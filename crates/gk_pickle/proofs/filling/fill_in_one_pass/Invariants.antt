use Rattle.std.proofs.Common.{◌≡◌, zero, reverse}
use Rattle.gk_pickle.specs.SinglePass.{AreWithin, nothing_read, reading_after, read_parts, work}
use Rattle.gk_pickle.proofs.filling.fill_in_one_pass.Given as goal

abbrev pub invariant-loop-part : goal.invariant-loop-part
invariant-loop-part l = record {
  within : AreWithin l.row l.parts.items;
  same : read_parts l.columns l.row (reverse l.parts.items) l.reading ≡ reading_after l.columns l.row zero l.text nothing_read;
}

abbrev pub decreases-loop-part : goal.decreases-loop-part
decreases-loop-part l = work l.row l.parts.items
