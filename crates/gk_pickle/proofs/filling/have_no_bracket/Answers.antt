use Rattle.std.proofs.Common.{sym, ◌∙◌}
use Rattle.gk_pickle.proofs.Plain.{nothing_found, one_less}
use Rattle.gk_pickle.proofs.filling.have_no_bracket.Goals as goal

pub loop-cell-preserved : goal.loop-cell-preserved
loop-cell-preserved c rest = c.loop-cell.invariant (one_less c.args.cells.now c.loop-cell.cell-index c.cell-item.result c.loop-cell-test.true c.cell-item.is (nothing_found c.as_bytes.result.now _ c.memchr2.result (c.as_bytes.ensures.value ∙ c.as_str.ensures) c.memchr2.ensures (sym c.is_some.ensures ∙ c.if-is_some.false)) rest)
