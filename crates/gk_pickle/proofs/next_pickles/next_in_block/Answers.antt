use Rattle.std.proofs.Common.{arith, sym}
use Rattle.gk_pickle.specs.Scenarios.{inherited_in}
use Rattle.gk_pickle.proofs.PlaceLemmas.{next_row}
use Rattle.gk_pickle.proofs.next_pickles.next_in_block.Goals as goal

pub returns : goal.returns
returns c =
    let within = c.if-row-rows.false in
    let s = c.args.scenario.now in
    rw c.of.ensures
    (next_row (inherited_in s.feature s.rule) s.scenario c.args.block.now c.in_ok-table.table.now c.as_slice-rows.result.now c.args.row.now c.index-rows-row.result c.as_slice-tags.result.now
    (sym c.in_ok-table.ensures.value) c.as_slice-rows.ensures (omega (arith, within)) c.index-rows-row.is c.as_slice-tags.ensures)
