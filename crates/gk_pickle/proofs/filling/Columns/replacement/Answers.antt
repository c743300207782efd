use Rattle.std.proofs.Common.{sym}
use Rattle.gk_pickle.proofs.Named.{of_name, of_name_rise, replaced_by, none_replaced}
use Rattle.gk_pickle.proofs.filling.Columns.replacement.Goals as goal

pub first_from-requires : goal.first_from-requires
first_from-requires c =
    of_name_rise c.args.name.now c.self.inside.header.now c.as_slice.result.now
    (of_name _ c.self.inside.named c.self.inside.header.now c.args.name.now c.in_ok-columns.columns.now c.as_slice.result.now c.self.invariant.0 c.in_ok-columns.ensures.value c.as_slice.ensures.value)

pub returns-in_err-cell-clause-found : goal.returns-in_err-cell-clause-found
returns-in_err-cell-clause-found c =
    rw (c.from_residual-in_err-cell.ensures, ← c.self.view_is)
    (none_replaced c.self.inside.header.now c.args.row.now c.args.done c.in_ok-column.column c.args.name.now c.as_slice.result.now
    (of_name _ c.self.inside.named c.self.inside.header.now c.args.name.now c.in_ok-columns.columns.now c.as_slice.result.now c.self.invariant.0 c.in_ok-columns.ensures.value c.as_slice.ensures.value)
    c.in_ok-column.ensures (sym c.in_err-cell.ensures.lookup.0))

pub returns-clause-found : goal.returns-clause-found
returns-clause-found c =
    rw (← c.self.view_is)
    (replaced_by c.self.inside.header.now c.args.row.now c.args.done c.in_ok-column.column c.args.name.now c.as_slice.result.now _ c.in_ok-cell.cell.now
    (of_name _ c.self.inside.named c.self.inside.header.now c.args.name.now c.in_ok-columns.columns.now c.as_slice.result.now c.self.invariant.0 c.in_ok-columns.ensures.value c.as_slice.ensures.value)
    c.in_ok-column.ensures (sym c.in_ok-cell.ensures.lookup.0) c.in_ok-cell.ensures.lookup.1 c.as_str.ensures)
