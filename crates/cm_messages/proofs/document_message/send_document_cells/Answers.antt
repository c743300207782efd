use Rattle.std.proofs.Common.{rules}
use Rattle.cm_messages.specs.DocumentLayout.{cell_data}
use Rattle.cm_messages.proofs.Sent.{each_next}
use Rattle.cm_messages.proofs.document_message.send_document_cells.Goals as goal

pub cells-preserved : goal.cells-preserved
cells-preserved g c = λ end rest. c.cells.invariant end
    (each_next (cell_data c.args.line) c.args.cells.now c.cells.cell-index c.cell-item.result (g.S.Serializer.written c.cells.out) (g.S.Serializer.written c.send_document_cell.new.out) end (search rules) c.cell-item.is c.in_ok-send_document_cell.ensures rest)
