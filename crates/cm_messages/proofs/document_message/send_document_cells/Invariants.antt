use Rattle.std.proofs.Common.{map, drop}
use Rattle.serde.specs.Event.{Log, WritesEach}
use Rattle.serde_json.specs.Events.{SendsValue}
use Rattle.cm_messages.specs.DocumentLayout.{cell_data}
use Rattle.cm_messages.proofs.document_message.send_document_cells.Given as goal

-- what ends it well from here ends it well from the start
abbrev pub invariant-cells : goal.invariant-cells
invariant-cells g l =
    (end : Log) → WritesEach SendsValue (map (cell_data l.line) (drop l.cell-index l.cells)) (g.S.Serializer.written l.out) end
    → WritesEach SendsValue (map (cell_data l.line) l.cells) (g.S.Serializer.written l.initial.out) end
