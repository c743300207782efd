use Rattle.std.proofs.Common.{length, map, sym}
use Rattle.std.proofs.lemmas.List.{length-map}
use Rattle.cm_messages.specs.DocumentLayout.{cell_data}
use Rattle.std.proofs.lemmas.Result.{on_ok_weaker}
use Rattle.cm_messages.proofs.Sent.{array_sent}
use Rattle.cm_messages.proofs.document_message.send_document_cells_list.Goals as goal

pub returns : goal.returns
returns g c =
    let len = sym (length-map c.args.cells.now (cell_data c.args.line)) in
    on_ok_weaker c.end_seq.result (λ ended. array_sent (map (cell_data c.args.line) c.args.cells.now) (length c.args.cells.now) (g.S.Serializer.written c.args.out.now) (g.S.Serializer.written c.begin_seq.new.self)
    (g.S.Serializer.written c.send_document_cells.new.out) (g.S.Serializer.written c.end_seq.new.self) len c.in_ok-begin_seq.ensures c.in_ok-send_document_cells.ensures ended) c.end_seq.ensures
