use Rattle.std.proofs.lemmas.Result.{on_ok_weaker}
use Rattle.cm_messages.proofs.document_message.RowSendJsonMessageLayout.send.Goals as goal

pub returns : goal.returns
returns g c = on_ok_weaker c.end_map.result (λ ended. (
  g.S.Serializer.written c.begin_map.new.self,
  c.in_ok-begin_map.ensures,
  (
    c.in_ok-send_document_cells_member.ensures.0,
    g.S.Serializer.written c.send_document_cells_member.new.out,
    c.in_ok-send_document_cells_member.ensures.1,
    c.in_ok-send_document_cells_member.ensures.2,
    (
      c.in_ok-send_member.ensures.0,
      g.S.Serializer.written c.send_member.new.out,
      c.in_ok-send_member.ensures.1,
      c.in_ok-send_member.ensures.2,
      (
        c.in_ok-send_member-2.ensures.0,
        g.S.Serializer.written c.send_member-2.new.out,
        c.in_ok-send_member-2.ensures.1,
        c.in_ok-send_member-2.ensures.2,
        ended,
      ),
    ),
  ),
)) c.end_map.ensures
