use Rattle.std.proofs.lemmas.Result.{on_ok_weaker}
use Rattle.cm_messages.proofs.document_message.send_document_cell.Goals as goal

pub returns : goal.returns
returns g c = on_ok_weaker c.end_map.result (λ ended. (
  g.S.Serializer.written c.begin_map.new.self,
  c.in_ok-begin_map.ensures,
  (
    c.in_ok-send_member.ensures.0,
    g.S.Serializer.written c.send_member.new.out,
    c.in_ok-send_member.ensures.1,
    c.in_ok-send_member.ensures.2,
    (
      c.in_ok-send_text.ensures.0,
      g.S.Serializer.written c.send_text.new.out,
      c.in_ok-send_text.ensures.1,
      c.in_ok-send_text.ensures.2,
      ended,
    ),
  ),
)) c.end_map.ensures
