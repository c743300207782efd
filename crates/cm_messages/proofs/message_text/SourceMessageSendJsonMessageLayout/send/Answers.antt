use Rattle.std.proofs.lemmas.Result.{on_ok_weaker}
use Rattle.cm_messages.specs.SourceLayout.{source_data}
use Rattle.cm_messages.proofs.message_text.SourceMessageSendJsonMessageLayout.send.Goals as goal

pub returns : goal.returns
unfolding source_data
returns g c = on_ok_weaker c.end_map-2.result (λ ended. (
  g.S.Serializer.written c.begin_map.new.self,
  c.in_ok-begin_map.ensures,
  (
    g.S.Serializer.written c.key.new.self,
    g.S.Serializer.written c.end_map.new.self,
    c.in_ok-key.ensures,
    (
      g.S.Serializer.written c.begin_map-2.new.self,
      c.in_ok-begin_map-2.ensures,
      (
        c.in_ok-send_str.ensures.0,
        g.S.Serializer.written c.send_str.new.out,
        c.in_ok-send_str.ensures.1,
        c.in_ok-send_str.ensures.2,
        (
          c.in_ok-send_str-2.ensures.0,
          g.S.Serializer.written c.send_str-2.new.out,
          c.in_ok-send_str-2.ensures.1,
          c.in_ok-send_str-2.ensures.2,
          (
            c.in_ok-send_str-3.ensures.0,
            g.S.Serializer.written c.send_str-3.new.out,
            c.in_ok-send_str-3.ensures.1,
            c.in_ok-send_str-3.ensures.2,
            c.in_ok-end_map.ensures,
          ),
        ),
      ),
    ),
    ended,
  ),
)) c.end_map-2.ensures
