use Rattle.std.proofs.lemmas.Result.{on_ok_weaker}
use Rattle.cm_messages.specs.PickleLayout.{pickle_data}
use Rattle.cm_messages.proofs.pickle_message.PickleMessageSendJsonMessageLayout.send.Goals as goal

pub returns : goal.returns
unfolding pickle_data
returns g c = on_ok_weaker c.end_map-2.result (λ ended. (
  g.S.Serializer.written c.begin_map.new.self,
  c.in_ok-begin_map.ensures,
  (
    g.S.Serializer.written c.key.new.self,
    g.S.Serializer.written c.end_map.new.self,
    c.in_ok-key.ensures,
    (
      g.S.Serializer.written c.begin_map-2.new.self,
      c.in_ok-begin_map-2.ensures,
      (
        c.in_ok-send_list_member.ensures.0,
        g.S.Serializer.written c.send_list_member.new.out,
        c.in_ok-send_list_member.ensures.1,
        c.in_ok-send_list_member.ensures.2,
        (
          c.in_ok-send_pickle_id.ensures.0,
          g.S.Serializer.written c.send_pickle_id.new.out,
          c.in_ok-send_pickle_id.ensures.1,
          c.in_ok-send_pickle_id.ensures.2,
          (
            c.in_ok-send_str.ensures.0,
            g.S.Serializer.written c.send_str.new.out,
            c.in_ok-send_str.ensures.1,
            c.in_ok-send_str.ensures.2,
            (
              c.in_ok-send_text.ensures.0,
              g.S.Serializer.written c.send_text.new.out,
              c.in_ok-send_text.ensures.1,
              c.in_ok-send_text.ensures.2,
              (
                c.in_ok-send_pickle_steps_member.ensures.0,
                g.S.Serializer.written c.send_pickle_steps_member.new.out,
                c.in_ok-send_pickle_steps_member.ensures.1,
                c.in_ok-send_pickle_steps_member.ensures.2,
                (
                  c.in_ok-send_list_member-2.ensures.0,
                  g.S.Serializer.written c.send_list_member-2.new.out,
                  c.in_ok-send_list_member-2.ensures.1,
                  c.in_ok-send_list_member-2.ensures.2,
                  (
                    c.in_ok-send_str-2.ensures.0,
                    g.S.Serializer.written c.send_str-2.new.out,
                    c.in_ok-send_str-2.ensures.1,
                    c.in_ok-send_str-2.ensures.2,
                    c.in_ok-end_map.ensures,
                  ),
                ),
              ),
            ),
          ),
        ),
      ),
    ),
    ended,
  ),
)) c.end_map-2.ensures
