use Rattle.std.proofs.Common.{length, map, sym}
use Rattle.std.proofs.lemmas.List.{length-map}
use Rattle.std.proofs.lemmas.Result.{on_ok_weaker}
use Rattle.cm_messages.proofs.Sent.{array_sent}
use Rattle.cm_messages.proofs.send.send_list.Goals as goal

pub returns : goal.returns
returns g c =
    let len = sym (length-map c.args.items.now g.T.SendJson.json) in
    on_ok_weaker c.end_seq.result (λ ended. array_sent (map g.T.SendJson.json c.args.items.now) (length c.args.items.now) (g.S.Serializer.written c.args.out.now) (g.S.Serializer.written c.begin_seq.new.self)
    (g.S.Serializer.written c.send_each.new.out) (g.S.Serializer.written c.end_seq.new.self) len c.in_ok-begin_seq.ensures c.in_ok-send_each.ensures ended) c.end_seq.ensures
