use Rattle.std.proofs.Common.{length, sym}
use Rattle.cm_messages.specs.PickleLayout.{pickle_steps_data}
use Rattle.cm_messages.proofs.Layouts.{length-pickle_steps_data}
use Rattle.std.proofs.lemmas.Result.{on_ok_weaker}
use Rattle.cm_messages.proofs.Sent.{array_sent}
use Rattle.cm_messages.proofs.pickle_message.send_pickle_steps_list.Goals as goal

pub returns : goal.returns
returns g c =
    let len = sym (length-pickle_steps_data c.args.first_id c.args.steps.now) in
    on_ok_weaker c.end_seq.result (λ ended. array_sent (pickle_steps_data c.args.first_id c.args.steps.now) (length c.args.steps.now) (g.S.Serializer.written c.args.out.now) (g.S.Serializer.written c.begin_seq.new.self)
    (g.S.Serializer.written c.send_pickle_steps.new.out) (g.S.Serializer.written c.end_seq.new.self) len c.in_ok-begin_seq.ensures c.in_ok-send_pickle_steps.ensures ended) c.end_seq.ensures
