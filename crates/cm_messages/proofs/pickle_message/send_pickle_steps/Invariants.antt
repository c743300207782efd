use Rattle.std.proofs.Common.{◌≡◌, ◌+◌, drop}
use Rattle.serde.specs.Event.{Log, WritesEach}
use Rattle.serde_json.specs.Events.{SendsValue}
use Rattle.cm_messages.specs.PickleLayout.{pickle_steps_data}
use Rattle.cm_messages.proofs.pickle_message.send_pickle_steps.Given as goal

-- what ends it well from here ends it well from the start
abbrev pub invariant-steps : goal.invariant-steps
invariant-steps g l =
    record {
      ids : l.id ≡ l.first_id + l.step-index;
      sent : (end : Log) → WritesEach SendsValue (pickle_steps_data l.id (drop l.step-index l.steps)) (g.S.Serializer.written l.out) end
          → WritesEach SendsValue (pickle_steps_data l.first_id l.steps) (g.S.Serializer.written l.initial.out) end;
    }
