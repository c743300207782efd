use Rattle.std.proofs.Common.{◌+◌}
use Rattle.serde_json.specs.Data.{string}
use Rattle.cm_differs.specs.PartData.{location_data}
use Rattle.cm_differs.proofs.Sent.{step_sent}
use Rattle.std.proofs.Common.{ap}
use Rattle.std.proofs.lemmas.Result.{on_ok_weaker}
use Rattle.cm_differs.proofs.difference.StepSendJsonDifferenceLayout.send.Goals as goal

pub returns : goal.returns
returns g c =
    let s = c.args.self.now in
    on_ok_weaker c.end_map.result (λ ended. step_sent s.argument (string s.keyword) (location_data s.location) (string s.text) (3 + c.one_if-count.result) (g.S.Serializer.written c.args.out.now) (g.S.Serializer.written c.begin_map.new.self) (g.S.Serializer.written c.send_argument.new.out) (g.S.Serializer.written c.send_text.new.out) (g.S.Serializer.written c.send_location.new.out) (g.S.Serializer.written c.send_text-2.new.out) (g.S.Serializer.written c.end_map.new.self) (ap (λ n. 3 + n) c.one_if-count.ensures.is) c.in_ok-begin_map.ensures c.in_ok-send_argument.ensures c.in_ok-send_text.ensures c.in_ok-send_location.ensures c.in_ok-send_text-2.ensures ended) c.end_map.ensures
