use Rattle.std.proofs.Common.{◌+◌, option_map}
use Rattle.serde_json.specs.Data.{string}
use Rattle.cm_messages.proofs.Layouts.{counted, present-option_map, pickle_doc_string_sent}
use Rattle.std.proofs.lemmas.Result.{on_ok_weaker}
use Rattle.cm_differs.proofs.difference.PickleDocStringSendJsonDifferenceLayout.send.Goals as goal

pub returns : goal.returns
returns g c =
    let d = c.args.self.now in
    let media = option_map string d.media_type in
    on_ok_weaker c.end_map.result (λ ended. pickle_doc_string_sent media (string d.content) (1 + c.one_if-count.result) (g.S.Serializer.written c.args.out.now) (g.S.Serializer.written c.begin_map.new.self) (g.S.Serializer.written c.send_text.new.out) (g.S.Serializer.written c.send_optional.new.out) (g.S.Serializer.written c.end_map.new.self) (counted 1 _ _ media c.one_if-count.ensures.is (present-option_map string d.media_type)) c.in_ok-begin_map.ensures c.in_ok-send_text.ensures c.in_ok-send_optional.ensures ended) c.end_map.ensures
