use Rattle.std.proofs.Common.{◌+◌, option_map}
use Rattle.serde_json.specs.Data.{string}
use Rattle.cm_messages.specs.Layout.{list_data}
use Rattle.cm_messages.specs.DocumentLayout.{feature_data, comment_data, document_data}
use Rattle.cm_messages.proofs.Layouts.{counted, present-option_map, document_sent}
use Rattle.std.proofs.lemmas.Result.{on_ok_weaker}
use Rattle.cm_messages.proofs.document_message.DocumentMessageSendJsonMessageLayout.send.Goals as goal

pub returns : goal.returns
unfolding document_data
returns g c =
    let d = c.args.self.now.document.now in
    let feature = option_map feature_data d.feature in
    on_ok_weaker c.end_map-2.result (λ ended. (
      g.S.Serializer.written c.begin_map.new.self,
      c.in_ok-begin_map.ensures,
      (
        g.S.Serializer.written c.key.new.self,
        g.S.Serializer.written c.end_map.new.self,
        c.in_ok-key.ensures,
        document_sent feature (list_data comment_data d.comments) (string c.args.self.now.uri.now) (2 + c.one_if-count.result) (g.S.Serializer.written c.key.new.self) (g.S.Serializer.written c.begin_map-2.new.self) (g.S.Serializer.written c.send_list_member.new.out) (g.S.Serializer.written c.send_optional.new.out) (g.S.Serializer.written c.send_str.new.out) (g.S.Serializer.written c.end_map.new.self) (counted 2 _ _ feature c.one_if-count.ensures.is (present-option_map feature_data d.feature)) c.in_ok-begin_map-2.ensures c.in_ok-send_list_member.ensures c.in_ok-send_optional.ensures c.in_ok-send_str.ensures c.in_ok-end_map.ensures,
        ended,
      ),
    )) c.end_map-2.ensures
