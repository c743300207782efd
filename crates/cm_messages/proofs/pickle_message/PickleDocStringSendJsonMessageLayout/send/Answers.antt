use Rattle.std.proofs.Common.{◌∙◌, ◌+◌, ap, sym}
use Rattle.serde_json.specs.Data.{string}
use Rattle.cm_messages.specs.Layout.{media_data}
use Rattle.cm_messages.specs.Sending.{option_count}
use Rattle.cm_messages.proofs.Layouts.{counted, present-option_map, pickle_doc_string_sent}
use Rattle.std.proofs.lemmas.Result.{on_ok_weaker}
use Rattle.cm_messages.proofs.pickle_message.PickleDocStringSendJsonMessageLayout.send.Goals as goal

pub returns : goal.returns
returns g c =
    let d = c.args.self.now in
    let media = media_data d.media in
    on_ok_weaker c.end_map.result (λ ended. pickle_doc_string_sent media (string d.content) (1 + c.one_if-count.result) (g.S.Serializer.written c.args.out.now) (g.S.Serializer.written c.begin_map.new.self) (g.S.Serializer.written c.send_text.new.out) (g.S.Serializer.written c.send_media.new.out) (g.S.Serializer.written c.end_map.new.self) (counted 1 _ _ media c.one_if-count.ensures.is (sym (ap option_count c.media_of.ensures) ∙ present-option_map _ c.media_of.result)) c.in_ok-begin_map.ensures c.in_ok-send_text.ensures c.in_ok-send_media.ensures ended) c.end_map.ensures
