use Rattle.serde_json.proofs.FreeTexts.{text_of_value}
use Rattle.cm_messages.proofs.send.json_text.Goals as goal

pub returns-in-Ok : goal.returns-in-Ok
returns-in-Ok g c = λ plain.
    let written = c.in-Ok.ensures.events in
    text_of_value (g.T.SendJson.json c.args.value.now) written.0 c.in-Ok.bytes.items written.1 written.2 plain
