use Rattle.cm_messages.proofs.Floats.{source_plain}
use Rattle.cm_messages.proofs.message_text.source_text.Goals as goal

pub returns : goal.returns
returns c = c.in_ok-bytes.ensures (source_plain c.args.uri.now c.args.text.now)
