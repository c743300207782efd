use Rattle.cm_messages.proofs.Floats.{document_plain}
use Rattle.cm_messages.proofs.message_text.document_text.Goals as goal

pub returns : goal.returns
returns c = c.in_ok-bytes.ensures (document_plain c.args.uri.now c.args.document.now)
