use Rattle.cm_messages.proofs.Floats.{pickle_plain}
use Rattle.cm_messages.proofs.message_text.pickle_text.Goals as goal

pub returns : goal.returns
returns c = c.in_ok-bytes.ensures (pickle_plain c.args.uri.now c.args.first_id c.args.pickle.now)
