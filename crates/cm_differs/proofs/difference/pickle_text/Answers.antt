use Rattle.cm_differs.proofs.Plain.{pickle_plain}
use Rattle.cm_differs.proofs.difference.pickle_text.Goals as goal

pub returns : goal.returns
returns c = c.in_ok-text.ensures (pickle_plain c.args.pickle.now)
