use Rattle.gk_pickle.proofs.Ordering.{steps_in_document_order}
use Rattle.gk_pickle.proofs.laws.order_law.Goals as goal

pub returns : goal.returns
returns c = steps_in_document_order
