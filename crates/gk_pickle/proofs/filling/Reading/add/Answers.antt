use Rattle.gk_pickle.proofs.Opens.{stand_added}
use Rattle.gk_pickle.proofs.filling.Reading.add.Goals as goal

pub invariant_of-self-2 : goal.invariant_of-self-2
invariant_of-self-2 c = stand_added _ _ _ _ c.in_ok-push_str.ensures.bytes c.self.invariant
