use Rattle.std.proofs.Common.{rules}
use Rattle.gk_pickle.proofs.Opens.{stand_kept, stand_opened}
use Rattle.gk_pickle.proofs.filling.Reading.open.Goals as goal

pub invariant_of-self-in_err-push : goal.invariant_of-self-in_err-push
invariant_of-self-in_err-push c = stand_kept _ _ _ _ _ c.in_ok-push_str.ensures.bytes c.in_err-push.ensures.items c.self.invariant

pub invariant_of-self-2 : goal.invariant_of-self-2
invariant_of-self-2 c = stand_opened _ _ _ _ _ c.in_ok-push_str.ensures.bytes c.in_ok-push.ensures.items (search rules) c.self.invariant
