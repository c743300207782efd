use Rattle.gk_pickle.proofs.Replacing.{nothing_to_fill}
use Rattle.gk_pickle.proofs.filling.has_no_placeholder.Goals as goal

pub returns : goal.returns
returns c = nothing_to_fill _ _ _ _ c.as_bytes.ensures.value c.memchr.ensures c.is_none.ensures
