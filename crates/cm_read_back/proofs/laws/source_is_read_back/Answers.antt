use Rattle.cm_read_back.proofs.Pickles.{source_is}
use Rattle.cm_read_back.proofs.laws.source_is_read_back.Goals as goal

pub returns : goal.returns
returns c = source_is
