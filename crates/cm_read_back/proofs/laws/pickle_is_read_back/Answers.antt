use Rattle.cm_read_back.proofs.Pickles.{pickle_is}
use Rattle.cm_read_back.proofs.laws.pickle_is_read_back.Goals as goal

pub returns : goal.returns
returns c = pickle_is
