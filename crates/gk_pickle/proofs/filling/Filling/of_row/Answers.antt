use Rattle.std.proofs.Common.{rules}
use Rattle.gk_pickle.proofs.filling.Filling.of_row.Goals as goal

pub returns : goal.returns
returns c = search rules
