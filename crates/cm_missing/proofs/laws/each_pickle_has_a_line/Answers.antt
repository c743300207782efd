use Rattle.cm_missing.proofs.LineLemmas.{one_line_for_each}
use Rattle.cm_missing.proofs.laws.each_pickle_has_a_line.Goals as goal

pub returns : goal.returns
returns c = one_line_for_each
