use Rattle.gk_line.proofs.CutLemmas as cut
use Rattle.gk_line.proofs.laws.lines_are_cut.Goals as goal

pub returns-clause-exist : goal.returns-clause-exist
returns-clause-exist c = cut.lines_are_cut

pub returns-clause-unique : goal.returns-clause-unique
returns-clause-unique c = cut.cut_is_one
