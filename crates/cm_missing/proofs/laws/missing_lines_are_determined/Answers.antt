use Rattle.cm_missing.proofs.LawLemmas.{nothing_is_missing, one_missing_list}
use Rattle.cm_missing.proofs.laws.missing_lines_are_determined.Goals as goal

pub returns-clause-one : goal.returns-clause-one
returns-clause-one c = one_missing_list

pub returns-clause-none : goal.returns-clause-none
returns-clause-none c = nothing_is_missing
