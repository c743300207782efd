use Rattle.cm_reasons.proofs.RunLaws.{none_refused, one_list}
use Rattle.cm_reasons.proofs.laws.refused_lines_are_determined.Goals as goal

pub returns-clause-one : goal.returns-clause-one
returns-clause-one c = one_list

pub returns-clause-none : goal.returns-clause-none
returns-clause-none c = none_refused
