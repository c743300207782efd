use Rattle.gk_pickle.proofs.Counting.{one_without_examples, one_for_each_row, rows_in_order}
use Rattle.gk_pickle.proofs.laws.counting_law.Goals as goal

pub returns-clause-one : goal.returns-clause-one
returns-clause-one c = one_without_examples

pub returns-clause-each_row : goal.returns-clause-each_row
returns-clause-each_row c = one_for_each_row

pub returns-clause-in_order : goal.returns-clause-in_order
returns-clause-in_order c = rows_in_order
