use Rattle.std.proofs.Common.{rules}
use Rattle.cm_judge.proofs.judging.judge_case.Goals as goal

pub returns-then-not-has_steps_of_pickle : goal.returns-then-not-has_steps_of_pickle
returns-then-not-has_steps_of_pickle c = search rules
