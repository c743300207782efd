use Rattle.std.proofs.Common.{rules}
use Rattle.cm_judge.proofs.judging.judge_step_started.Goals as goal

pub returns-in_err-start_step : goal.returns-in_err-start_step
returns-in_err-start_step c = search rules
