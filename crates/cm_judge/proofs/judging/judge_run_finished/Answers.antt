use Rattle.std.proofs.Common.{rules}
use Rattle.cm_judge.proofs.judging.judge_run_finished.Goals as goal

pub returns : goal.returns
returns c = search rules
