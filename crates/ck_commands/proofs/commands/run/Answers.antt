use Rattle.ck_command_line.specs.CommandLine.{over_input}
use Rattle.ck_commands.proofs.commands.run.Goals as goal

pub returns-clause-answer : goal.returns-clause-answer
returns-clause-answer g c = λ k asks none. (c.run_with-code.ensures.asked (over_input k) asks).2.answer none

pub returns-clause-status : goal.returns-clause-status
returns-clause-status g c = λ k asks. (c.run_with-code.ensures.asked (over_input k) asks).2.status

pub returns-clause-no_fault : goal.returns-clause-no_fault
returns-clause-no_fault g c = λ k asks failed. (c.run_with-code.ensures.asked (over_input k) asks).2.no_fault failed

pub returns-clause-read_failed : goal.returns-clause-read_failed
returns-clause-read_failed g c = λ k asks failed. (c.run_with-code.ensures.asked (over_input k) asks).2.read_failed failed

pub returns-clause-usage : goal.returns-clause-usage
returns-clause-usage g c = λ nothing. (c.run_with-code.ensures.nothing nothing).told

pub returns-clause-released : goal.returns-clause-released
returns-clause-released g c = λ r asks zero. let all = c.run_with-code.ensures.released r asks zero in (all.0, all.2)
