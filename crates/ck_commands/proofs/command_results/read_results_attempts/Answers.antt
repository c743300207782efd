use Rattle.ck_commands.proofs.Lines.{answers, ends, not_done, same_failure, shows_no_fault}
use Rattle.ck_commands.proofs.command_results.read_results_attempts.Goals as goal

pub returns-in-Ok-clause-outcome : goal.returns-in-Ok-clause-outcome
returns-in-Ok-clause-outcome g c =
    ends c.args.first_attempt (record { track = c.counting_from.result }) c.counting_from.ensures c.take_lines.new.taker _ _ _ c.in-Ok.ensures.taken

pub returns-in-Err-clause-outcome : goal.returns-in-Err-clause-outcome
returns-in-Err-clause-outcome g c =
    answers c.args.first_attempt (record { track = c.counting_from.result }) c.counting_from.ensures c.take_lines.new.taker c.in-Err.answer _ _ c.in-Err.ensures.taken

pub returns-in-Err-clause-whole : goal.returns-in-Err-clause-whole
returns-in-Err-clause-whole g c = λ done.
    absurd (not_done (record { track = c.counting_from.result }) c.take_lines.new.taker c.in-Err.answer _ _ c.in-Err.ensures.taken done)

pub returns-in-Err-clause-failures : goal.returns-in-Err-clause-failures
returns-in-Err-clause-failures g c = rw (same_failure c.in-Err.answer) c.in-Err.ensures.failures

pub returns-in-Err-clause-no_fault : goal.returns-in-Err-clause-no_fault
returns-in-Err-clause-no_fault g c = λ failed.
    shows_no_fault c.args.first_attempt (record { track = c.counting_from.result }) c.counting_from.ensures c.take_lines.new.taker c.in-Err.answer _ _ c.in-Err.ensures.taken failed
