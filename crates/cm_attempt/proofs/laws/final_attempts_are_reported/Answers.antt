use Rattle.cm_attempt.proofs.Accepted.{has_cases, reports}
use Rattle.cm_attempt.proofs.laws.final_attempts_are_reported.Goals as goal

pub returns-clause-cases : goal.returns-clause-cases
returns-clause-cases c = has_cases

pub returns-clause-reported : goal.returns-clause-reported
returns-clause-reported c = reports
