use Rattle.cm_stream.proofs.ReleasedScenarios.{released_cases_meet as cases, released_steps_matched as steps, strictly_released as strict, strictly_ran as strict_part}
use Rattle.cm_stream.proofs.laws.released_cases_meet_conditions.Goals as goal

pub returns-clause-cases : goal.returns-clause-cases
returns-clause-cases c = cases

pub returns-clause-steps : goal.returns-clause-steps
returns-clause-steps c = steps

pub returns-clause-strict : goal.returns-clause-strict
returns-clause-strict c = strict

pub returns-clause-strict_part : goal.returns-clause-strict_part
returns-clause-strict_part c = strict_part
