use Rattle.cm_stream.proofs.TableSteps.{table_steps as steps}
use Rattle.cm_stream.proofs.ByGrammar.{none_is_refused_law}
use Rattle.cm_stream.proofs.laws.table_steps.Goals as goal

pub returns-clause-steps : goal.returns-clause-steps
returns-clause-steps c = steps

pub returns-clause-accepted : goal.returns-clause-accepted
returns-clause-accepted c = none_is_refused_law
