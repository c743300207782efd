use Rattle.cm_stream.proofs.Released.{released_ran as all, each_ran_where_none_may_stay as each, named_ran as named}
use Rattle.cm_stream.proofs.ReleasedScenarios.{released_scenarios_ran as scenarios}
use Rattle.cm_stream.proofs.laws.released_scenarios_ran.Goals as goal

pub returns-clause-all : goal.returns-clause-all
returns-clause-all c = all

pub returns-clause-each : goal.returns-clause-each
returns-clause-each c = each

pub returns-clause-scenarios : goal.returns-clause-scenarios
returns-clause-scenarios c = scenarios

pub returns-clause-named : goal.returns-clause-named
returns-clause-named c = named
