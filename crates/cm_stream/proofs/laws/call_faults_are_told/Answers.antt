use Rattle.cm_stream.proofs.CallChecks.{own_are_checks}
use Rattle.cm_stream.proofs.ByGrammar.{call_faults_are_told_law}
use Rattle.cm_stream.proofs.laws.call_faults_are_told.Goals as goal

pub returns-clause-refused : goal.returns-clause-refused
returns-clause-refused c = call_faults_are_told_law

pub returns-clause-own : goal.returns-clause-own
returns-clause-own c = own_are_checks
