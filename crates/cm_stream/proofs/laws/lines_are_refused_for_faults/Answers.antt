use Rattle.cm_stream.proofs.CallChecks.{faults_are_checks}
use Rattle.cm_stream.proofs.Tables.{refused_for_faults}
use Rattle.cm_stream.proofs.laws.lines_are_refused_for_faults.Goals as goal

pub returns-clause-refused : goal.returns-clause-refused
returns-clause-refused c = refused_for_faults

pub returns-clause-checks : goal.returns-clause-checks
returns-clause-checks c = faults_are_checks
