use Rattle.cm_attempt.proofs.Refused.{refused_for_fault}
use Rattle.cm_attempt.proofs.laws.calls_are_refused_for_faults.Goals as goal

pub returns : goal.returns
returns c = refused_for_fault
