use Rattle.feature_paths.proofs.FirstFaults.{none_passed_over}
use Rattle.feature_paths.proofs.laws.no_fault_is_passed_over.Goals as goal

pub returns : goal.returns
returns c = none_passed_over
