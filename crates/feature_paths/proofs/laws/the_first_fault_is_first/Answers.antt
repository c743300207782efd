use Rattle.feature_paths.proofs.FirstFaults.{first_is_first}
use Rattle.feature_paths.proofs.laws.the_first_fault_is_first.Goals as goal

pub returns : goal.returns
returns c = first_is_first
