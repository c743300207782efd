use Rattle.gk_parts.proofs.Differences.{one_difference, unequal}
use Rattle.gk_parts.proofs.listing.difference_law.Goals as goal

pub returns-clause-one : goal.returns-clause-one
returns-clause-one c = one_difference

pub returns-clause-unequal : goal.returns-clause-unequal
returns-clause-unequal c = unequal
