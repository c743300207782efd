use Rattle.ck_commands.proofs.Exactly.{ends_well, releases_exactly}
use Rattle.ck_commands.proofs.laws.gate_releases_exactly.Goals as goal

pub returns-clause-exactly : goal.returns-clause-exactly
returns-clause-exactly c = releases_exactly

pub returns-clause-ends : goal.returns-clause-ends
returns-clause-ends c = ends_well
