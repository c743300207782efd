use Rattle.std.proofs.Common.{rules}
use Rattle.cm_reading.proofs.member.present.Goals as goal

pub returns-in-Some : goal.returns-in-Some
returns-in-Some c = search rules
