use Rattle.std.proofs.Common.{rules}
use Rattle.cm_stream.proofs.laws.kept_status.Goals as goal

pub returns-in-Failed : goal.returns-in-Failed
returns-in-Failed c = search rules
