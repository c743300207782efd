use Rattle.std.proofs.Common.{rules}
use Rattle.gk_values.proofs.json.add_optional.Goals as goal

pub returns-in-None : goal.returns-in-None
returns-in-None c = search rules
