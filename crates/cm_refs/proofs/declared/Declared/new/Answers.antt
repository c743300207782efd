use Rattle.std.proofs.Common.{rules}
use Rattle.cm_refs.proofs.declared.Declared.new.Goals as goal

pub returns : goal.returns
returns c = search rules
