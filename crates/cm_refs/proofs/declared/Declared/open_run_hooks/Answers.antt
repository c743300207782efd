use Rattle.std.proofs.Common.{arith}
use Rattle.std.proofs.lemmas.Grind.{common_steps}
use Rattle.cm_refs.proofs.declared.Declared.open_run_hooks.Goals as goal

pub returns : goal.returns
returns c = grind (arith, common_steps)
