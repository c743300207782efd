use Rattle.cm_reasons.proofs.RunLaws.{no_hook_causes}
use Rattle.cm_reasons.proofs.laws.hook_causes_are_of_bad_hooks.Goals as goal

pub returns : goal.returns
returns c = no_hook_causes
