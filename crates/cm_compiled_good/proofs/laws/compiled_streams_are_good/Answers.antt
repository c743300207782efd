use Rattle.cm_compiled_good.proofs.Law.{compiled_are_good}
use Rattle.cm_compiled_good.proofs.laws.compiled_streams_are_good.Goals as goal

pub returns : goal.returns
returns c = compiled_are_good
