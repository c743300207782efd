use Rattle.cm_reasons.proofs.UndefinedLemmas.{undefined_steps_are_told as law}
use Rattle.cm_reasons.proofs.laws.undefined_steps_are_told.Goals as goal

pub returns : goal.returns
returns c = law
