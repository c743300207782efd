use Rattle.cm_state.proofs.Steps.{summaries_step_law as law}
use Rattle.cm_state.proofs.laws.summaries_step.Goals as goal

pub returns : goal.returns
returns c = law
