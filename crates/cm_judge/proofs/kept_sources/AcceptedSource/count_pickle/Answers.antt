use Rattle.std.proofs.Common.{◌∙◌}
use Rattle.cm_judge.proofs.kept_sources.AcceptedSource.count_pickle.Goals as goal

pub returns : goal.returns
returns c = λ uri. c.forget.ensures uri ∙ c.pass.ensures uri
