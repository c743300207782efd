use Rattle.cm_judge.proofs.Skeleton.{awaited_skeleton}
use Rattle.cm_judge.proofs.kept_sources.AcceptedSource.is_awaited.Goals as goal

pub returns-in-Some : goal.returns-in-Some
returns-in-Some c = awaited_skeleton c.same_skeleton.result c.args.document.now c.awaited.result c.in-Some.awaited _ c.in-Some.is c.awaited.ensures c.same_skeleton.ensures
