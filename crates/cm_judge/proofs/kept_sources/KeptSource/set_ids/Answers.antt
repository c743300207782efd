use Rattle.cm_judge.proofs.kept_sources.KeptSource.set_ids.Goals as goal

pub returns-in-Accepted : goal.returns-in-Accepted
returns-in-Accepted c = λ uri. rw c.in-Accepted.is (c.set_ids.ensures uri)
