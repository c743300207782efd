use Rattle.cm_judge.proofs.kept_sources.KeptSource.count_pickle.Goals as goal

pub returns-in-Accepted : goal.returns-in-Accepted
returns-in-Accepted c = λ uri. rw c.in-Accepted.is (c.count_pickle.ensures uri)
