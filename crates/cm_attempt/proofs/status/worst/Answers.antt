use Rattle.std.proofs.Common.{rules, ◌≡◌}
use Rattle.cm_attempt.specs.Worst.{worst_of}
use Rattle.cm_attempt.proofs.WorstLemmas.{worst_bound, worst_member}
use Rattle.cm_attempt.proofs.status.worst.Goals as goal

pub returns-clause-member : goal.returns-clause-member
returns-clause-member c =
    let same : c.unwrap_or.result ≡ worst_of c.args.statuses.now = search rules in
    rw same (worst_member c.args.statuses.now)

pub returns-clause-bound : goal.returns-clause-bound
returns-clause-bound c =
    let same : c.unwrap_or.result ≡ worst_of c.args.statuses.now = search rules in
    rw same (worst_bound c.args.statuses.now)
