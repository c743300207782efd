use Rattle.std.proofs.Common.{◌-◌, arith}
use Rattle.gk_pickle.proofs.PlaceLemmas.{found_at, rule_group_at}
use Rattle.gk_pickle.proofs.next_pickles.group_at.Goals as goal

pub returns-clause-found : goal.returns-clause-found
returns-clause-found c =
    let some = c.if-group-eq0.false in
    rule_group_at c.args.feature.now c.as_slice.result.now c.args.group (c.args.group - 1) c.in_ok-get.field-0.now c.as_slice.ensures (omega (arith, some))
    (found_at c.as_slice.result.now (c.args.group - 1) c.in_ok-get.field-0.now c.in_ok-get.ensures.lookup.0 c.in_ok-get.ensures.lookup.1)
