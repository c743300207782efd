use Rattle.std.proofs.Common.{◌+◌, take, inl, arith}
use Rattle.gk_plain.proofs.PlainFronts.{fronts_more, take_kinds, first_bad_here}
use Rattle.gk_plain.proofs.plain.first_bad.Goals as goal

pub returns-then-not-branch-clause-some : goal.returns-then-not-branch-clause-some
returns-then-not-branch-clause-some c ls m =
    inl (first_bad_here c.loop-before.before ls c.args.lines.now m (omega arith) (c.loop-before.invariant ls m) (λ i.
    let t = (c.in_ok-is_front.ensures (take (c.loop-before.before + 1) ls) (take_kinds ls c.args.lines.now c.split_at.result.0.now (c.loop-before.before + 1) m c.split_at.ensures.front)).1 i in
    let f = c.if-not-branch.true in
    cc))

pub loop-before-preserved : goal.loop-before-preserved
loop-before-preserved c ls m =
    fronts_more c.loop-before.before ls (c.loop-before.invariant ls m) ((c.in_ok-is_front.ensures (take (c.loop-before.before + 1) ls) (take_kinds ls c.args.lines.now c.split_at.result.0.now (c.loop-before.before + 1) m c.split_at.ensures.front)).0 c.if-not-branch.false)
