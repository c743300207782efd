use Rattle.gk_grammar.specs.Place.{ByFeature, ByScenario, ByQuotes}
use Rattle.std.proofs.Common.{refl}
use Rattle.gk_plain.proofs.PlainFronts.{told_front, last_tells}
use Rattle.gk_plain.proofs.plain.is_front.Goals as goal

pub returns-then-branch : goal.returns-then-branch
returns-then-branch c ls m = (λ i. told_front ByFeature c.in_ok-completes.field-0 c.args.lines.now c.in_ok-completes.ensures c.if-branch.true ls m, λ i. refl)

pub returns-then-branch-2 : goal.returns-then-branch-2
returns-then-branch-2 c ls m = (λ i. told_front ByScenario c.in_ok-completes-2.field-0 c.args.lines.now c.in_ok-completes-2.ensures c.if-branch-2.true ls m, λ i. refl)

pub returns-then-branch-3 : goal.returns-then-branch-3
returns-then-branch-3 c ls m = (λ i. told_front ByQuotes c.in_ok-completes-3.field-0 c.args.lines.now c.in_ok-completes-3.ensures c.if-branch-3.true ls m, λ i. refl)

pub returns : goal.returns
returns c ls m =
    last_tells c.args.lines.now c.is_feature_file.result c.in_ok-completes.field-0 c.in_ok-completes-2.field-0 c.in_ok-completes-3.field-0 c.in_ok-completes-4.field-0
    c.is_feature_file.ensures c.in_ok-completes.ensures c.in_ok-completes-2.ensures c.in_ok-completes-3.ensures c.in_ok-completes-4.ensures
    c.if-is_feature_file.false c.if-branch.false c.if-branch-2.false c.if-branch-3.false ls m
