use Rattle.std.proofs.Common.{◌∙◌}
use Rattle.cm_cases.proofs.FirstLemmas.{one_first}
use Rattle.cm_release.proofs.undefined_steps.unmatched_by_case.Goals as goal

pub loop-case-preserved : goal.loop-case-preserved
loop-case-preserved c =
    one_first (λ s. s) (λ x. x.unmatched) (λ x. x.id) c.args.cases.now c.loop-case.case-index c.case-item.result c.loop-case.map c.add_first.new.map c.as_str.result.now c.in_ok-unmatched.unmatched
    c.loop-case-test.true c.case-item.is c.as_str.ensures (c.in_ok-unmatched.ensures ∙ c.as_slice.ensures) c.loop-case.invariant c.in_ok-add_first.ensures
