use Rattle.std.proofs.Common.{◌∙◌, ◌++◌, ap, refl, take}
use Rattle.std.proofs.lemmas.List.{take_all}
use Rattle.gk_pickle.specs.Steps.{type_of, keyword_types, steps_after}
use Rattle.gk_pickle.proofs.After.{keywords_more, rest_more, one_made}
use Rattle.gk_pickle.proofs.Made.{all_made}
use Rattle.gk_pickle.proofs.pickles.add_steps.Goals as goal

pub loop-step-preserved : goal.loop-step-preserved
loop-step-preserved c = record {
  last = λ earlier before.
      rw (keywords_more earlier _ _ _ c.loop-step-test.true c.step-item.is) (c.type_after-last.ensures (earlier ++ keyword_types (take c.loop-step.step-index c.args.steps.now)) (c.loop-step.invariant.last earlier before));
  made = λ earlier before.
      one_made _ _ _ _ _ _ _ _ _ _ c.in_ok-push.ensures.items c.in_ok-step.ensures (c.type_after-last.ensures (earlier ++ keyword_types (take c.loop-step.step-index c.args.steps.now)) (c.loop-step.invariant.last earlier before))
      (rest_more _ _ _ c.loop-step-test.true c.step-item.is) (keywords_more earlier _ _ _ c.loop-step-test.true c.step-item.is)
      ∙ c.loop-step.invariant.made earlier before;
}

pub returns-clause-made : goal.returns-clause-made
returns-clause-made c = λ earlier before.
    all_made (steps_after (earlier ++ keyword_types (take c.loop-step.step-index c.args.steps.now)) c.args.filling.now) _ c.args.steps.now c.loop-step.step-index _ refl
    c.loop-step-test.false (c.loop-step.invariant.made earlier before)

pub returns-clause-last : goal.returns-clause-last
returns-clause-last c = λ earlier before.
    c.loop-step.invariant.last earlier before ∙ ap (λ steps. type_of (earlier ++ keyword_types steps)) (take_all c.loop-step.step-index c.args.steps.now c.loop-step-test.false)
