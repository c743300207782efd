use Rattle.std.proofs.Common.{[], ◌∷◌, map, refl}
use Rattle.gk_parts.specs.Parts.{StepPart}
use Rattle.gk_parts.proofs.Adding.{one_added, all_added}
use Rattle.gk_parts.proofs.listing.add_steps.Goals as goal

pub loop-step-preserved : goal.loop-step-preserved
loop-step-preserved c =
    one_added (map StepPart) (StepPart c.step-item.result ∷ []) _ _ _ c.args.steps.now c.loop-step.step-index c.step-item.result
    (λ _. refl) c.in_ok-add.ensures c.loop-step-test.true c.step-item.is c.loop-step.invariant

pub returns : goal.returns
returns c = all_added (map StepPart) _ _ c.args.steps.now c.loop-step.step-index refl c.loop-step-test.false c.loop-step.invariant
