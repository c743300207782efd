use Rattle.std.proofs.Common.{◌∙◌, ap, arith, refl}
use Rattle.serde_json.specs.Data.{array}
use Rattle.serde_json.specs.View.{items_of}
use Rattle.serde_json.proofs.Views.{view-Array}
use Rattle.cm_messages.specs.PickleLayout.{pickle_steps_data}
use Rattle.gk_pickle.proofs.Made.{all_made}
use Rattle.gk_values.proofs.Written.{one_step_written}
use Rattle.gk_values.proofs.json.steps_value.Goals as goal

pub loop-step-preserved : goal.loop-step-preserved
loop-step-preserved c = record {
  id = omega arith;
  made = one_step_written _ _ _ _ _ _ _ _ c.in_ok-push.ensures.items c.in_ok-value.ensures c.loop-step-test.true c.step-item.is c.loop-step.invariant.made;
}

pub returns : goal.returns
returns c =
    view-Array c.loop-step.values
    ∙ ap (λ ds. array (items_of ds)) (all_made (pickle_steps_data c.loop-step.id) _ c.args.steps.now c.loop-step.step-index _ refl c.loop-step-test.false c.loop-step.invariant.made)
