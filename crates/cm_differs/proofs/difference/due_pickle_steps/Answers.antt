use Rattle.std.proofs.Common.{ap, drop, refl, ◌∙◌}
use Rattle.gk_pickle.proofs.Made.{all_made}
use Rattle.cm_differs.specs.DuePickles.{due_pickle_step, due_pickle_steps}
use Rattle.cm_differs.proofs.Steps.{one_step, step_at}
use Rattle.cm_differs.proofs.difference.due_pickle_steps.Goals as goal

pub loop-i-preserved : goal.loop-i-preserved
loop-i-preserved c =
    one_step _ _ _ _ _ _ _ _ _ c.in_ok-push.ensures.ok (c.in_ok-step.ensures ∙ ap (λ o. due_pickle_step c.args.ids.now o c.index-due-i.result) (step_at _ _ _ c.get.ensures.lookup.0 c.get.ensures.lookup.1))
    c.loop-i-test.true c.index-due-i.is c.loop-i.invariant

pub returns : goal.returns
returns c = all_made (due_pickle_steps c.args.ids.now (drop c.loop-i.i c.args.beside.now)) _ _ _ _ refl c.loop-i-test.false c.loop-i.invariant
