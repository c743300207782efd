use Rattle.std.proofs.Common.{◌∙◌, ap, sym}
use Rattle.std.specs.Prelude.{Some, None, if◌then◌else◌}
use Rattle.std.specs.Str.{bytes_eq}
use Rattle.cm_cases.specs.Firsts.{or_else, value_at}
use Rattle.cm_stream.specs.Texts.{Utf8}
use Rattle.cm_reasons.proofs.RunHookLemmas.{bad_one, good_one}
use Rattle.cm_reasons.proofs.run_hooks.bad_ends.Goals as goal
use Rattle.cm_reasons.proofs.run_hooks.bad_ends.Goals.{then-not-is_good+in_ok-add_first, else-not-is_good}

pub loop-end-preserved : goal.loop-end-preserved
loop-end-preserved c id =
    let item = c.end-item.result in
    elim c.if-not-is_good.branch [
      | then-not-is_good+in_ok-add_first w ↦ ap (λ m. value_at m id) w.bad-is
          ∙ (bad_one c.args.policy c.args.ends.now c.loop-end.end-index item id (value_at c.loop-end.bad id) c.loop-end-test.true c.end-item.is (c.loop-end.invariant id) _
          (w.in_ok-add_first.ensures id ∙ ap (λ (t : Utf8). or_else (value_at c.loop-end.bad id) (if bytes_eq id t then Some item.status else None)) w.as_str.ensures) (sym c.is_good.ensures ∙ w.if-not-is_good.true))
      | else-not-is_good w ↦ ap (λ m. value_at m id) w.bad-is
          ∙ (good_one c.args.policy c.args.ends.now c.loop-end.end-index item id (value_at c.loop-end.bad id) c.loop-end-test.true c.end-item.is (c.loop-end.invariant id) (sym c.is_good.ensures ∙ w.if-not-is_good.false))
    ]
