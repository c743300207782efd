use Rattle.std.proofs.Common.{◌≡◌, ◌<◌, ◌+◌, ◌∷◌, ◌∙◌, ap, subst, sym, false, true, length, get_or, drop, Some, arith}
use Rattle.std.specs.List.{filter_map}
use Rattle.cm_refs.specs.StepIds.{ids_in}
use Rattle.cm_stream.specs.Texts.{same_texts}
use Rattle.cm_judge.proofs.Cases.{is_at, is_within, other_texts, same_after, with_id, without_id, named_step}
use Rattle.cm_judge.proofs.judging.has_steps.Goals as goal
use Rattle.cm_judge.proofs.judging.has_steps.Goals.{in-Some+else-not-is_step_at, in_default}

pub returns-then-not-is_step_at : goal.returns-then-not-is_step_at
returns-then-not-is_step_at c =
    let ts = c.args.case.now.test_steps in
    let ss = ids_in c.args.steps.now in
    let i = c.loop-step.step-index in
    let n = c.loop-step.next in
    let id = c.as_str.result.now in
    let within : i < length ts = subst (λ l. i < length l) c.as_slice-step-items.ensures c.loop-step-test.true in
    let here : c.step-item.result ≡ get_or ts i c.step-item.result = c.step-item.is ∙ ap (λ l. get_or l i c.step-item.result) c.as_slice-step-items.ensures in
    let ids : filter_map named_step (drop i ts) ≡ id ∷ filter_map named_step (drop (i + 1) ts) =
    with_id named_step ts i c.step-item.result within here id (c.in-Some.is ∙ ap Some (sym c.as_str.ensures)) in
    let at : is_at ss n id ≡ false = sym c.is_step_at.ensures ∙ c.if-not-is_step_at.true in
    sym (
    sym c.loop-step.invariant.same
    ∙ ap (same_texts (drop n ss)) ids
    ∙ other_texts ss n id (filter_map named_step (drop (i + 1) ts)) at
    )

pub loop-step-preserved : goal.loop-step-preserved
loop-step-preserved c =
    let ts = c.args.case.now.test_steps in
    let ss = ids_in c.args.steps.now in
    let i = c.loop-step.step-index in
    let n = c.loop-step.next in
    let within : i < length ts = subst (λ l. i < length l) c.as_slice-step-items.ensures c.loop-step-test.true in
    let here : c.step-item.result ≡ get_or ts i c.step-item.result = c.step-item.is ∙ ap (λ l. get_or l i c.step-item.result) c.as_slice-step-items.ensures in
    elim c.match-step.branch [
      | in-Some+else-not-is_step_at w ↦
          let id = w.as_str.result.now in
          let ids : filter_map named_step (drop i ts) ≡ id ∷ filter_map named_step (drop (i + 1) ts) =
          with_id named_step ts i c.step-item.result within here id (w.in-Some.is ∙ ap Some (sym w.as_str.ensures)) in
          let at : is_at ss n id ≡ true = sym w.is_step_at.ensures ∙ w.if-not-is_step_at.false in
          record {
            within = omega (arith, is_within ss n id at, w.next-is);
            same =
                ap (λ m. same_texts (drop m ss) (filter_map named_step (drop (i + 1) ts))) w.next-is
                ∙ sym (same_after ss n id (filter_map named_step (drop (i + 1) ts)) at)
                ∙ sym (ap (same_texts (drop n ss)) ids)
                ∙ c.loop-step.invariant.same;
          }
      | in_default w ↦
          let ids : filter_map named_step (drop i ts) ≡ filter_map named_step (drop (i + 1) ts) =
          without_id named_step ts i c.step-item.result within here w.in_default.is in
          record {
            within = omega (arith, c.loop-step.invariant.within, w.next-is);
            same =
                ap (λ m. same_texts (drop m ss) (filter_map named_step (drop (i + 1) ts))) w.next-is
                ∙ sym (ap (same_texts (drop n ss)) ids)
                ∙ c.loop-step.invariant.same;
          }
    ]

pub overflow_add-next : goal.overflow_add-next
overflow_add-next c =
    let at = sym c.is_step_at.ensures ∙ c.if-not-is_step_at.false in
    omega (arith, is_within (ids_in c.args.steps.now) c.loop-step.next c.as_str.result.now at, c.len-count.ensures, c.len-count.type_inv)
