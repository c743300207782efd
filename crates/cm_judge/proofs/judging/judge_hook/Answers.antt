use Rattle.std.proofs.Common.{◌≡◌, ◌∙◌, refl, ap, false}
use Rattle.cm_attempt.specs.Table.{has_text}
use Rattle.cm_refs.specs.Declarations.{with_hook}
use Rattle.cm_envelope.specs.declared.envelope.Envelope.TheVariants.{Hook}
use Rattle.cm_judge.specs.State.{summary_of}
use Rattle.cm_judge.specs.Stops.{refused_reference}
use Rattle.cm_judge.proofs.Judged.{free_by, stops, told_by}
use Rattle.cm_judge.proofs.judging.judge_hook.Goals as goal

pub returns-in_err-declare_hook : goal.returns-in_err-declare_hook
returns-in_err-declare_hook c =
    let fault = c.in_err-declare_hook.field-0.0 in
    let answer = rw c.as_str.ensures at c.in_err-declare_hook.ensures.answer in
    stops c.args.state.now (record (c.args.state.now) { declared = c.declare_hook.new.self }) (Hook c.args.hook.now) c.from_residual.result (refused_reference fault) c.from_residual.ensures.1
    (told_by (has_text c.args.hook.now.id c.args.state.now.declared.hooks) fault answer)
    (λ i. summary_of (record (c.args.state.now) { declared = c.in_err-declare_hook.ensures.err i }))

pub returns : goal.returns
returns c =
    let old = c.args.state.now in
    let answer = rw c.as_str.ensures at c.in_ok-declare_hook.ensures.answer in
    let new : has_text c.args.hook.now.id old.declared.hooks ≡ false = free_by (has_text c.args.hook.now.id old.declared.hooks) answer in
    let made = c.in_ok-declare_hook.ensures.ok ∙ ap (λ t. with_hook t old.declared) c.as_str.ensures in (
      rw new refl,
      λ i. summary_of (record old { declared = made i }),
    )
