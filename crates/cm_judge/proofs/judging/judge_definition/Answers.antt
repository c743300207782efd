use Rattle.std.proofs.Common.{◌≡◌, ◌∙◌, refl, ap, false}
use Rattle.cm_attempt.specs.Table.{has_text}
use Rattle.cm_refs.specs.Declarations.{with_definition}
use Rattle.cm_envelope.specs.declared.envelope.Envelope.TheVariants.{StepDefinition}
use Rattle.cm_judge.specs.State.{summary_of}
use Rattle.cm_judge.specs.Stops.{refused_reference}
use Rattle.cm_judge.proofs.Judged.{free_by, stops, told_by}
use Rattle.cm_judge.proofs.judging.judge_definition.Goals as goal

pub returns-in_err-declare_definition : goal.returns-in_err-declare_definition
returns-in_err-declare_definition c =
    let fault = c.in_err-declare_definition.field-0.0 in
    let answer = rw c.as_str.ensures at c.in_err-declare_definition.ensures.answer in
    stops c.args.state.now (record (c.args.state.now) { declared = c.declare_definition.new.self }) (StepDefinition c.args.definition.now) c.from_residual.result (refused_reference fault) c.from_residual.ensures.1
    (told_by (has_text c.args.definition.now.id c.args.state.now.declared.definitions) fault answer)
    (λ i. summary_of (record (c.args.state.now) { declared = c.in_err-declare_definition.ensures.err i }))

pub returns : goal.returns
returns c =
    let old = c.args.state.now in
    let answer = rw c.as_str.ensures at c.in_ok-declare_definition.ensures.answer in
    let new : has_text c.args.definition.now.id old.declared.definitions ≡ false = free_by (has_text c.args.definition.now.id old.declared.definitions) answer in
    let made = c.in_ok-declare_definition.ensures.ok ∙ ap (λ t. with_definition t old.declared) c.as_str.ensures in (
      rw new refl,
      λ i. summary_of (record old { declared = made i }),
    )
