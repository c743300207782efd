use Rattle.std.proofs.Common.{◌∙◌, ap, sym, Ok}
use Rattle.serde_json.specs.Find.{as_str}
use Rattle.cm_envelope.specs.Member.{good}
use Rattle.cm_reading.proofs.Each.{all_read, one_read, one_refused, refusal_given}
use Rattle.cm_reading.proofs.member.each_text.Goals as goal

pub loop-value-preserved : goal.loop-value-preserved
loop-value-preserved c =
    one_read (λ e. good c.args.name.now (as_str e)) _ _ _ _ _ _ _ c.in_ok-push.ensures.items c.in_ok-text.ensures c.loop-value-test.true c.value-item.is c.loop-value.invariant

pub returns : goal.returns
returns c =
    all_read (λ e. good c.args.name.now (as_str e)) _ _ _ _ c.loop-value-test.false c.loop-value.invariant ∙ ap Ok (sym c.from.ensures)

pub returns-in_err-text : goal.returns-in_err-text
returns-in_err-text c =
    refusal_given c.from_residual.result c.in_err-text.field-0.0 _ c.from_residual.ensures
    (one_refused (λ e. good c.args.name.now (as_str e)) c.loop-value.texts.items c.args.values.now c.loop-value.value-index c.value-item.result _ _ c.in_err-text.ensures c.loop-value-test.true c.value-item.is c.loop-value.invariant)
