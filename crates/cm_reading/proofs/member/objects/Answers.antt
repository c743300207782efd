use Rattle.std.proofs.Common.{◌∙◌, ap, sym, Ok}
use Rattle.cm_envelope.specs.Member.{object_in}
use Rattle.cm_reading.proofs.Each.{all_read, one_read, one_refused, refusal_given}
use Rattle.cm_reading.proofs.member.objects.Goals as goal

pub loop-value-preserved : goal.loop-value-preserved
loop-value-preserved g c =
    one_read (object_in c.args.name.now g.T.ReadObject.reads) _ _ _ _ _ _ _ c.in_ok-push.ensures.items c.in_ok-object.ensures c.loop-value-test.true c.value-item.is c.loop-value.invariant

pub returns : goal.returns
returns g c =
    all_read (object_in c.args.name.now g.T.ReadObject.reads) _ _ _ _ c.loop-value-test.false c.loop-value.invariant ∙ ap Ok (sym c.from.ensures)

pub returns-in_err-object : goal.returns-in_err-object
returns-in_err-object g c =
    refusal_given c.from_residual.result c.in_err-object.field-0.0 _ c.from_residual.ensures
    (one_refused (object_in c.args.name.now g.T.ReadObject.reads) c.loop-value.objects.items c.args.values.now c.loop-value.value-index c.value-item.result _ _ c.in_err-object.ensures c.loop-value-test.true c.value-item.is c.loop-value.invariant)
