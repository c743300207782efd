use Rattle.std.proofs.Common.{◌∙◌, ap, sym}
use Rattle.std.proofs.lemmas.Result.{IfOk-weaker}
use Rattle.cm_stream.proofs.Lists.{map_twice}
use Rattle.cm_reasons.specs.Lines.{limited_text}
use Rattle.cm_reasons.specs.Reasons.{step_ids, undefined_line}
use Rattle.cm_reasons.specs.declared.trail.Trail.{Trail}
use Rattle.cm_reasons.proofs.reasons.undefined_text.Goals as goal

pub returns : goal.returns
returns c =
    IfOk-weaker c.limited_text-text.result _ _
    (λ text told es is.
    told es (c.in_ok-places.ensures ∙ ap (λ (t : Trail). t.listing) is, ap (λ (t : Trail). t.steps) is)
    ∙ ap limited_text (sym (map_twice (undefined_line es) step_ids c.args.steps.now)))
    c.limited_text-text.ensures
