use Rattle.std.proofs.Common.{◌∙◌, ap, map}
use Rattle.cm_reasons.specs.Reasons.{step_ids}
use Rattle.cm_release.proofs.CountLemmas.{none_undefined}
use Rattle.cm_release.proofs.undefined_steps.Undefined.of.Goals as goal

pub returns-then-is_empty-clause-steps : goal.returns-then-is_empty-clause-steps
returns-then-is_empty-clause-steps c =
    ap (map step_ids) c.new.ensures.items ∙ none_undefined c.args.policy c.args.kept.now (c.is_empty.ensures.0 c.if-is_empty.true)
