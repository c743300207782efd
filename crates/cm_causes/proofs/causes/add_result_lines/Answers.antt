use Rattle.std.proofs.Common.{◌∙◌, ap}
use Rattle.cm_cases.proofs.ListingLemmas.{on_ok}
use Rattle.cm_reasons.specs.declared.trail.Trail.{Trail}
use Rattle.cm_causes.proofs.causes.add_result_lines.Goals as goal

pub returns : goal.returns
returns c = on_ok c.add_limited-added.result c.add_limited-added.ensures (λ added es is. added es (c.in_ok-places.ensures es is, c.steps.ensures ∙ ap (λ (t : Trail). t.steps) is))
