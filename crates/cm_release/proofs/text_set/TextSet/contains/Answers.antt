use Rattle.std.proofs.Common.{◌∙◌}
use Rattle.cm_cases.proofs.FirstLemmas.{has_any}
use Rattle.cm_release.proofs.text_set.TextSet.contains.Goals as goal

pub returns : goal.returns
returns c = rw (← c.self.view_is) (c.contains_key.ensures ∙ has_any (λ x. x.now) (λ x. x) (λ t. t) c.self.inside.texts.now c.self.inside.by_text c.args.text.now c.self.invariant)
