use Rattle.std.proofs.Common.{◌≡◌, refl, true, false, [], ◌∷◌}
use Rattle.std.specs.Prelude.{◌||◌, Bool}
use Rattle.std.proofs.lemmas.List.Folds.{list_any-append}
use Rattle.cm_reasons.specs.Trail.{ends_with_exception}
use Rattle.cm_reasons.proofs.trail.noted_exception.Goals as goal

or_nothing : (b : Bool) → b ≡ (b || false)
or_nothing true = refl
or_nothing false = refl

pub returns-then-before : goal.returns-then-before
returns-then-before c es is = rw (list_any-append ends_with_exception es (c.args.envelope.now ∷ []), ← is, c.if-before.true) refl

pub returns : goal.returns
returns c es is = rw (list_any-append ends_with_exception es (c.args.envelope.now ∷ []), ← is, c.if-before.false, c.ends_with_exception.ensures) (or_nothing (ends_with_exception c.args.envelope.now))
