use Rattle.std.proofs.Common.{take}
use Rattle.cm_cases.specs.Firsts.{HasFirsts}
use Rattle.cm_cases.proofs.places.places_by_uri.Given as goal

abbrev pub invariant-loop-entry : goal.invariant-loop-entry
invariant-loop-entry l = HasFirsts (λ lines. lines) (λ d. d.places) (λ d. d.uri) (take l.entry-index l.entries) l.map
