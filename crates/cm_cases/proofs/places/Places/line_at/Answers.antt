use Rattle.std.proofs.Common.{◌∙◌, refl, Some, None}
use Rattle.std.specs.Prelude.{find}
use Rattle.std.specs.Option.{option_map_or}
use Rattle.std.specs.Str.{bytes_eq}
use Rattle.cm_cases.proofs.FirstLemmas.{places_found}
use Rattle.cm_cases.proofs.places.Places.line_at.Goals as goal

pub returns-in-Some : goal.returns-in-Some
returns-in-Some c =
    let found = places_found c.self.inside.listing.now.documents c.self.inside.documents c.args.uri.now c.args.uri.now (Some c.in-Some.lines.now) c.self.invariant.3 c.in-Some.ensures.value refl in
    rw (← c.self.view_is)
    (c.line.ensures ∙ (λ j. option_map_or (λ x. x.line) (find (λ x. bytes_eq c.args.node.now x.id) (found j)) 0))

pub returns-in-None : goal.returns-in-None
returns-in-None c =
    let found = places_found c.self.inside.listing.now.documents c.self.inside.documents c.args.uri.now c.args.uri.now None c.self.invariant.3 c.in-None.ensures.value refl in
    rw (← c.self.view_is)
    (λ j. option_map_or (λ x. x.line) (find (λ x. bytes_eq c.args.node.now x.id) (found j)) 0)
