use Rattle.std.proofs.Common.{ap, Option, Some, None}
use Rattle.std.specs.Option.{option_map_or}
use Rattle.cm_cases.specs.declared.listing.Place.{Place}
use Rattle.cm_cases.proofs.FirstLemmas.{got_same}
use Rattle.cm_cases.proofs.places.Lines.line.Goals as goal

pub returns-in-Some : goal.returns-in-Some
returns-in-Some c =
    rw (← c.self.view_is)
    (ap (λ (o : Option Place). option_map_or (λ x. x.line) o 0)
    (got_same (λ x. x.now) (λ x. x.id) c.self.inside.places.now c.self.inside.by_id c.args.node.now (Some c.in-Some.place.now) c.self.invariant c.in-Some.ensures.value))

pub returns-in-None : goal.returns-in-None
returns-in-None c =
    rw (← c.self.view_is)
    (ap (λ (o : Option Place). option_map_or (λ x. x.line) o 0)
    (got_same (λ x. x.now) (λ x. x.id) c.self.inside.places.now c.self.inside.by_id c.args.node.now None c.self.invariant c.in-None.ensures.value))
