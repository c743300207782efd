use Rattle.std.proofs.Common.{◌∙◌, ap}
use Rattle.std.specs.List.{list_any}
use Rattle.std.specs.Str.{bytes_eq}
use Rattle.cm_stream.specs.Texts.{Utf8}
use Rattle.cm_cases.proofs.FirstLemmas.{has_any}
use Rattle.cm_cases.proofs.places.Places.is_named.Goals as goal

pub returns : goal.returns
returns c =
    rw (← c.self.view_is)
    (c.contains_key.ensures
    ∙ has_any (λ x. x.now) (λ x. x) (λ q. q.pickle_id) c.self.inside.listing.now.cases c.self.inside.named c.as_str.result.now c.self.invariant.1
    ∙ ap (λ (t : Utf8). list_any (λ q. bytes_eq t q.pickle_id) c.self.inside.listing.now.cases) c.as_str.ensures)
