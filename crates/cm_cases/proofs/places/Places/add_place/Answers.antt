use Rattle.std.proofs.Common.{◌∙◌, ap, ◌++◌, List, ℕ, string_bytes}
use Rattle.cm_cases.proofs.ListingLemmas.{on_ok}
use Rattle.cm_cases.proofs.PlaceLemmas.{place_shown}
use Rattle.cm_cases.proofs.places.Places.add_place.Goals as goal

pub returns : goal.returns
returns c =
    on_ok c.add_at.result c.add_at.ensures
    (λ h es is.
    h ∙ ap (λ (t : List ℕ). string_bytes c.args.text.now ++ t) (place_shown c.args.self.now es c.args.uri.now c.args.name.now c.args.node.now is))
