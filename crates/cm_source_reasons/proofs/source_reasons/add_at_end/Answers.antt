use Rattle.cm_cases.proofs.ListingLemmas.{on_ok}
use Rattle.cm_source_reasons.proofs.source_reasons.add_at_end.Goals as goal

pub returns : goal.returns
returns c =
    on_ok c.add_first_lack-added.result c.add_first_lack-added.ensures (λ h es is. h es (c.in_ok-places.ensures es is))
