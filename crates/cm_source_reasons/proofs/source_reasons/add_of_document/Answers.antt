use Rattle.std.proofs.Common.{refl}
use Rattle.cm_cases.proofs.ListingLemmas.{on_ok}
use Rattle.cm_source_reasons.specs.SourceKept.{difference_lines}
use Rattle.cm_source_reasons.proofs.source_reasons.add_of_document.Goals as goal

pub returns : goal.returns
returns c =
    on_ok c.add_difference.result c.add_difference.ensures
    (λ h. (difference_lines c.in_ok-difference.difference, (c.in_ok-difference.difference, c.in_ok-difference.ensures, refl), h))
