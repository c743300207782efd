use Rattle.std.proofs.Common.{◌∙◌, ◌++◌, ◌∷◌, []}
use Rattle.cm_steps.proofs.ListingLemmas.{feature_row}
use Rattle.cm_steps.proofs.listing.document_row.Goals as goal

pub returns : goal.returns
returns c =
    feature_row c.args.document.now c.in-Some.feature c.as_slice.result.now c.add.new.self c.add_feature.new.row (c.in_ok-add.ensures.ok ∙ (λ j. c.new-row.ensures j ++ c.as_str.ensures j ∷ [])) c.as_slice.ensures c.in-Some.is
    c.in_ok-add_feature.ensures
