use Rattle.std.proofs.Common.{◌∙◌, ap, ◌++◌, List, ℕ, string_bytes}
use Rattle.std.specs.Prelude.{codes}
use Rattle.cm_cases.proofs.ListingLemmas.{on_ok}
use Rattle.cm_steps.proofs.StepLemmas.{listing_told}
use Rattle.cm_steps.proofs.listing.StepListing.add_named_step.Goals as goal

pub returns : goal.returns
returns c =
    on_ok c.add_told.result c.add_told.ensures
    (λ h es is. h ∙ ap (λ (t : List ℕ). string_bytes c.args.text.now ++ t) (listing_told (codes "step ") es c.args.self.now c.args.case.now c.args.step.now is))
