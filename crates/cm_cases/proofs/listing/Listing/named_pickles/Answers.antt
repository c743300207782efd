use Rattle.std.proofs.Common.{◌∙◌, ap, sym, map, take, take_all}
use Rattle.cm_cases.proofs.ListingLemmas.{entry_named, named_by_cases}
use Rattle.cm_cases.proofs.listing.Listing.named_pickles.Goals as goal

pub returns : goal.returns
returns c =
    named_by_cases _ c.args.self.now
    (c.loop-case.invariant
    ∙ ap (λ xs. map entry_named (take c.loop-case.case-index xs)) (sym c.as_slice-case-items.ensures)
    ∙ ap (map entry_named) (take_all c.loop-case.case-index c.as_slice-case-items.result.now c.loop-case-test.false ∙ c.as_slice-case-items.ensures))
