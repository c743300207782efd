use Rattle.std.proofs.Common.{◌∙◌, ap, sym, map, take, take_all}
use Rattle.cm_cases.proofs.ListingLemmas.{entry_ids, ids_of_pickles}
use Rattle.cm_cases.proofs.listing.Listing.pickle_uris.Goals as goal

pub returns : goal.returns
returns c =
    ids_of_pickles _ c.args.self.now
    (c.loop-pickle.invariant
    ∙ ap (λ xs. map entry_ids (take c.loop-pickle.pickle-index xs)) (sym c.as_slice-pickle-items.ensures)
    ∙ ap (map entry_ids) (take_all c.loop-pickle.pickle-index c.as_slice-pickle-items.result.now c.loop-pickle-test.false ∙ c.as_slice-pickle-items.ensures))
