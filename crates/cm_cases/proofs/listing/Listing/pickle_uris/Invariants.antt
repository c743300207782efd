use Rattle.std.proofs.Common.{◌≡◌, map, take}
use Rattle.cm_cases.specs.Listed.{both_texts}
use Rattle.cm_cases.proofs.ListingLemmas.{entry_ids}
use Rattle.cm_cases.proofs.listing.Listing.pickle_uris.Given as goal

abbrev pub invariant-loop-pickle : goal.invariant-loop-pickle
invariant-loop-pickle l = map both_texts l.found.items ≡ map entry_ids (take l.pickle-index l.self.pickles)
