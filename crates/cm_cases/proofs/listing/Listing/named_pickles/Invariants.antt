use Rattle.std.proofs.Common.{◌≡◌, map, take}
use Rattle.cm_cases.proofs.ListingLemmas.{entry_named}
use Rattle.cm_cases.proofs.listing.Listing.named_pickles.Given as goal

abbrev pub invariant-loop-case : goal.invariant-loop-case
invariant-loop-case l = map (λ id. id.now) l.found.items ≡ map entry_named (take l.case-index l.self.cases)
