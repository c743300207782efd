use Rattle.std.proofs.Common.{◌≡◌, map, take}
use Rattle.cm_cases.specs.Listed.{both_texts}
use Rattle.cm_reasons.proofs.RunListed.{entry_texts}
use Rattle.cm_reasons.proofs.run_listing.RunListing.source_texts.Given as goal

abbrev pub invariant-loop-source : goal.invariant-loop-source
invariant-loop-source l = map both_texts l.found.items ≡ map entry_texts (take l.source-index l.self.sources)
