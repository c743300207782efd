use Rattle.cm_cases.proofs.ListingLemmas.{on_ok}
use Rattle.cm_fault_reasons.proofs.scenario.add_of_pickle.Goals as goal

pub returns : goal.returns
returns c = on_ok c.add_pickle_line-added.result c.add_pickle_line-added.ensures (λ added es is. added es (c.in_ok-places.ensures es is))
