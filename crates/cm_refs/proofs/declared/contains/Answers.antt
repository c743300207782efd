use Rattle.cm_refs.proofs.EntryLemmas.{list_any-map}
use Rattle.cm_refs.proofs.declared.contains.Goals as goal

pub returns : goal.returns
returns c = rw list_any-map c.contains.ensures
