use Rattle.cm_refs.proofs.EntryLemmas.{list_any-map}
use Rattle.cm_release.proofs.tally.has_id.Goals as goal

pub returns-then-not-is_empty : goal.returns-then-not-is_empty
returns-then-not-is_empty c = rw list_any-map c.contains.ensures
