use Rattle.cm_cases.proofs.ListingLemmas.{on_ok}
use Rattle.cm_release.proofs.tally.Tally.note.Goals as goal

pub returns : goal.returns
returns c = on_ok c.note-2.result c.note-2.ensures (λ keeps es was. (keeps es was.0, c.in_ok-note.ensures es was.1))
