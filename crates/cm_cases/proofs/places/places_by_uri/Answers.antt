use Rattle.std.proofs.Common.{take}
use Rattle.cm_cases.proofs.FirstLemmas.{up_to_next}
use Rattle.cm_cases.proofs.places.places_by_uri.Goals as goal

pub loop-entry-preserved : goal.loop-entry-preserved
loop-entry-preserved c =
    let entries = c.args.entries.now in
    up_to_next (λ lines. lines) (λ d. d.places) (λ d. d.uri) entries c.loop-entry.entry-index c.entry-item.result c.add_document_places.new.map
    c.loop-entry-test.true c.entry-item.is (c.in_ok-add_document_places.ensures (take c.loop-entry.entry-index entries) c.loop-entry.invariant)
