use Rattle.std.proofs.Common.{◌∙◌, ap, sym, map, take, take_all}
use Rattle.cm_reasons.proofs.RunListed.{entry_texts, texts_of_sources}
use Rattle.cm_reasons.proofs.run_listing.RunListing.source_texts.Goals as goal

pub returns : goal.returns
returns c =
    texts_of_sources _ c.args.self.now
    (c.loop-source.invariant
    ∙ ap (λ xs. map entry_texts (take c.loop-source.source-index xs)) (sym c.as_slice-source-items.ensures)
    ∙ ap (map entry_texts) (take_all c.loop-source.source-index c.as_slice-source-items.result.now c.loop-source-test.false ∙ c.as_slice-source-items.ensures))
