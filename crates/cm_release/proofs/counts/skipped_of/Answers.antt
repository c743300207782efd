use Rattle.std.proofs.Common.{◌∙◌, ap, List}
use Rattle.cm_release.specs.Counts.{last_start, texts_of}
use Rattle.cm_release.specs.declared.tally.StartEntry.{StartEntry}
use Rattle.cm_release.proofs.CountLemmas.{if_ok, skipped_found}
use Rattle.cm_release.proofs.counts.skipped_of.Goals as goal

pub returns : goal.returns
returns c =
    if_ok _ _ c.last_among.result c.last_among.ensures
    (λ ids found.
    skipped_found (texts_of ids.items) c.args.kept.now c.in_ok-skips.skips c.as_slice-3.result.now c.in_ok-lasts.lasts c.as_slice-3.ensures (c.in_ok-skips.ensures ∙ c.as_slice-2.ensures)
    (λ id. c.in_ok-lasts.ensures id ∙ ap (λ (l : List StartEntry). last_start l id) c.as_slice.ensures) found)
