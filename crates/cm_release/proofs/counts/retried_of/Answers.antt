use Rattle.cm_release.specs.Counts.{texts_of}
use Rattle.cm_release.proofs.CountLemmas.{if_ok, retried_found}
use Rattle.cm_release.proofs.counts.retried_of.Goals as goal

pub returns : goal.returns
returns c =
    if_ok _ _ c.again_of.result c.again_of.ensures
    (λ ids found. retried_found (texts_of ids.items) c.args.kept.now c.as_slice.result.now c.in_ok-seen.seen c.as_slice.ensures c.in_ok-seen.ensures found)
