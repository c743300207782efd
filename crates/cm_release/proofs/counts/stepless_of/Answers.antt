use Rattle.cm_release.specs.Counts.{texts_of}
use Rattle.cm_release.proofs.CountLemmas.{if_ok, stepless_found}
use Rattle.cm_release.proofs.counts.stepless_of.Goals as goal

pub returns : goal.returns
returns c =
    if_ok _ _ c.of_stepless.result c.of_stepless.ensures
    (λ ids found.
    stepless_found (texts_of ids.items) c.args.kept.now c.as_slice.result.now c.as_slice-2.result.now c.in_ok-pickles.pickles
    c.as_slice.ensures c.as_slice-2.ensures c.in_ok-pickles.ensures found)
