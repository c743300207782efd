use Rattle.cm_stream.specs.Release.{conditions_of}
use Rattle.cm_release.proofs.Judging.{judged}
use Rattle.cm_release.proofs.judgement.Judgement.of.Goals as goal

pub returns : goal.returns
returns c es kept good results =
    judged c.args.settings (conditions_of c.args.conditions.now) es c.args.tally.now c.in_ok-found.found c.args.success c.args.counts c.counts-counted.result _ _
    kept good c.in_ok-found.ensures c.counts-counted.ensures c.hold_of-hold.ensures (λ trail. c.in_ok-reasons.ensures es trail results)
