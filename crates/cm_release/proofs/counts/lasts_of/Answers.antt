use Rattle.std.proofs.Common.{refl}
use Rattle.cm_release.proofs.CountLemmas.{last_noted}
use Rattle.cm_release.proofs.counts.lasts_of.Goals as goal

pub loop-start-preserved : goal.loop-start-preserved
loop-start-preserved c =
    last_noted c.args.starts.now c.loop-start.start-index c.start-item.result _ c.as_str.result.now c.loop-start.lasts c.insert.new.self
    c.loop-start-test.true c.start-item.is c.as_str.ensures refl c.loop-start.invariant c.in_ok-insert.ensures.updates.0
