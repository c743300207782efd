use Rattle.cm_release.proofs.CountLemmas.{again_noted}
use Rattle.cm_release.proofs.counts.count_again.Goals as goal

pub returns : goal.returns
returns c = again_noted c.args.seen.now c.insert.new.self c.args.text.now c.contains_key-again.result c.contains_key-again.ensures c.in_ok-insert.ensures.updates.0
