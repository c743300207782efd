use Rattle.std.proofs.Common.{map}
use Rattle.std.specs.String.{string_bytes}
use Rattle.cm_release.proofs.KeptLemmas.{ids_added}
use Rattle.cm_release.proofs.tally.add_ids.Goals as goal

pub loop-id-preserved : goal.loop-id-preserved
loop-id-preserved c =
    ids_added (map string_bytes c.args.ids.now.keys) (map string_bytes c.loop-id.ids.keys) (map string_bytes c.add_id.new.ids.keys) c.args.added.now c.loop-id.id-index c.id-item.result
    c.loop-id-test.true c.id-item.is c.loop-id.invariant c.in_ok-add_id.ensures
