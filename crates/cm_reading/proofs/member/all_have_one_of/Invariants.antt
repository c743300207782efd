use Rattle.std.proofs.Common.{◌≡◌}
use Rattle.serde_json.specs.View.{items_view}
use Rattle.cm_envelope.specs.Member.{all_items, has_one_of}
use Rattle.cm_reading.proofs.Each.{items_from}
use Rattle.cm_reading.proofs.member.all_have_one_of.Given as goal

abbrev pub invariant-loop-object : goal.invariant-loop-object
invariant-loop-object l = all_items (has_one_of l.first l.second) (items_from l.object-index l.objects) ≡ all_items (has_one_of l.first l.second) (items_view l.objects)
