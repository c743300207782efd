use Rattle.std.proofs.Common.{◌≡◌}
use Rattle.serde_json.specs.View.{items_view}
use Rattle.cm_envelope.specs.Member.{each, object_in}
use Rattle.cm_reading.proofs.Each.{with_front, items_from}
use Rattle.cm_reading.proofs.member.objects.Given as goal

abbrev pub invariant-loop-value : goal.invariant-loop-value
invariant-loop-value g l = with_front l.objects.items (each (object_in l.name g.T.ReadObject.reads) (items_from l.value-index l.values)) ≡ each (object_in l.name g.T.ReadObject.reads) (items_view l.values)
