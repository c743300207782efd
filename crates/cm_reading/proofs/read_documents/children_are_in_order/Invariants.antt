use Rattle.std.proofs.Common.{◌≡◌}
use Rattle.serde_json.specs.View.{items_view}
use Rattle.cm_envelope.specs.Documents.{are_in_order}
use Rattle.cm_reading.proofs.Each.{items_from}
use Rattle.cm_reading.proofs.read_documents.children_are_in_order.Given as goal

abbrev pub invariant-loop-child : goal.invariant-loop-child
invariant-loop-child l = are_in_order l.in_feature l.least (items_from l.child-index l.children) ≡ are_in_order l.in_feature 0 (items_view l.children)
