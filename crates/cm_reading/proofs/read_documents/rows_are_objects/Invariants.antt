use Rattle.std.proofs.Common.{◌≡◌}
use Rattle.serde_json.specs.View.{items_view}
use Rattle.cm_envelope.specs.Documents.{is_object}
use Rattle.cm_envelope.specs.Member.{all_items}
use Rattle.cm_reading.proofs.Each.{items_from}
use Rattle.cm_reading.proofs.read_documents.rows_are_objects.Given as goal

abbrev pub invariant-loop-value : goal.invariant-loop-value
invariant-loop-value l = all_items is_object (items_from l.value-index l.values) ≡ all_items is_object (items_view l.values)
