use Rattle.std.proofs.Common.{◌≡◌}
use Rattle.serde_json.specs.View.{items_view}
use Rattle.cm_envelope.specs.Documents.{each_node, node_in, children_of}
use Rattle.cm_reading.proofs.Each.{with_nodes, items_from}
use Rattle.cm_reading.proofs.read_documents.children.Given as goal

abbrev pub invariant-loop-value : goal.invariant-loop-value
invariant-loop-value g l = with_nodes l.nodes (each_node (node_in l.name g.T.ReadNode.reads) l.ids (children_of l.name (items_from l.value-index l.values))) ≡ each_node (node_in l.name g.T.ReadNode.reads) l.fn.ids (children_of l.name (items_view l.values))
