use Rattle.cm_envelope.specs.Documents.{node_in}
use Rattle.cm_reading.proofs.Each.{node_refusal_given, one_node_refused}
use Rattle.cm_reading.proofs.member.member_nodes.Goals as goal

pub returns-in_err-node : goal.returns-in_err-node
returns-in_err-node g c =
    node_refusal_given c.from_residual.result c.node_in_member.new.ids c.in_err-node.field-0.0 _ c.from_residual.ensures
    (one_node_refused (node_in c.args.name.now g.T.ReadNode.reads) c.loop-value.nodes c.loop-value.ids c.args.values.now c.loop-value.value-index c.value-item.result _ _ c.in_err-node.ensures c.loop-value-test.true c.value-item.is c.loop-value.invariant)
